use Rattle.std.proofs.Common.{◌+◌, refl, sym, ap, ◌∙◌, subst, []}
use Rattle.opgp_frame.specs.declared.deframe.Deframe.{Deframe}
use Rattle.opgp_frame.specs.Fed.{Fed, count_of}
use Rattle.opgp_codec.proofs.Blocking.{closed_stopped, closed_whole, closed_faulty, none_is}
use Rattle.opgp_codec.proofs.blocks.Blocks.close.Goals as goal

pub returns-then-is_some-clause-framed : goal.returns-then-is_some-clause-framed
returns-then-is_some-clause-framed c accepts limits done label octets items f =
    closed_stopped accepts limits c.args.self.now _ done label octets items
    (record { accepts_is = refl; limits_is = refl; label_is = refl; number = refl; begun_is = refl; count = ap count_of c.replace-deframe.ensures.after ∙ c.new-next.ensures.count; packets_is = refl })
    (sym c.is_some.ensures ∙ c.if-is_some.true) refl f

pub returns-in-Ok-clause-framed : goal.returns-in-Ok-clause-framed
returns-in-Ok-clause-framed c accepts limits done label octets items f =
    closed_whole accepts limits c.args.self.now _ done label octets items
    (record { accepts_is = refl; limits_is = refl; label_is = refl; number = refl; begun_is = refl; count = ap count_of c.replace-deframe.ensures.after ∙ c.new-next.ensures.count; packets_is = refl })
    c.requires.begun (none_is _ (sym c.is_some.ensures ∙ c.if-is_some.false)) refl
    (λ taken fed. c.in-Ok.ensures.ok limits _ octets taken (subst (λ (d : Deframe). Fed limits c.args.self.now.number d octets taken) (sym c.replace-deframe.ensures.value) fed))
    (subst (λ (d : Deframe). Fed c.args.self.now.limits (c.args.self.now.number + 1) d [] []) (sym c.replace-deframe.ensures.after) c.new-next.ensures.fed)
    f

pub returns-in-Err-clause-framed : goal.returns-in-Err-clause-framed
returns-in-Err-clause-framed c accepts limits done label octets items f =
    closed_faulty accepts limits c.args.self.now _ done label octets items c.in-Err.fault c.taken_and_ready_are_longest.ensures
    (record { accepts_is = refl; limits_is = refl; label_is = refl; number = refl; begun_is = refl; count = ap count_of c.replace-deframe.ensures.after ∙ c.new-next.ensures.count; packets_is = refl })
    c.requires.begun (none_is _ (sym c.is_some.ensures ∙ c.if-is_some.false)) refl
    (λ taken fed. c.in-Err.ensures.ok limits _ octets taken (subst (λ (d : Deframe). Fed limits c.args.self.now.number d octets taken) (sym c.replace-deframe.ensures.value) fed))
    f
