use Rattle.std.proofs.Common.{◌++◌, [], ℕ, List, Some, sym, subst}
use Rattle.opgp_octets.specs.declared.limits.Limits.{Limits}
use Rattle.opgp_armor.specs.declared.label.Label.TheVariants.{Message}
use Rattle.opgp_codec.specs.Blocks.{Framed}
use Rattle.opgp_codec.specs.Items.{Passed}
use Rattle.opgp_codec.specs.Text.{Through}
use Rattle.opgp_codec.specs.declared.items.Front.TheVariants.{Armored}
use Rattle.opgp_codec.proofs.ItemsPassing.{decide_text, take_first}
use Rattle.opgp_codec.proofs.items.Items.decide.Goals as goal

pub returns-else-first-ge128-clause-passed : goal.returns-else-first-ge128-clause-passed
returns-else-first-ge128-clause-passed c accepts mode limits input items f =
    let p = c.args.self.now in
    let t = c.new.result in
    let h = c.begin.new.self in
    subst (λ (l : List ℕ). Passed accepts mode limits (Armored t) h (input ++ l) input items) (sym (take_first c.args.piece.now c.in-len1-up.len_at_least))
    (decide_text accepts mode limits t p.framer h p.front _ input items c.in-Undecided.is f.passed c.if-first-ge128.false c.new.ensures.work
    (λ all framed. subst (λ (l : Limits). Through accepts l t h [] all) f.limits_kept (c.new.ensures.through accepts h all c.begin.ensures.begun (subst (λ (l : Limits). Framed accepts l h [] (Some Message) [] all) (sym f.limits_kept) framed)))
    (λ l done was octets all x. c.begin.ensures.framed accepts l done was octets all x))
