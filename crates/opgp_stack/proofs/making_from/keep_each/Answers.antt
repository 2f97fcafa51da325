use Rattle.std.proofs.Common.{◌≡◌, ◌++◌, ◌∷◌, [], Err, true, false, ap, append-nil, subst}
use Rattle.std.specs.Prelude.{MatchResult}
use Rattle.opgp_keyring.specs.State.{part_of}
use Rattle.opgp_codec.specs.Draft.{DraftHas}
use Rattle.opgp_codec.specs.IncomingParts.{PartsCame}
use Rattle.opgp_codec.specs.Reading.{Outcome}
use Rattle.opgp_stack.specs.Making.{Keeps}
use Rattle.opgp_stack.proofs.ReadFor.{unread}
use Rattle.opgp_stack.proofs.making_from.keep_each.Goals as goal

pub parts-init : goal.parts-init
parts-init g c = (c.requires.sound, [], λ mode limits before h. h, λ a h. h)

pub next-requires-clause-sound : goal.next-requires-clause-sound
next-requires-clause-sound g c = c.parts.invariant.0

pub next-requires-clause-came : goal.next-requires-clause-came
next-requires-clause-came g c =
    let came = c.requires.came in
    (came.0, came.1, came.2, c.parts.invariant.1, c.parts.invariant.2 came.0 came.1 came.2 came.3)

pub returns-in_err-part : goal.returns-in_err-part
returns-in_err-part g c =
    let answer : Outcome Unit → Type 0 = λ answer. MatchResult answer (λ _. Keeps (DraftHas g.S.Spool.serves g.S.Spool.tells g.S.Spool.holds g.S.Spool.has_failed) g.R.Source.left g.R.Source.has_failed c.args.source.now c.next.new.source c.args.incoming.now c.next.new.self c.args.making.now c.parts.making) (λ _. ⊥) in
    unread answer (g.R.Source.has_failed c.next.new.source ≡ true) (g.R.Source.has_failed c.next.new.source ≡ false) c.from_residual.result c.in_err-part.field-0.0 c.from_residual.ensures
    (λ e. c.in_err-part.ensures.read (ap Err e)) (λ e. c.in_err-part.ensures.memory (ap Err e)) (λ fault e. c.in_err-part.ensures.other fault (ap Err e))

pub parts-preserved-in-Some-2 : goal.parts-preserved-in-Some-2
parts-preserved-in-Some-2 g c =
    let list = c.parts.invariant.1 in
    let came = rw c.in-Some.is at c.in_ok-part.ensures.came in
    let whole = rw c.in-Some.is at c.in_ok-part.ensures.whole in
    let first = c.requires.came in
    let is_whole = whole first.0 first.1 first.2 list (c.parts.invariant.2 first.0 first.1 first.2 first.3) in
    (c.in_ok-part.ensures.sound, list ++ part_of c.in-Some.part ∷ [], λ mode limits before h. c.reuse.ensures.came _ _ _ _ _ (came mode limits before list (c.parts.invariant.2 mode limits before h)), λ a h. c.in_ok-spare.ensures a list (c.parts.invariant.3 a h) is_whole)

pub parts-preserved : goal.parts-preserved
parts-preserved g c =
    let list = c.parts.invariant.1 in
    let came = rw c.in-Some.is at c.in_ok-part.ensures.came in
    let whole = rw c.in-Some.is at c.in_ok-part.ensures.whole in
    let first = c.requires.came in
    let is_whole = whole first.0 first.1 first.2 list (c.parts.invariant.2 first.0 first.1 first.2 first.3) in
    (c.in_ok-part.ensures.sound, list ++ part_of c.in-Some.part ∷ [], λ mode limits before h. came mode limits before list (c.parts.invariant.2 mode limits before h), λ a h. c.in_ok-spare.ensures a list (c.parts.invariant.3 a h) is_whole)

pub returns : goal.returns
returns g c =
    let list = c.parts.invariant.1 in
    let came = rw c.in_default.is at c.in_ok-part.ensures.came in
    record {
      parts = list;
      sound = c.in_ok-part.ensures.sound;
      came = λ mode limits before h. subst (PartsCame mode limits before (g.R.Source.left c.next.new.source) c.next.new.self) (append-nil list) (came mode limits before list (c.parts.invariant.2 mode limits before h));
      over = c.in_ok-part.ensures.over c.in_default.is;
      made = c.parts.invariant.3;
    }
