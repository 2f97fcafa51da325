use Rattle.std.proofs.Common.{◌≡◌, ◌+◌, ◌<◌, ◌++◌, ◌∷◌, ℕ, List, [], length, take, set, true, None, sym, ap, subst, refl, ◌∙◌, arith, inl, inr}
use Rattle.std.proofs.lemmas.Bool.{cases_lt, false≢true}
use Rattle.std.proofs.lemmas.Grind.{common_steps}
use Rattle.std.proofs.lemmas.List.{take_more_set}
use Rattle.opgp_frame.specs.declared.deframe.State.{State}
use Rattle.opgp_frame.specs.Fed.{IsRest}
use Rattle.opgp_frame.specs.Length.{length_at, LengthBegins}
use Rattle.opgp_frame.specs.ReaderState.{state_fits}
use Rattle.opgp_frame.proofs.FedLemmas.{Fed-grows}
use Rattle.opgp_frame.proofs.Holding.{LengthFacts, length_facts, length_fits, holds_length}
use Rattle.opgp_frame.proofs.Steps.{more_of_length, ends_with_octet}
use Rattle.opgp_frame.proofs.deframe.Deframe.step_octet.Goals as goal

pub invariant_of-self : goal.invariant_of-self
invariant_of-self c =
    let d = c.args.self.now in
    let a = c.args in
    let ks = length d.exponents.items in
    let n = length d.body.items in
    let facts = length_facts d.limits a.header a.seen a.count ks n (subst (λ (s : State). state_fits d.limits s ks n ≡ true) c.requires.in_length d.fits) in
    let few : a.count + 1 < 5 = elim (cases_lt (a.count + 1) 5) [ inl lt ↦ lt | inr le ↦ absurd (false≢true (c.in-None.ensures.enough (grind (arith, common_steps)) facts.read)) ] in
    let next : LengthFacts d.limits a.header (a.count + 1) ks n = record { few = few; read = facts.read; within' = facts.within' } in
    record {
      fits = length_fits d.limits a.header (set a.seen a.count a.octet) (a.count + 1) ks n next;
      held = holds_length d.limits a.header (set a.seen a.count a.octet) (a.count + 1) ks n d.ready next c.requires.free;
    }

pub returns-in-None-clause-fed : goal.returns-in-None-clause-fed
returns-in-None-clause-fed c limits block given taken f =
    let d = c.args.self.now in
    let a = c.args in
    let at = subst (λ (s : State). IsRest limits s d.exponents.items d.body.items f.rest) c.requires.in_length f.state in
    let facts = length_facts d.limits a.header a.seen a.count (length d.exponents.items) (length d.body.items) (subst (λ (s : State). state_fits d.limits s (length d.exponents.items) (length d.body.items) ≡ true) c.requires.in_length d.fits) in
    let next : take (a.count + 1) (set a.seen a.count a.octet) ≡ take a.count a.seen ++ a.octet ∷ [] = take_more_set a.seen a.count a.octet (omega (arith, facts.few)) in
    let unread : length_at a.header (take a.count a.seen ++ a.octet ∷ []) ≡ None = ap (length_at a.header) (sym next) ∙ sym c.in-None.ensures.exact in
    Fed-grows limits block d _ given (a.octet ∷ []) taken f refl c.requires.free refl refl refl refl
    (rw next (more_of_length limits a.header a.octet (take a.count a.seen) d.exponents.items d.body.items f.rest at unread))

pub returns-in-Some-clause-fed : goal.returns-in-Some-clause-fed
returns-in-Some-clause-fed c limits block given taken f =
    let d = c.args.self.now in
    let a = c.args in
    let at = subst (λ (s : State). IsRest limits s d.exponents.items d.body.items f.rest) c.requires.in_length f.state in
    let facts = length_facts d.limits a.header a.seen a.count (length d.exponents.items) (length d.body.items) (subst (λ (s : State). state_fits d.limits s (length d.exponents.items) (length d.body.items) ≡ true) c.requires.in_length d.fits) in
    let next : take (a.count + 1) (set a.seen a.count a.octet) ≡ take a.count a.seen ++ a.octet ∷ [] = take_more_set a.seen a.count a.octet (omega (arith, facts.few)) in
    let begins = subst (λ (o : List ℕ). LengthBegins a.header o c.in-Some.length c.in-Some.field-0-1) next c.in-Some.ensures.found in
    c.end_length.ensures.fed limits block given taken (a.octet ∷ []) refl (ends_with_octet limits a.header a.octet (take a.count a.seen) d.exponents.items d.body.items f.rest c.in-Some.length c.in-Some.field-0-1 at begins) f
