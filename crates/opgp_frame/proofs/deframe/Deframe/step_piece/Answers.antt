use Rattle.std.proofs.Common.{◌≡◌, ◌+◌, ◌<◌, ◌≤◌, ◌++◌, ◌∷◌, ℕ, List, [], length, take, true, sym, ap, subst, refl, ◌∙◌, arith, length-append, length-take-le}
use Rattle.std.proofs.lemmas.Grind.{common_steps}
use Rattle.opgp_frame.specs.declared.deframe.State.{State}
use Rattle.opgp_frame.specs.declared.deframe.State.TheVariants.{InPiece}
use Rattle.opgp_frame.specs.declared.length.Length.{Length}
use Rattle.opgp_frame.specs.Fed.{IsRest}
use Rattle.opgp_frame.specs.Length.{is_partial}
use Rattle.opgp_frame.specs.ReaderState.{state_fits}
use Rattle.opgp_frame.specs.Unfinished.{IsInPiece}
use Rattle.opgp_frame.proofs.FedLemmas.{Fed-grows, Fed-ends}
use Rattle.opgp_frame.proofs.Holding.{LengthFacts, piece_facts, length_fits, holds_length}
use Rattle.opgp_frame.proofs.Steps.{more_of_piece, ends_piece}
use Rattle.opgp_frame.proofs.deframe.Deframe.step_piece.Goals as goal

pub returns-then-count-want-clause-fed : goal.returns-then-count-want-clause-fed
returns-then-count-want-clause-fed c limits block given taken f =
    let d = c.args.self.now in
    let a = c.args in
    let count : ℕ = c.min-count.result in
    let body = d.body.items in
    let at = subst (λ (s : State). IsRest limits s d.exponents.items body f.rest) c.requires.in_piece f.state in
    let piece = take count a.piece.now in
    let size : length piece ≡ count = length-take-le count a.piece.now (omega arith) in
    let grown : c.extend_from_slice.new.self.items ≡ body ++ piece = grind (arith, common_steps) in
    let len : c.len.result ≡ length body = grind (arith, common_steps) in
    let below : length body + length piece < a.until = omega (arith, size, len, at.1) in
    let more = more_of_piece limits a.header a.announced a.from a.until d.exponents.items body piece f.rest at.0 (omega (arith, below)) in
    let state = subst (λ (o : List ℕ). IsRest limits (InPiece a.header a.announced a.from a.until) d.exponents.items o (f.rest ++ piece)) (sym grown) (more, omega (arith, below, length-append body piece)) in
    Fed-grows limits block d _ given piece taken f refl c.requires.free refl refl refl (ap (λ (k : ℕ). d.given + k) (sym size))
    (subst (λ (s : State). IsRest limits s d.exponents.items c.extend_from_slice.new.self.items (f.rest ++ piece)) (sym c.requires.in_piece) state)

pub invariant_of-self-in-Some : goal.invariant_of-self-in-Some
invariant_of-self-in-Some c =
    let d = c.args.self.now in
    let a = c.args in
    let ks = length d.exponents.items in
    let facts = piece_facts d.limits a.header a.announced a.from a.until ks (length d.body.items) (subst (λ (s : State). state_fits d.limits s ks (length d.body.items) ≡ true) c.requires.in_piece d.fits) in
    let some : is_partial a.announced ≡ true = ap is_partial c.in-Some.ensures in
    let js = length c.push.new.self.items in
    let n = length c.extend_from_slice.new.self.items in
    let more : js ≤ ks + 1 = grind (arith, common_steps) in
    let whole : n ≤ a.until = grind (arith, common_steps) in
    let next : LengthFacts d.limits a.header 0 js n = record { few = omega arith; read = facts.read; within' = record { exponents' = omega (arith, more, facts.room some); body' = omega (arith, whole, facts.within'.body') } } in
    record {
      fits = length_fits d.limits a.header (0 ∷ 0 ∷ 0 ∷ 0 ∷ 0 ∷ []) 0 js n next;
      held = holds_length d.limits a.header (0 ∷ 0 ∷ 0 ∷ 0 ∷ 0 ∷ []) 0 js n d.ready next c.requires.free;
    }

pub invariant_of-self-in-None : goal.invariant_of-self-in-None
invariant_of-self-in-None c =
    let d = c.args.self.now in
    let a = c.args in
    let ks = length d.exponents.items in
    let facts = piece_facts d.limits a.header a.announced a.from a.until ks (length d.body.items) (subst (λ (s : State). state_fits d.limits s ks (length d.body.items) ≡ true) c.requires.in_piece d.fits) in
    let n = length c.extend_from_slice.new.self.items in
    let whole : n ≤ a.until = grind (arith, common_steps) in
    let next : LengthFacts d.limits a.header 0 ks n = record { few = omega arith; read = facts.read; within' = record { exponents' = facts.within'.exponents'; body' = omega (arith, whole, facts.within'.body') } } in
    record {
      fits = length_fits d.limits a.header (0 ∷ 0 ∷ 0 ∷ 0 ∷ 0 ∷ []) 0 ks n next;
      held = holds_length d.limits a.header (0 ∷ 0 ∷ 0 ∷ 0 ∷ 0 ∷ []) 0 ks n d.ready next c.requires.free;
    }

pub returns-in_ok-push-in-Some-clause-fed : goal.returns-in_ok-push-in-Some-clause-fed
returns-in_ok-push-in-Some-clause-fed c limits block given taken f =
    let d = c.args.self.now in
    let a = c.args in
    let count : ℕ = c.min-count.result in
    let body = d.body.items in
    let at = subst (λ (s : State). IsRest limits s d.exponents.items body f.rest) c.requires.in_piece f.state in
    let piece = take count a.piece.now in
    let size : length piece ≡ count = length-take-le count a.piece.now (omega arith) in
    let grown : c.extend_from_slice.new.self.items ≡ body ++ piece = grind (arith, common_steps) in
    let len : c.len.result ≡ length body = grind (arith, common_steps) in
    let full : length body + length piece ≡ a.until = omega (arith, size, len, at.1) in
    let more = more_of_piece limits a.header a.announced a.from a.until d.exponents.items body piece f.rest at.0 (omega (arith, full)) in
    let again = subst (λ (l : Length). IsInPiece limits a.header l a.from a.until d.exponents.items (body ++ piece) (f.rest ++ piece)) c.in-Some.ensures more in
    let state = ends_piece limits a.header c.in-Some.exponent a.from a.until (0 ∷ 0 ∷ 0 ∷ 0 ∷ 0 ∷ []) d.exponents.items (body ++ piece) (f.rest ++ piece) again (omega (arith, full, length-append body piece)) in
    Fed-grows limits block d _ given piece taken f refl c.requires.free refl refl refl (ap (λ (k : ℕ). d.given + k) (sym size))
    (rw (grown, c.in_ok-push-in-Some.ensures.items) state)

pub returns-in-None-clause-fed : goal.returns-in-None-clause-fed
returns-in-None-clause-fed c limits block given taken f =
    let d = c.args.self.now in
    let a = c.args in
    let count : ℕ = c.min-count.result in
    let body = d.body.items in
    let at = subst (λ (s : State). IsRest limits s d.exponents.items body f.rest) c.requires.in_piece f.state in
    let piece = take count a.piece.now in
    let size : length piece ≡ count = length-take-le count a.piece.now (omega arith) in
    let grown : c.extend_from_slice.new.self.items ≡ body ++ piece = grind (arith, common_steps) in
    let len : c.len.result ≡ length body = grind (arith, common_steps) in
    let full : length body + length piece ≡ a.until = omega (arith, size, len, at.1) in
    let more = more_of_piece limits a.header a.announced a.from a.until d.exponents.items body piece f.rest at.0 (omega (arith, full)) in
    let again = subst (λ (o : List ℕ). IsInPiece limits a.header a.announced a.from a.until d.exponents.items o (f.rest ++ piece)) (sym grown) more in
    let ends = c.end_packet.ensures in
    let whole : length c.extend_from_slice.new.self.items ≡ a.until = ap (length {A = ℕ}) grown ∙ length-append body piece ∙ full in
    Fed-ends limits block d c.end_packet.new.self given piece taken f c.requires.free ends.limits ends.block
    (ends.whole limits a.from a.until (f.rest ++ piece) again whole c.in-None.ensures)
    ends.state ends.empty.0 ends.empty.1 (ends.start ∙ ap (λ (k : ℕ). d.given + k) (sym size)) (ends.count ∙ ap (λ (k : ℕ). d.given + k) (sym size))
