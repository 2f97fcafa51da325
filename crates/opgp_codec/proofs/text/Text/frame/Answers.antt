use Rattle.std.proofs.Common.{◌≡◌, ◌+◌, ◌-◌, ◌<◌, ◌++◌, ℕ, List, length, take, drop, refl, sym, ap, ◌∙◌, subst, arith}
use Rattle.std.proofs.lemmas.List.{drop-drop, length-drop, take-append-drop, take_rest}
use Rattle.opgp_codec.specs.Blocks.{Finds}
use Rattle.opgp_codec.proofs.Blocking.{finds_if}
use Rattle.opgp_codec.proofs.TextLines.{room_for, through_framed}
use Rattle.opgp_codec.proofs.text.Text.frame.Goals as goal

-- the rest of octets, as a slice
rest_of : (octets deref : List ℕ) (at : ℕ) → deref ≡ octets → take (length deref - at) (drop at deref) ≡ drop at octets
rest_of octets deref at e = take_rest deref at ∙ ap (λ (l : List ℕ). drop at l) e

pub next-requires-clause-room : goal.next-requires-clause-room
next-requires-clause-room c =
    let r = c.requires.through in
    let same = ap length (rest_of c.args.self.now.octets.items c.deref.result.now c.args.self.now.at c.deref.ensures.value) in
    omega (arith, room_for r.0 r.1 c.args.self.now c.args.framer.now r.2 r.3 c.no_more_octets_than_given.ensures r.4, same)

pub returns-clause-through : goal.returns-clause-through
returns-clause-through c =
    let t = c.args.self.now in
    let n = c.in_ok-self.field-0 in
    let slice : List ℕ = take (length c.deref.result.now - t.at) (drop t.at c.deref.result.now) in
    let same : slice ≡ drop t.at t.octets.items = rest_of t.octets.items c.deref.result.now t.at c.deref.ensures.value in
    let r = c.in_ok-self.ensures.framed in
    let found : Finds c.next.new.self (drop t.at t.octets.items) r.0 = subst (λ (l : List ℕ). Finds c.next.new.self l r.0) same r.1 in
    let cut : drop t.at t.octets.items ≡ take n slice ++ drop (t.at + n) t.octets.items =
    sym (take-append-drop n (drop t.at t.octets.items)) ∙ ap (λ (l : List ℕ). take n l ++ drop n (drop t.at t.octets.items)) (sym same) ∙ ap (λ (l : List ℕ). take n slice ++ l) (drop-drop n t.at t.octets.items) in
    let some : 0 < length (drop t.at t.octets.items) = omega (arith, length-drop t.at t.octets.items, c.len.ensures) in (
      r.0,
      finds_if c.next.new.self c.finds.result (drop t.at t.octets.items) r.0 c.finds.ensures found,
      λ accepts limits input items x.
          through_framed accepts limits t _ c.args.framer.now c.next.new.self input (take n slice) items r.0 refl refl some cut (λ done label given all f. r.2 accepts limits done label given all f) x,
    )
