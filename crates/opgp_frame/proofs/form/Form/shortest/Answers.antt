use Rattle.std.proofs.Common.{ℕ, ◌<◌, ◌≤◌, refl, arith, inl, inr}
use Rattle.std.proofs.lemmas.Bool.{cases_lt, le-ltb}
use Rattle.opgp_octets.specs.declared.packet_len.PacketLen.TheVariants.{One, Two}
use Rattle.opgp_frame.proofs.Shortest.{five_octets, shortest_form-least}
use Rattle.opgp_frame.proofs.form.Form.shortest.Goals as goal

pub returns-in-Five : goal.returns-in-Five
returns-in-Five c =
    let n : ℕ = c.args.n in
    let least = c.in-Five.ensures.least in
    let not_one : n < 192 → ⊥ = λ lt. omega (arith, least (One n) (omega arith) (λ h. h) refl) in
    let above : 192 ≤ n = elim (cases_lt n 192) [ inl lt ↦ absurd (not_one lt) | inr le ↦ le ] in
    let not_two : n < 8384 → ⊥ = λ lt. omega (arith, least (Two n) (above, omega arith) (λ h. h) refl) in
    let high : 8384 ≤ n = elim (cases_lt n 8384) [ inl lt ↦ absurd (not_two lt) | inr le ↦ le ] in
    record {
      current = tt;
      takes = λ kind. refl;
      spells = record { stand = tt; pieces = omega arith; rest = omega arith; most = omega arith };
      least = λ other current spells. omega (arith, five_octets n high, (shortest_form-least other n current spells.rest).1);
      exact = rw (le-ltb n 192 above, le-ltb n 8384 high) refl;
    }
