use Rattle.std.proofs.Common.{rules, ◌≡◌, ◌∙◌, ◌-◌, ℕ, List, [], ◌∷◌, ◌++◌, length, ap, arith, length-append}
use Rattle.opgp_hash.specs.Hashed.{hashed}
use Rattle.opgp_hash.specs.Question.{question_value}
use Rattle.opgp_tables.specs.declared.hashed_row.HashedRow.{HashedRow}
use Rattle.opgp_tables.proofs.hashed_table.HashedTable.add.Goals as goal

-- so many octets were written
written : (at n : ℕ) (old new octets : List ℕ) → new ≡ old ++ octets → at ≡ length old → n ≡ length new → n - at ≡ length octets
written at n old new octets e here there = omega (arith, ap (λ (l : List ℕ). length l) e, length-append old octets, here, there)

pub returns-clause-done : goal.returns-clause-done
returns-clause-done c e =
    let old : List ℕ = c.args.self.now.bytes.items in
    let rows : List HashedRow = c.args.self.now.rows.items in
    let octets : List ℕ = hashed (question_value c.args.question.now) in
    let here : c.len-at.result ≡ length old = search rules in
    let there : c.len.result ≡ length c.write_octets.new.out.items = search rules in
    let size : c.len.result - c.len-at.result ≡ length octets = written c.len-at.result c.len.result old c.write_octets.new.out.items octets c.in_ok-write_octets.ensures.ok here there in (
      omega (arith, size),
      ap (λ (k : ℕ). c.args.self.now.room - k) size,
      c.in_ok-push.ensures.items
          ∙ ap (λ (k : ℕ). rows ++ record { row = c.args.number; at = k; size = c.len.result - c.len-at.result } ∷ []) here
          ∙ ap (λ (k : ℕ). rows ++ record { row = c.args.number; at = length old; size = k } ∷ []) size,
      c.in_ok-write_octets.ensures.ok,
    )

pub returns-clause-full : goal.returns-clause-full
returns-clause-full c e = absurd (cc)
