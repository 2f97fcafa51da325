-- Where an integer lies that was read past a front of a body.
use Rattle.std.proofs.Common.{◌≡◌, ℕ, ◌+◌, ◌-◌, Bool, List, ◌++◌, length, take, drop, Result, Ok, refl, sym, ap, subst, ◌∙◌, arith}
use Rattle.std.specs.Prelude.{slice_range}
use Rattle.std.proofs.lemmas.List.{take_at, take-append-drop, drop-drop}
use Rattle.opgp_octets.specs.declared.fault.Reason.{Reason}
use Rattle.opgp_octets.specs.Reading.{◌>>=◌}
use Rattle.opgp_octets.specs.Mpi.{MpiValue, octets_of, mpi_octets, MpiBegins, mpi_at}
use Rattle.opgp_packet.specs.Fields.{mpi, integer}
use Rattle.opgp_packet.specs.AreaReading.{placed}
use Rattle.opgp_packet.specs.FieldReading.{kind_at, step_at}

-- the octets of an integer lie past its count of bits
octets_lie : (body : List ℕ) (at count : ℕ) (n : MpiValue) → count ≡ length (mpi_octets n) → length n.octets ≡ octets_of n.bits
    → take count (drop at body) ≡ mpi_octets n → slice_range body (at + 2) ((at + 2) + octets_of n.bits) ≡ n.octets
octets_lie body at count n len bits front =
    let d : List ℕ = drop at body in
    let whole : d ≡ mpi_octets n ++ drop count d = sym (take-append-drop count d) ∙ ap (λ (t : List ℕ). t ++ drop count d) front in
    let past : drop (at + 2) body ≡ n.octets ++ drop count d = sym (drop-drop 2 at body) ∙ ap (drop 2) whole in
    let size : ((at + 2) + octets_of n.bits) - (at + 2) ≡ length n.octets = omega (arith, bits) in
    ap (λ (k : ℕ). take k (drop (at + 2) body)) size ∙ ap (take (length n.octets)) past ∙ take_at n.octets (drop count d) (length n.octets) refl

mpi_lies : (total : ℕ) (strict : Bool) (body : List ℕ) (at count : ℕ) (n : MpiValue) → count ≡ length (mpi_octets n) → length n.octets ≡ octets_of n.bits
    → take count (drop at body) ≡ mpi_octets n → mpi_at strict (drop at body) ≡ Ok (n, drop count (drop at body))
    → step_at total (mpi strict) (drop at body)
    ≡ Ok (integer (record { bits = n.bits; octets = slice_range body (at + 2) ((at + 2) + octets_of n.bits) }), drop (at + count) body)
unfolding step_at kind_at
mpi_lies total strict body at count n len bits front exact =
    ap (λ (r : Result (MpiValue × List ℕ) Reason). placed total (length (drop at body)) (r >>= λ x. Ok (integer x.0, x.1))) exact
    ∙ rw (drop-drop count at body, octets_lie body at count n len bits front) refl

-- the same, as a reader has it
pub mpi_placed : (total : ℕ) (strict : Bool) (body rest : List ℕ) (at count bits : ℕ) (n : MpiValue) → rest ≡ drop at body → bits ≡ n.bits
    → MpiBegins strict rest n count → mpi_at strict rest ≡ Ok (n, drop count rest)
    → step_at total (mpi strict) (drop at body)
    ≡ Ok (integer (record { bits = bits; octets = slice_range body (at + 2) ((at + 2) + octets_of bits) }), drop (at + count) body)
mpi_placed total strict body rest at count bits n rest-is bits-is begins exact =
    rw bits-is (mpi_lies total strict body at count n begins.size begins.mpi.octets
    (subst (λ (r : List ℕ). take count r ≡ mpi_octets n) rest-is begins.spelled)
    (subst (λ (r : List ℕ). mpi_at strict r ≡ Ok (n, drop count r)) rest-is exact))
