-- What runs at an earlier place is right at the next one.
use Rattle.std.proofs.Common.{◌≡◌, ℕ, ◌<◌, ◌++◌, List, length, get_or, arith, Option}
use Rattle.opgp_hash.specs.SignedValue.{SignedValue}
use Rattle.opgp_document.specs.Place.{IsLent, IsPlace, RunsFor}
use Rattle.opgp_document.specs.declared.place.Place.{Place}
use Rattle.opgp_document.specs.declared.signature_hasher.AlgorithmHasher.{AlgorithmHasher}
use Rattle.opgp_document.proofs.Pairs.{Mixed, earlier, got}

-- those before the next one have the piece
abbrev pub Pushed : List ℕ → List ℕ → ℕ → List Place → List (Option SignedValue) → Type 0
Pushed d piece n places ss = Mixed (λ (p : Place) (s : Option SignedValue). IsPlace p s (d ++ piece)) (λ (p : Place) (s : Option SignedValue). IsPlace p s d) n places ss

pub lent : (d piece : List ℕ) (n : ℕ) (places : List Place) (ss : List (Option SignedValue)) (h : AlgorithmHasher) (x : Place)
    → n < length places → Pushed d piece n places ss → IsLent places n h → x ≡ get_or places n x
    → (s : Option SignedValue) → IsPlace x s d → RunsFor h s (d ++ piece)
lent d piece n places ss h x w m l e s q =
    let under : l.lender < length places = omega (arith, l.earlier) in
    let one = earlier (λ (p : Place) (s : Option SignedValue). IsPlace p s (d ++ piece)) (λ (p : Place) (s : Option SignedValue). IsPlace p s d) n l.lender places ss l.earlier under m in
    l.runs one.0 x one.1 s (d ++ piece) d one.2 (got places n x w e) one.3 q
