-- The claims that were gathered of a list of signatures.
use Rattle.std.proofs.Common.{◌≡◌, ◌∙◌, ◌||◌, Bool, true, false, List, [], ◌++◌, map, Option, Ok, refl, sym, append-nil}
use Rattle.std.specs.List.{list_any}
use Rattle.std.specs.declared.alloc.AllocError.{AllocError}
use Rattle.opgp_hash.specs.declared.fingerprints.Fingerprint.{Fingerprint}
use Rattle.opgp_report.specs.Standing.{Standing}
use Rattle.opgp_state.specs.Claiming.{AddsClaims, claim_heard, names_some}
use Rattle.opgp_state.specs.declared.claiming.Claiming.{Claiming}

or_nothing : (a : Bool) → a ≡ (a || false)
or_nothing true = refl
or_nothing false = refl

-- nothing is added of none
pub of_none : (b : Claiming) → AddsClaims {E = AllocError} b [] (Ok b)
of_none b = (sym (append-nil b.verdicts.items), or_nothing b.names_revokers)

pub of_list : (own : Option Fingerprint) (a b : Claiming) (list : List Standing) → a.own ≡ own → a.verdicts.items ≡ [] → a.names_revokers ≡ false → AddsClaims {E = AllocError} a (list ++ []) (Ok b)
    → (b.verdicts.items ≡ map (claim_heard own) list) × (b.names_revokers ≡ list_any (names_some own) list)
of_list own a b list same none bare added =
    (added.0 ∙ rw (same, none, append-nil list) refl, added.1 ∙ rw (same, bare, append-nil list) refl)
