-- Keys that are looked for by their names, among those that come.
use denote.Ref.{Bor}
use Rattle.std.specs.Prelude.{◌≡◌, ℕ, Bool, List, Option, Some, None, if◌then◌else◌}
use Rattle.std.specs.BTreeMap.{BTreeMap, get_by}
use Rattle.std.specs.Cmp.Lexicographic.{slice_cmp}
use Rattle.std.specs.List.{flat_map, list_any}
use Rattle.std.specs.Ordering.{nat_cmp}
use Rattle.std.specs.Str.{bytes_eq}
use Rattle.opgp_report.specs.Report.{certificate_keys}
use Rattle.opgp_keyring.specs.Keyring.{CertificateValue}
use Rattle.opgp_stack.specs.KeyName.{is_any_named}

-- what is noted of a name: whether a key with it came; nothing, if it isn't looked for
abbrev pub note_of : List ℕ → BTreeMap (Bor (List ℕ)) Bool → Option Bool
note_of name notes = get_by (λ k. slice_cmp nat_cmp name k.now) notes

abbrev pub is_among : List (List ℕ) → List ℕ → Bool
is_among names name = list_any (λ n. bytes_eq n name) names

-- these names are looked for, and keys with these bodies came
pub record AreNotes (names bodies : List (List ℕ)) (notes : BTreeMap (Bor (List ℕ)) Bool)
    : Type 0 where
  pub each : (name : List ℕ) → note_of name notes
      ≡ (if is_among names name then Some (is_any_named name bodies) else None)

-- the bodies of the keys of certificates
abbrev pub keys_of : List CertificateValue → List (List ℕ)
keys_of cs = flat_map certificate_keys cs
