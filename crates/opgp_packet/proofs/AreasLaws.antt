-- What every signature of version 4 or 6 keeps.
use Rattle.std.proofs.Common.{◌≡◌, ℕ, ◌+◌, ◌-◌, ◌≤◌, Bool, true, false, cond, eqb, List, ◌∷◌, ◌++◌, length, take, drop, Option, Some, None, refl, sym, ap, subst, ◌∙◌, arith}
use Rattle.std.proofs.lemmas.List.{take_at, length-append, length-take, length-drop}
use Rattle.opgp_octets.specs.HashAlgorithm.{hash_algorithm_of}
use Rattle.opgp_octets.specs.Octets.{IsOctets, IsBodySized}
use Rattle.opgp_octets.proofs.Bytes.{IsOctets-take, IsOctets-drop}
use Rattle.opgp_packet.specs.declared.spans.Span.{Span}
use Rattle.opgp_packet.specs.AreaReading.{subs_in}
use Rattle.opgp_packet.specs.Fields.{Field, bare, named, subpackets, behind_two, behind_four, framed, octets_of, Stands, Body}
use Rattle.opgp_packet.specs.Spans.{octets_in}
use Rattle.opgp_packet.specs.Subpackets.{subs_octets, Area}
use Rattle.opgp_packet.proofs.AreaLaws.{area_found, area_anywhere}
use Rattle.opgp_packet.specs.AreasValue.{AreasValue, IsSound, areas_fields, front_of, hashed_start}
use Rattle.opgp_octets.specs.HashAlgorithm.{salt_size}
use Rattle.opgp_packet.specs.SignatureBody.{extent, with_areas, salt_of_size}

in_octets : (p : Span) (o : List ℕ) → IsOctets o → IsOctets (octets_in p o)
in_octets p o fits = IsOctets-take (p.end - p.start) (drop p.start o) (IsOctets-drop p.start o fits)

-- a sound area in a body is its subpackets
pub sound_area : (p : Span) (o lent : List ℕ) → IsOctets o → IsSound (octets_in p o) → lent ≡ octets_in p o → Area (subs_in lent) lent
sound_area p o lent fits sound is =
    let area = octets_in p o in
    subst (λ (l : List ℕ). Area (subs_in l) l) (sym is) (area_found (length area) area (subs_in area) (in_octets p o fits) (area_anywhere (length area) area sound))

-- where a span ends that begins at a place
pub ends_at : (p : Span) (o : List ℕ) (n : ℕ) → p.start ≡ n → p.start ≤ p.end → p.end ≤ length o → p.end ≡ n + length (octets_in p o)
ends_at p o n start order within = omega (arith, length-take (p.end - p.start) (drop p.start o), length-drop p.start o)

-- an area with its length has two octets more at least
framed_long : (b : Bool) (x : List ℕ) → 2 + length x ≤ length (framed (cond b behind_four behind_two) x)
framed_long true x = omega arith
framed_long false x = omega arith

framed_size : (b : Bool) (x : List ℕ) → cond b 8 6 + length x ≡ 4 + length (framed (cond b behind_four behind_two) x)
framed_size true x = omega arith
framed_size false x = omega arith

-- what follows the hashed area
abbrev behind : AreasValue → List Field
behind v = subpackets (extent v.version) (subs_in v.unhashed) ∷ bare v.left ∷ (cond (eqb v.version 6) (named v.salt ∷ v.material) v.material)

module _ (v : AreasValue) (o : List ℕ) (b : Body (with_areas v.version) (areas_fields v) o) where
  -- the body is the front and the rest
  pub whole : Area (subs_in v.hashed) v.hashed → o ≡ front_of v ++ octets_of (behind v)
  whole hashed =
      b.spelled ∙ ap (λ (a : List ℕ). v.version ∷ v.kind ∷ v.algorithm ∷ v.hash ∷ (framed (extent v.version) a ++ octets_of (behind v))) (sym hashed.spelled)

  pub front_lies : (end : ℕ) → Area (subs_in v.hashed) v.hashed → end ≡ hashed_start v.version + length v.hashed → take end o ≡ front_of v
  front_lies end hashed is =
      let size : end ≡ length (front_of v) = omega (arith, is, framed_size (eqb v.version 6) v.hashed) in
      rw (whole hashed, size) (take_at (front_of v) (octets_of (behind v)) (length (front_of v)) refl)

  pub hashed_short : IsBodySized o → Area (subs_in v.hashed) v.hashed → 8 + length v.hashed ≤ 4294967295
  hashed_short small hashed =
      let front : 6 + length v.hashed ≤ length (front_of v) = omega (arith, framed_long (eqb v.version 6) v.hashed) in
      let rest : 2 ≤ length (octets_of (behind v)) = omega (arith, framed_long (eqb v.version 6) (subs_octets (subs_in v.unhashed)), length-append (framed (extent v.version) (subs_octets (subs_in v.unhashed))) (octets_of (bare v.left ∷ (cond (eqb v.version 6) (named v.salt ∷ v.material) v.material)))) in
      omega (arith, small, front, rest, ap length (whole hashed), length-append (front_of v) (octets_of (behind v)))

-- in version 4 both areas are short
pub hashed_shorter : (n : ℕ) (v : AreasValue) (o : List ℕ) → n ≡ 4 → Body (with_areas n) (areas_fields v) o → v.version ≡ n → Area (subs_in v.hashed) v.hashed → length v.hashed ≤ 65535
unfolding with_areas
hashed_shorter n v o is b version hashed =
    let four = subst (λ (k : ℕ). Body (with_areas k) (areas_fields v) o) is b in
    omega (arith, four.follows.1.1.1.1.0.2, ap length hashed.spelled)

pub unhashed_shorter : (n : ℕ) (v : AreasValue) (o : List ℕ) → n ≡ 4 → Body (with_areas n) (areas_fields v) o → v.version ≡ n → Area (subs_in v.unhashed) v.unhashed → length v.unhashed ≤ 65535
unfolding with_areas
unhashed_shorter n v o is b version unhashed =
    let four = subst (λ (k : ℕ). Body (with_areas k) (areas_fields v) o) is b in
    omega (arith, four.follows.1.1.1.1.1.0.2, ap length unhashed.spelled)

sized_so : (size : Option ℕ) (salt : List ℕ) (after n : ℕ) → Stands (salt_of_size size) (named salt) after → size ≡ Some n → length salt ≡ n
sized_so None salt after n stands e = absurd cc
sized_so (Some m) salt after n stands e = let same : m ≡ n = cc in omega (arith, stands.1, stands.2, same)

-- a salt has the size of its hash algorithm
pub salt_sized : (v : AreasValue) (o : List ℕ) (n : ℕ) → v.version ≡ 6 → Body (with_areas v.version) (areas_fields v) o → salt_size (hash_algorithm_of v.hash) ≡ Some n → length v.salt ≡ n
unfolding with_areas
salt_sized v o n is b e =
    let six = subst (λ (k : ℕ). Body (with_areas k) (areas_fields (record v { version = k })) o) is b in
    sized_so (salt_size (hash_algorithm_of v.hash)) v.salt _ n six.follows.1.1.1.1.1.1.1.0 e
