-- The fields of an area are its octets.
use Rattle.std.proofs.Common.{◌≡◌, ◌↔◌, ℕ, List, [], ◌∷◌, ◌++◌, ◌+◌, ◌≤◌, length, None, IfOk, Result, Ok, Err, refl, sym, ap, subst, ◌∙◌, arith, length-append}
use Rattle.std.specs.List.{flat_map}
use Rattle.std.proofs.lemmas.List.{append-nil}
use Rattle.opgp_octets.specs.Octets.{IsOctets}
use Rattle.opgp_octets.specs.SubLen.{sub_len_octets}
use Rattle.opgp_octets.specs.declared.fault.BodyFault.{BodyFault}
use Rattle.opgp_packet.specs.AreaReading.{area_at, fault_in, subs_in}
use Rattle.opgp_packet.specs.Subpackets.{Sub, Area, sub_octets, subs_octets}
use Rattle.opgp_packet.proofs.AreaLaws.{area_anywhere, area_takes}
use Rattle.opgp_explain.specs.Area.{area_fields, read_fields, sub_fields}
use Rattle.opgp_explain.specs.Field.{◌is◌, octets_of}
use Rattle.opgp_explain.specs.declared.meaning.Meaning.TheVariants as meaning
use Rattle.opgp_explain.specs.Telling.{Tells}
use Rattle.opgp_explain.specs.declared.telling.Telling.{Telling}
use Rattle.opgp_explain.proofs.Told.{octets_append, told_both, told_none}

pub one_field : (area : List ℕ) (r : Result (List Sub) BodyFault) → ((subs : List Sub) → r ≡ Ok subs → ⊥) → read_fields area r ≡ (meaning.Area is area) ∷ []
one_field area (Ok subs) none = absurd (none subs refl)
one_field area (Err fault) none = refl

pub sub_told : (s : Sub) → octets_of (sub_fields s) ≡ sub_octets s
sub_told s = ap (λ (o : List ℕ). sub_len_octets s.len ++ s.kind ∷ o) (append-nil s.octets)

pub subs_told : (subs : List Sub) → octets_of (flat_map sub_fields subs) ≡ subs_octets subs
subs_told [] = refl
subs_told (s ∷ subs) =
    octets_append (sub_fields s) (flat_map sub_fields subs)
    ∙ ap (λ (o : List ℕ). o ++ octets_of (flat_map sub_fields subs)) (sub_told s)
    ∙ ap (λ (o : List ℕ). sub_octets s ++ o) (subs_told subs)

-- what the fields of an area are made of, by how it was read
pub read_told : (area : List ℕ) (r : Result (List Sub) BodyFault) → ((subs : List Sub) → r ≡ Ok subs → area ≡ subs_octets subs) → octets_of (read_fields area r) ≡ area
read_told area (Ok subs) spelled = subs_told subs ∙ sym (spelled subs refl)
read_told area (Err fault) spelled = append-nil area

pub area_told : ((end : ℕ) (subs : List Sub) (o : List ℕ) → IsOctets o → (area_at end o ≡ Ok subs) ↔ Area subs o) → (area : List ℕ) → IsOctets area → octets_of (area_fields area) ≡ area
area_told law area fits = read_told area (area_at (length area) area) (λ subs e. ((law (length area) subs area fits).0 e).spelled)

-- ---- subpackets, one after the other

-- Of all these subpackets some were told, and these are left.
pub record Left (first : Telling) (all : List Sub) (told : Telling) (rest : List Sub) : Type 0 where
  pub room : told.end + length (subs_octets rest) ≡ first.end + length (subs_octets all)
  pub whole : (t : Telling) → Tells told t (flat_map sub_fields rest) → Tells first t (flat_map sub_fields all)

pub one_told : (first told next : Telling) (all subs rest : List Sub) (s : Sub) → Left first all told subs → subs ≡ s ∷ rest → Tells told next (sub_fields s) → Left first all next rest
one_told first told next all subs rest s left e t =
    let now : Left first all told (s ∷ rest) = subst (λ (l : List Sub). Left first all told l) e left in
    let size : length (octets_of (sub_fields s)) ≡ length (sub_octets s) = ap length (sub_told s) in
    let sum : length (sub_octets s ++ subs_octets rest) ≡ length (sub_octets s) + length (subs_octets rest) = length-append (sub_octets s) (subs_octets rest) in
    let before : told.end + length (sub_octets s ++ subs_octets rest) ≡ first.end + length (subs_octets all) = now.room in
    let end : next.end ≡ told.end + length (octets_of (sub_fields s)) = t.end in
    record {
      room = omega arith;
      whole = λ u v. now.whole u (told_both t v);
    }

pub all_told : (first told : Telling) (all subs : List Sub) → Left first all told subs → subs ≡ [] → Tells first told (flat_map sub_fields all)
all_told first told all subs left e =
    let now : Left first all told [] = subst (λ (l : List Sub). Left first all told l) e left in
    now.whole told (told_none told)

pub subs_of : (o : List ℕ) → IsOctets o → fault_in (length o) o ≡ None → o ≡ subs_octets (subs_in o)
subs_of o fits none = (area_takes (length o) o (subs_in o) fits (area_anywhere (length o) o none)).0

pub subs_sized : (o : List ℕ) (subs : List Sub) → IsOctets o → fault_in (length o) o ≡ None → subs ≡ subs_in o → length o ≤ 4294967295 → length (subs_octets subs) ≤ 4294967295
subs_sized o subs fits none e most =
    let size : length o ≡ length (subs_octets (subs_in o)) = ap length (subs_of o fits none) in
    let same : length (subs_octets subs) ≡ length (subs_octets (subs_in o)) = ap (λ (l : List Sub). length (subs_octets l)) e in
    omega arith

pub subs_most : {E : Type 0} (a : Telling) (subs : List Sub) (r : Result Telling E) → length (subs_octets subs) ≤ 4294967295 → IfOk r (λ t. Tells a t (flat_map sub_fields subs)) → IfOk r (λ t. t.end ≤ a.end + 4294967295)
subs_most a subs (Ok t) most told =
    let end : t.end ≡ a.end + length (octets_of (flat_map sub_fields subs)) = told.end in
    let size : length (octets_of (flat_map sub_fields subs)) ≡ length (subs_octets subs) = ap length (subs_told subs) in
    omega arith
subs_most a subs (Err e) most told = told
