-- What a line of a block does, by its length and its first octet.
use Rattle.std.proofs.Common.{◌≡◌, ◌≢◌, ℕ, true, false, List, [], ◌∷◌, length, slice_index, refl, arith, Ok, Err}
use Rattle.std.proofs.lemmas.Bool.{ne_eqb}
use Rattle.opgp_armor.specs.declared.label.Label.{Label}
use Rattle.opgp_armor.specs.declared.section.Section.TheVariants.{Headers, Data, AfterChecksum}
use Rattle.opgp_octets.specs.declared.fault.Reason.TheVariants as reason
use Rattle.opgp_armor.specs.Letters.{Pending, data_line}
use Rattle.opgp_armor.specs.Machine.{inside, on_header, on_letters, header_of, closing, waits}

pub headers_blank : (k : Label) (p : Pending) (c : List ℕ) → length c ≡ 0 → inside (Headers k) p c ≡ Ok (record { section = Data k; pending = p }, [])
headers_blank k p [] h = refl
headers_blank k p (x ∷ c) h = absurd (omega arith)

pub headers_other : (k : Label) (p : Pending) (c : List ℕ) → length c ≢ 0 → inside (Headers k) p c ≡ on_header k p (header_of c)
headers_other k p [] h = absurd (h refl)
headers_other k p (x ∷ c) h = refl

pub data_blank : (k : Label) (p : Pending) (c : List ℕ) → length c ≡ 0 → inside (Data k) p c ≡ Ok (record { section = Data k; pending = p }, [])
data_blank k p [] h = refl
data_blank k p (x ∷ c) h = absurd (omega arith)

pub data_waits : (k : Label) (p : Pending) (c : List ℕ) → length c ≢ 0 → slice_index c 0 ≡ 61 → waits p ≡ true → inside (Data k) p c ≡ Err reason.Padding
data_waits k p [] h e w = absurd (h refl)
data_waits k p (x ∷ c) h e w = rw (e, w) refl

pub data_checksum : (k : Label) (p : Pending) (c : List ℕ) → length c ≢ 0 → slice_index c 0 ≡ 61 → waits p ≡ false → inside (Data k) p c ≡ Ok (record { section = AfterChecksum k; pending = p }, [])
data_checksum k p [] h e w = absurd (h refl)
data_checksum k p (x ∷ c) h e w = rw (e, w) refl

pub data_dash : (k : Label) (p : Pending) (c : List ℕ) → length c ≢ 0 → slice_index c 0 ≡ 45 → inside (Data k) p c ≡ closing k p c
data_dash k p [] h e = absurd (h refl)
data_dash k p (x ∷ c) h e = rw e refl

pub data_other : (k : Label) (p : Pending) (c : List ℕ) → length c ≢ 0 → slice_index c 0 ≢ 61 → slice_index c 0 ≢ 45 → inside (Data k) p c ≡ on_letters k (data_line p c)
data_other k p [] h n m = absurd (h refl)
data_other k p (x ∷ c) h n m = rw (ne_eqb x 61 n, ne_eqb x 45 m) refl

pub after_blank : (k : Label) (p : Pending) (c : List ℕ) → length c ≡ 0 → inside (AfterChecksum k) p c ≡ Ok (record { section = AfterChecksum k; pending = p }, [])
after_blank k p [] h = refl
after_blank k p (x ∷ c) h = absurd (omega arith)

pub after_dash : (k : Label) (p : Pending) (c : List ℕ) → length c ≢ 0 → slice_index c 0 ≡ 45 → inside (AfterChecksum k) p c ≡ closing k p c
after_dash k p [] h e = absurd (h refl)
after_dash k p (x ∷ c) h e = rw e refl

pub after_other : (k : Label) (p : Pending) (c : List ℕ) → length c ≢ 0 → slice_index c 0 ≢ 45 → inside (AfterChecksum k) p c ≡ Err reason.AfterChecksum
after_other k p [] h e = absurd (h refl)
after_other k p (x ∷ c) h e = rw (ne_eqb x 45 e) refl

-- the lines of each section
pub ruleset header_lines = (headers_blank, headers_other)

pub ruleset data_lines = (data_blank, data_waits, data_checksum, data_dash, data_other)

pub ruleset after_lines = (after_blank, after_dash, after_other)
