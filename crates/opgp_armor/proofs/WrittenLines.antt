-- What is written is read again.
use Rattle.std.proofs.Common.{◌≡◌, ℕ, zero, suc, ◌+◌, ◌-◌, ◌*◌, ◌/◌, ◌<◌, ◌≤◌, ◌==◌, true, false, List, [], ◌∷◌, ◌++◌, ◌%◌, length, take, drop, replicate, map, refl, sym, ap, ◌∙◌, arith, inl, inr, subst}
use Rattle.std.proofs.lemmas.List.{append_assoc, append-nil, length-append, length-replicate, length-take, length-drop, length-take-le, take_all, drop_all, take_at, take-append-drop}
use Rattle.std.proofs.Math.Seq.{drop-append_seam}
use Rattle.base64.specs.Engines.{standard}
use Rattle.base64.specs.Rfc4648.{encode_symbols, padding_len, unpadded_len}
use Rattle.base64.proofs.RoundTrip.{length-encode_symbols}
use Rattle.std.proofs.lemmas.List.Concat.{flat_map-append}
use Rattle.std.proofs.lemmas.Bool.{cases_Bool, cases_lt, eqb-true}
use Rattle.std.specs.List.{flat_map, list_all, list_any, AllByRecursion}
use Rattle.opgp_octets.specs.Octets.{IsOctets}
use Rattle.opgp_armor.specs.Rules.{LineRule}
use Rattle.opgp_armor.specs.declared.label.Label.{Label}
use Rattle.opgp_armor.specs.declared.label.Label.TheVariants.{Message, PublicKeyBlock, PrivateKeyBlock, Signature}
use Rattle.opgp_armor.specs.Letters.{is_equals, may_stand, base64_of}
use Rattle.opgp_armor.specs.Cuts.{is_plain}
use Rattle.opgp_armor.specs.Text.{Line, content, strip, is_trailing, begin_line, end_line}
use Rattle.opgp_armor.specs.Armored.{Block, Armored, Whole, IsBlock, IsHeader, AreHeaders, IsDataLine, begins_with, is_dash}
use Rattle.opgp_armor.specs.Written.{text_of, is_feed, ends_trailing, IsWritable, AreWritable, header_line, rows, letter_lines, armor_lines, armor_text, IsWithin, AreWithin}
use Rattle.opgp_armor.proofs.Octets.{AreOctets, all_octets}
use Rattle.opgp_armor.proofs.Groups.{begins_with_equals}
use Rattle.opgp_armor.proofs.Standard.{parts_at, base64_of-nil, base64_of-append, base64_begins, base64_stands}
use Rattle.opgp_armor.proofs.DataLine.{all_parts, all_both, octets_back, or_false}
use Rattle.opgp_armor.proofs.Lists.{recursion-append}
use Rattle.opgp_armor.proofs.Texts.{IsPlain, lines-text_plain}

-- ---- lines of letters
pub letter_lines-nil : letter_lines [] ≡ []
unfolding letter_lines
letter_lines-nil = refl

count_step : (n m k : ℕ) → 0 < n → m ≡ n - 64 → k ≡ (n + 63) / 64 → k ≡ suc ((m + 63) / 64)
count_step n m k some e f = omega arith

pub letter_lines-step : (s : List ℕ) → 0 < length s → letter_lines s ≡ take 64 s ∷ letter_lines (drop 64 s)
unfolding letter_lines
letter_lines-step s some = ap (λ (v : ℕ). rows v s) (count_step (length s) (length (drop 64 s)) ((length s + 63) / 64) some (length-drop 64 s) refl)

-- one line of letters more
pub letters_more : (text before s : List ℕ) → 0 < length s → text ≡ before ++ (take 64 s ++ 10 ∷ []) → before ++ text_of (letter_lines s) ≡ text ++ text_of (letter_lines (drop 64 s))
letters_more text before s some e =
    ap (λ (v : List Line). before ++ text_of v) (letter_lines-step s some)
    ∙ sym (append_assoc before (take 64 s ++ 10 ∷ []) (text_of (letter_lines (drop 64 s))))
    ∙ ap (λ (v : List ℕ). v ++ text_of (letter_lines (drop 64 s))) (sym e)

-- ---- rows of 48 octets
size_whole : (n : ℕ) → (4 * n + 2) / 3 + (3 - n % 3) % 3 ≡ 4 * ((n + 2) / 3)
size_whole n = omega arith

pub base64_length : (o : List ℕ) → length (base64_of o) ≡ 4 * ((length o + 2) / 3)
unfolding base64_of
base64_length o =
    let pads : List ℕ = replicate (padding_len (length o)) 61 in
    let padded : length pads ≡ padding_len (length o) = length-replicate (padding_len (length o)) 61 in
    length-append (encode_symbols standard.encode_table o) pads
    ∙ ap (λ (v : ℕ). v + length pads) (length-encode_symbols standard.encode_table o)
    ∙ ap (λ (v : ℕ). unpadded_len (length o) + v) padded
    ∙ size_whole (length o)

record Row (o : List ℕ) : Type 0 where
  front : take 64 (base64_of o) ≡ base64_of (take 48 o)
  back : drop 64 (base64_of o) ≡ base64_of (drop 48 o)

row : (o : List ℕ) → Row o
row o = elim (cases_lt (length o) 48) [
  | inl lt ↦
      let few : length (base64_of o) ≤ 64 = omega (arith, base64_length o) in
      record {
        front = take_all 64 (base64_of o) few ∙ ap base64_of (sym (take_all 48 o (omega arith)));
        back = drop_all 64 (base64_of o) few ∙ sym base64_of-nil ∙ ap base64_of (sym (drop_all 48 o (omega arith)));
      }
  | inr ge ↦
      let n : length (take 48 o) ≡ 48 = length-take-le 48 o ge in
      let size : length (base64_of (take 48 o)) ≡ 64 = base64_length (take 48 o) ∙ ap (λ (v : ℕ). 4 * ((v + 2) / 3)) n in
      let parts : base64_of o ≡ base64_of (take 48 o) ++ base64_of (drop 48 o) =
      ap base64_of (sym (take-append-drop 48 o)) ∙ base64_of-append (take 48 o) (drop 48 o) (ap (λ (v : ℕ). v % 3) n) in
      record {
        front = ap (take 64) parts ∙ take_at (base64_of (take 48 o)) (base64_of (drop 48 o)) 64 size;
        back = ap (drop 64) parts ∙ ap (λ (v : ℕ). drop v (base64_of (take 48 o) ++ base64_of (drop 48 o))) (sym size) ∙ drop-append_seam (base64_of (take 48 o)) (base64_of (drop 48 o));
      }
]

-- one row more
pub row_more : (text before o : List ℕ) → 0 < length o → text ≡ before ++ (base64_of (take 48 o) ++ 10 ∷ [])
    → before ++ text_of (letter_lines (base64_of o)) ≡ text ++ text_of (letter_lines (base64_of (drop 48 o)))
row_more text before o some e =
    letters_more text before (base64_of o) (omega (arith, base64_length o)) (e ∙ ap (λ (v : List ℕ). before ++ (v ++ 10 ∷ [])) (sym (row o).front))
    ∙ ap (λ (v : List ℕ). text ++ text_of (letter_lines v)) (row o).back

stands_kept : (c : ℕ) → may_stand c ≡ true → is_trailing c ≡ false
stands_kept c h = elim (cases_Bool (c == 32)) [
  | inl y ↦ cc (rw (eqb-true c 32 y) at h)
  | inr n ↦ elim (cases_Bool (c == 9)) [
    | inl y ↦ cc (rw (eqb-true c 9 y) at h)
    | inr n2 ↦ elim (cases_Bool (c == 13)) [
      | inl y ↦ cc (rw (eqb-true c 13 y) at h)
      | inr n3 ↦ rw (n, n2, n3) refl
    ]
  ]
]

stands_no_dash : (s : List ℕ) → list_all may_stand s ≡ true → begins_with is_dash s ≡ false
stands_no_dash [] h = refl
stands_no_dash (c ∷ s) h = elim (cases_Bool (c == 45)) [
  | inl y ↦ cc (rw (eqb-true c 45 y) at h)
  | inr n ↦ n
]

stands_plain : (s : List ℕ) → list_all may_stand s ≡ true → list_all is_plain s ≡ true
stands_plain [] h = refl
stands_plain (c ∷ s) h = elim (cases_Bool (may_stand c)) [
  | inl y ↦ elim (cases_Bool (c == 10)) [
    | inl f ↦ cc (rw (eqb-true c 10 f) at y)
    | inr n ↦ rw n (stands_plain s (rw y at h))
  ]
  | inr n ↦ cc (rw n at h)
]

-- a line that doesn't end in a blank is its own content
pub content_kept : (l : List ℕ) → ends_trailing l ≡ false → content l ≡ l
unfolding content
content_kept [] h = refl
content_kept (c ∷ []) h = rw h refl
content_kept (c ∷ d ∷ ds) h = ap (strip c) (content_kept (d ∷ ds) h)

stands_end : (s : List ℕ) → list_all may_stand s ≡ true → ends_trailing s ≡ false
stands_end [] h = refl
stands_end (c ∷ []) h = elim (cases_Bool (may_stand c)) [
  | inl y ↦ stands_kept c y
  | inr n ↦ cc (rw n at h)
]
stands_end (c ∷ d ∷ ds) h = elim (cases_Bool (may_stand c)) [
  | inl y ↦ stands_end (d ∷ ds) (rw y at h)
  | inr n ↦ cc (rw n at h)
]

begins_front : (n : ℕ) (s : List ℕ) → begins_with_equals s ≡ false → begins_with is_equals (take n s) ≡ false
begins_front zero s h = refl
begins_front (suc n) [] h = refl
begins_front (suc n) (c ∷ s) h = h

-- the lines of letters, against the letters
record AreRows (limit : ℕ) (ls : List Line) (s : List ℕ) : Type 0 where
  are_data_lines : AllByRecursion (IsDataLine limit) ls
  are_plain : AllByRecursion IsPlain ls
  joined : s ≡ flat_map content ls

-- the octets behind the first line of letters
behind : (o : List ℕ) → AreOctets o → (back : List ℕ) × AreOctets back × (drop 64 (base64_of o) ≡ base64_of back)
behind o octets = elim (cases_lt (length (base64_of o)) 64) [
  | inl few ↦ ([], tt, drop_all 64 (base64_of o) (omega arith) ∙ sym base64_of-nil)
  | inr many ↦
      let parts = parts_at 16 o (take 64 (base64_of o)) (drop 64 (base64_of o)) (sym (take-append-drop 64 (base64_of o))) (length-take-le 64 (base64_of o) many) in
      let both : AreOctets (parts.front ++ parts.back) = subst AreOctets parts.whole octets in
      (parts.back, octets_back parts.front parts.back both, parts.back_is)
]

rows_are : (limit n : ℕ) (o : List ℕ) → 128 ≤ limit → AreOctets o → length (base64_of o) ≤ 64 * n → AreRows limit (rows n (base64_of o)) (base64_of o)
rows_are limit zero o large octets h = record { are_data_lines = tt; are_plain = tt; joined = nothing (base64_of o) (omega arith) }
  where
    nothing : (s : List ℕ) → length s ≡ 0 → s ≡ []
    nothing [] h = refl
    nothing (c ∷ s) h = absurd (omega arith)
rows_are limit (suc n) o large octets h =
    let s : List ℕ = base64_of o in
    let b = behind o octets in
    let short : length (base64_of b.0) ≤ 64 * n = omega (arith, ap length b.2, length-drop 64 s) in
    let rest = rows_are limit n b.0 large b.1 short in
    let stand = (all_parts may_stand (take 64 s) (drop 64 s) (ap (list_all may_stand) (take-append-drop 64 s) ∙ base64_stands o octets)).0 in
    let is : content (take 64 s) ≡ take 64 s = content_kept (take 64 s) (stands_end (take 64 s) stand) in
    let same : rows n (drop 64 s) ≡ rows n (base64_of b.0) = ap (rows n) b.2 in
    record {
      are_data_lines = (
        record {
          no_checksum = ap (begins_with is_equals) is ∙ begins_front 64 s (base64_begins o octets);
          no_end = ap (begins_with is_dash) is ∙ stands_no_dash (take 64 s) stand;
          within = omega (arith, length-take 64 s);
        },
        subst (AllByRecursion (IsDataLine limit)) (sym same) rest.are_data_lines,
      );
      are_plain = (stands_plain (take 64 s) stand, subst (AllByRecursion IsPlain) (sym same) rest.are_plain);
      joined = sym (take-append-drop 64 s) ∙ ap (λ (v : List ℕ). take 64 s ++ v) (b.2 ∙ rest.joined)
          ∙ ap (λ (v : List ℕ). v ++ flat_map content (rows n (base64_of b.0))) (sym is)
          ∙ ap (λ (v : List Line). content (take 64 s) ++ flat_map content v) (sym same);
    }

letter_lines_are : (limit : ℕ) (o : List ℕ) → 128 ≤ limit → AreOctets o → AreRows limit (letter_lines (base64_of o)) (base64_of o)
unfolding letter_lines
letter_lines_are limit o large octets = rows_are limit ((length (base64_of o) + 63) / 64) o large octets (omega arith)

-- the lines, one after the other
pub assembled : (b e : Line) (hs ls : List Line) → ((((([] ++ (b ++ 10 ∷ [])) ++ text_of hs) ++ ([] ++ 10 ∷ [])) ++ text_of ls) ++ (e ++ 10 ∷ [])) ≡ text_of (b ∷ (hs ++ [] ∷ (ls ++ e ∷ [])))
assembled b e hs ls =
    let line : Line → List ℕ = λ l. l ++ 10 ∷ [] in
    let last : text_of (ls ++ e ∷ []) ≡ text_of ls ++ (e ++ 10 ∷ []) = flat_map-append line ls (e ∷ []) ∙ ap (λ (v : List ℕ). text_of ls ++ v) (append-nil (e ++ 10 ∷ [])) in
    let rest : text_of (hs ++ [] ∷ (ls ++ e ∷ [])) ≡ text_of hs ++ (10 ∷ (text_of ls ++ (e ++ 10 ∷ []))) =
    flat_map-append line hs ([] ∷ (ls ++ e ∷ [])) ∙ ap (λ (v : List ℕ). text_of hs ++ (10 ∷ v)) last in
    append_assoc (((b ++ 10 ∷ []) ++ text_of hs) ++ 10 ∷ []) (text_of ls) (e ++ 10 ∷ [])
    ∙ append_assoc ((b ++ 10 ∷ []) ++ text_of hs) (10 ∷ []) (text_of ls ++ (e ++ 10 ∷ []))
    ∙ append_assoc (b ++ 10 ∷ []) (text_of hs) (10 ∷ (text_of ls ++ (e ++ 10 ∷ [])))
    ∙ ap (λ (v : List ℕ). (b ++ 10 ∷ []) ++ v) (sym rest)

-- ---- headers
any_plain : (s : List ℕ) → list_any is_feed s ≡ false → list_all is_plain s ≡ true
any_plain [] h = refl
any_plain (c ∷ s) h =
    let p = or_false (is_feed c) (list_any is_feed s) h in
    rw p.0 (any_plain s p.1)

ends_behind : (a : List ℕ) (c : ℕ) (b : List ℕ) → ends_trailing (a ++ c ∷ b) ≡ ends_trailing (c ∷ b)
ends_behind [] c b = refl
ends_behind (x ∷ []) c b = refl
ends_behind (x ∷ y ∷ a) c b = ends_behind (y ∷ a) c b

trailing_space : (a : List ℕ) → content (a ++ 32 ∷ []) ≡ content a
unfolding content
trailing_space [] = refl
trailing_space (x ∷ a) = ap (strip x) (trailing_space a)

-- without its space, a header of no value
bare_header : (key : List ℕ) → content (key ++ 58 ∷ 32 ∷ []) ≡ key ++ 58 ∷ []
bare_header key =
    ap content (sym (append_assoc key (58 ∷ []) (32 ∷ []))) ∙ trailing_space (key ++ 58 ∷ []) ∙ content_kept (key ++ 58 ∷ []) (ends_behind key 58 [])

header_is : (limit : ℕ) (key value : List ℕ) → IsWritable (key, value) → IsWithin limit (key, value) → IsHeader limit (header_line (key, value)) (key, value)
header_is limit key [] w within = record { named = w.named; plain = w.plain; spelled = inl (bare_header key, refl); within = within }
header_is limit key (c ∷ value) w within = record {
  named = w.named;
  plain = w.plain;
  within = within;
  spelled = inr (content_kept (key ++ 58 ∷ 32 ∷ c ∷ value) (ends_behind key 58 (32 ∷ c ∷ value) ∙ w.kept_end));
}

headers_are : (limit : ℕ) (hs : List (List ℕ × List ℕ)) → AreWritable hs → AreWithin limit hs → AreHeaders limit (map header_line hs) hs
headers_are limit [] w within = tt
headers_are limit ((key, value) ∷ hs) w within = (header_is limit key value w.0 within.0, headers_are limit hs w.1 within.1)

headers_plain : (hs : List (List ℕ × List ℕ)) → AreWritable hs → AllByRecursion IsPlain (map header_line hs)
headers_plain [] w = tt
headers_plain ((key, value) ∷ hs) w =
    (all_both is_plain key (58 ∷ 32 ∷ value) (any_plain key w.0.one_line_key) (any_plain value w.0.one_line_value), headers_plain hs w.1)

-- ---- the block
begin_known : (k : Label) → (content (begin_line k) ≡ begin_line k) × IsPlain (begin_line k) × (length (begin_line k) < 128)
unfolding content
begin_known Message = (refl, refl, omega arith)
begin_known PublicKeyBlock = (refl, refl, omega arith)
begin_known PrivateKeyBlock = (refl, refl, omega arith)
begin_known Signature = (refl, refl, omega arith)

end_known : (k : Label) → (content (end_line k) ≡ end_line k) × IsPlain (end_line k) × (length (end_line k) < 128)
unfolding content
end_known Message = (refl, refl, omega arith)
end_known PublicKeyBlock = (refl, refl, omega arith)
end_known PrivateKeyBlock = (refl, refl, omega arith)
end_known Signature = (refl, refl, omega arith)

blank_known : content [] ≡ []
unfolding content
blank_known = refl

module _ (rule : LineRule) (label : Label) (hs : List (List ℕ × List ℕ)) (o : List ℕ) (large : 128 ≤ rule.most) (octets : IsOctets o) (writable : AreWritable hs) (within : AreWithin rule.most hs) where
  abbrev block : Block
  block = record { label = label; headers = hs; octets = o }

  abbrev front : List Line
  front = begin_line label ∷ (map header_line hs ++ [] ∷ letter_lines (base64_of o))

  all_lines : armor_lines label hs o ≡ front ++ end_line label ∷ []
  all_lines = ap (λ (v : List Line). begin_line label ∷ v) (sym (append_assoc (map header_line hs) ([] ∷ letter_lines (base64_of o)) (end_line label ∷ [])))

  written_rows : AreRows rule.most (letter_lines (base64_of o)) (base64_of o)
  written_rows = letter_lines_are rule.most o large (all_octets o octets)

  is_block : IsBlock rule.most block (armor_lines label hs o)
  is_block =
      let b = begin_known label in
      let e = end_known label in
      record {
        front = front;
        last = end_line label;
        letters = base64_of o;
        are = all_lines;
        is_front = inl (record {
          head = begin_line label ∷ map header_line hs;
          gap = [];
          data_lines = letter_lines (base64_of o);
          are = refl;
          is_head = record { first = begin_line label; rest = map header_line hs; are = refl; begins = b.0; within = omega (arith, b.2); headers_are = headers_are rule.most hs writable within };
          is_gap = record { blank = blank_known; within = omega arith };
          are_data_lines = written_rows.are_data_lines;
          joined = written_rows.joined;
        });
        spelled = (octets, refl);
        ends = e.0;
        within = omega (arith, e.2);
      }

  are_plain_lines : AllByRecursion IsPlain (armor_lines label hs o)
  are_plain_lines = (
    (begin_known label).1,
    recursion-append IsPlain (map header_line hs) ([] ∷ (letter_lines (base64_of o) ++ end_line label ∷ [])) (headers_plain hs writable)
        (refl, recursion-append IsPlain (letter_lines (base64_of o)) (end_line label ∷ []) written_rows.are_plain ((end_known label).1, tt)),
  )

  -- Written armor is the armored text of the one block.
  pub written_armored : Armored rule (armor_text label hs o) (record { label = label; headers = hs; octets = o } ∷ [])
  written_armored = record {
    whole = record {
      pieces = Whole (armor_lines label hs o) block ∷ [];
      each = (is_block, tt);
      are = lines-text_plain (armor_lines label hs o) are_plain_lines ∙ sym (append-nil (armor_lines label hs o));
      blocks_are = refl;
    };
    some = omega arith;
  }
