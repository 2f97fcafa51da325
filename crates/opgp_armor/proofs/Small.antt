-- How many octets one line can leave behind.
use Rattle.std.proofs.Common.{◌≡◌, ℕ, ◌+◌, ◌<◌, ◌≤◌, nat_lt, true, List, [], ◌∷◌, length, refl, sym, ap, arith, inl, inr, Option, None, Some, Ok, Err}
use Rattle.std.proofs.lemmas.List.{length-append}
use Rattle.std.proofs.lemmas.Bool.{cases_Bool, ltb-false}
use Rattle.std.specs.List.{list_all}
use Rattle.std.specs.Str.{bytes_eq}
use Rattle.std.specs.declared.result.Result.{Result}
use Rattle.opgp_octets.specs.declared.fault.Reason.{Reason}
use Rattle.opgp_armor.specs.Rules.{LineRule}
use Rattle.opgp_armor.specs.declared.label.Label.{Label}
use Rattle.opgp_armor.specs.declared.section.Section.{Section}
use Rattle.opgp_armor.specs.declared.section.Section.TheVariants.{Outside, Headers, Data, AfterChecksum}
use Rattle.opgp_armor.specs.Letters.{is_letter, is_equals, Pending, no_letters, data_line}
use Rattle.opgp_armor.specs.Text.{Line, content, begin_line, end_line}
use Rattle.opgp_armor.specs.Armored.{is_dash, label_at, passes_by}
use Rattle.opgp_armor.specs.Events.{Event, Begin, Header, End, event_octets}
use Rattle.opgp_armor.specs.Machine.{State, Answer, header_of, on_begin, on_header, on_letters, some_octets, waits, closing, inside, step, start}
use Rattle.opgp_armor.proofs.DataLine.{data_line_shrinks}
use Rattle.opgp_armor.proofs.Sound.{ok_pair, passed}
use Rattle.opgp_armor.proofs.HeaderLines.{header_is}
use Rattle.opgp_armor.proofs.Complete.{content_front}

-- behind so many letters that waited, a line of at most so many octets leaves behind no more than both
pub record IsSmall (limit waiting : ℕ) (s : State) (more : List Event) : Type 0 where
  pub few : length s.pending.letters < 4
  pub are_letters : list_all is_letter s.pending.letters ≡ true
  pub held : event_octets more + length s.pending.letters ≤ limit + waiting

module _ (limit : ℕ) (p : Pending) (few : length p.letters < 4) (letters : list_all is_letter p.letters ≡ true) (s : State) (more : List Event) where
  stays : (section : Section) → ◌≡◌ {A = Answer} (Ok (record { section = section; pending = p }, [])) (Ok (s, more)) → IsSmall limit (length p.letters) s more
  stays section h =
      let e = ok_pair {E = Reason} (record { section = section; pending = p }) s [] more h in
      rw (← e.0, ← e.1) (record { few = few; are_letters = letters; held = omega arith })

  begin_small : (o : Option Label) → on_begin o ≡ Ok (s, more) → IsSmall limit (length p.letters) s more
  begin_small None h = cc h
  begin_small (Some k) h =
      let e = ok_pair {E = Reason} (record { section = Headers k; pending = no_letters }) s (Begin k ∷ []) more h in
      rw (← e.0, ← e.1) (record { few = omega arith; are_letters = refl; held = omega arith })

  header_small : (k : Label) (o : Option (List ℕ × List ℕ)) → ((key value : List ℕ) → o ≡ Some (key, value) → length key + length value ≤ limit) → on_header k p o ≡ Ok (s, more) → IsSmall limit (length p.letters) s more
  header_small k None parts h = cc h
  header_small k (Some (key, value)) parts h =
      let e = ok_pair {E = Reason} (record { section = Headers k; pending = p }) s (Header key value ∷ []) more h in
      let size = parts key value refl in
      rw (← e.0, ← e.1) (record { few = few; are_letters = letters; held = omega arith })

  octets_of_some : (o : List ℕ) → event_octets (some_octets o) ≡ length o
  octets_of_some [] = refl
  octets_of_some (x ∷ o) = omega arith

  letters_small : (k : Label) (c : List ℕ) (a : Result (Pending × List ℕ) Reason) → a ≡ data_line p c → length c ≤ limit → on_letters k a ≡ Ok (s, more) → IsSmall limit (length p.letters) s more
  letters_small k c (Err x) is within h = cc h
  letters_small k c (Ok (q, o)) is within h =
      let e = ok_pair {E = Reason} (record { section = Data k; pending = q }) s (some_octets o) more h in
      let small = data_line_shrinks p c (q, o) letters (sym is) in
      let held : length o + length q.letters ≤ length p.letters + length c = small.held in
      rw (← e.0, ← e.1) (record { few = small.few; are_letters = small.are_letters; held = omega (arith, octets_of_some o) })

  closing_small : (k : Label) (c : List ℕ) → closing k p c ≡ Ok (s, more) → IsSmall limit (length p.letters) s more
  unfolding closing
  closing_small k c h = elim (cases_Bool (bytes_eq c (end_line k))) [
    | inl y ↦ elim (cases_Bool (waits p)) [
      | inl y2 ↦ cc (rw (y, y2) at h)
      | inr n2 ↦
          let e = ok_pair {E = Reason} start s (End ∷ []) more (rw (y, n2) at h) in
          rw (← e.0, ← e.1) (record { few = omega arith; are_letters = refl; held = omega arith })
    ]
    | inr n ↦ cc (rw n at h)
  ]

  header_size : (c : List ℕ) → length c ≤ limit → (key value : List ℕ) → header_of c ≡ Some (key, value) → length key + length value ≤ limit
  header_size c within key value o = elim (header_is c key value o).spelled [
    | inl e ↦ omega (arith, ap length e.0, length-append key (58 ∷ value))
    | inr e ↦ omega (arith, ap length e, length-append key (58 ∷ 32 ∷ value))
  ]

  inside_small : (section : Section) (c : List ℕ) → length c ≤ limit → inside section p c ≡ Ok (s, more) → IsSmall limit (length p.letters) s more
  inside_small Outside c within h = begin_small (label_at begin_line c) h
  inside_small (Headers k) [] within h = stays (Data k) h
  inside_small (Headers k) (x ∷ c) within h = header_small k (header_of (x ∷ c)) (header_size (x ∷ c) within) h
  inside_small (Data k) [] within h = stays (Data k) h
  inside_small (Data k) (x ∷ c) within h = elim (cases_Bool (is_equals x)) [
    | inl y ↦ elim (cases_Bool (waits p)) [
      | inl y2 ↦ cc (rw (y, y2) at h)
      | inr n2 ↦ stays (AfterChecksum k) (rw (y, n2) at h)
    ]
    | inr n ↦ elim (cases_Bool (is_dash x)) [
      | inl y ↦ closing_small k (x ∷ c) (rw (n, y) at h)
      | inr n2 ↦ letters_small k (x ∷ c) (data_line p (x ∷ c)) refl within (rw (n, n2) at h)
    ]
  ]
  inside_small (AfterChecksum k) [] within h = stays (AfterChecksum k) h
  inside_small (AfterChecksum k) (x ∷ c) within h = elim (cases_Bool (is_dash x)) [
    | inl y ↦ closing_small k (x ∷ c) (rw y at h)
    | inr n ↦ cc (rw n at h)
  ]

pub step_small : (rule : LineRule) (s t : State) (l : Line) (more : List Event) → length s.pending.letters < 4 → list_all is_letter s.pending.letters ≡ true → step rule s l ≡ Ok (t, more) → IsSmall rule.most (length s.pending.letters) t more
unfolding step
step_small rule s t l more few letters h = elim (cases_Bool (passes_by s.section l)) [
  | inl y ↦ let e = passed rule.outside rule.most s t l more (rw y at h) in rw (← e.0, ← e.1) (stays rule.most s.pending few letters s [] s.section refl)
  | inr n ↦ elim (cases_Bool (nat_lt rule.most (length l))) [
    | inl y ↦ cc (rw (n, y) at h)
    | inr n2 ↦
        let within : length l ≤ rule.most = ltb-false rule.most (length l) n2 in
        let f = content_front l in
        inside_small rule.most s.pending few letters t more s.section (content l) (omega (arith, ap length f.1, length-append (content l) f.0)) (rw (n, n2) at h)
  ]
]

-- whatever the rule, a line leaves behind no more octets than it has, beside the letters that waited
pub step_shrinks : (rule : LineRule) (s t : State) (l : Line) (more : List Event) → length s.pending.letters < 4 → list_all is_letter s.pending.letters ≡ true → step rule s l ≡ Ok (t, more)
    → IsSmall (length l) (length s.pending.letters) t more
unfolding step
step_shrinks rule s t l more few letters h = elim (cases_Bool (passes_by s.section l)) [
  | inl y ↦ let e = passed rule.outside rule.most s t l more (rw y at h) in rw (← e.0, ← e.1) (stays (length l) s.pending few letters s [] s.section refl)
  | inr n ↦ elim (cases_Bool (nat_lt rule.most (length l))) [
    | inl y ↦ cc (rw (n, y) at h)
    | inr n2 ↦
        let f = content_front l in
        inside_small (length l) s.pending few letters t more s.section (content l) (omega (arith, ap length f.1, length-append (content l) f.0)) (rw (n, n2) at h)
  ]
]
