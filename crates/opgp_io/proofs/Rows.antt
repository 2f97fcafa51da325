-- Octets armored in rows.
use Rattle.std.proofs.Common.{◌≡◌, ◌∙◌, ℕ, ◌%◌, ◌≤◌, false, List, [], ◌∷◌, ◌++◌, refl, sym, ap, subst, arith, length, take, drop, Result, Ok, Err}
use Rattle.std.specs.Prelude.{MatchResult}
use Rattle.std.specs.Result.{IsErr, OnErr}
use Rattle.std.proofs.lemmas.List.{append_assoc, append-nil, take-append-drop, length-append, length-take-le}
use Rattle.std.proofs.lemmas.List.Concat.{flat_map-append}
use Rattle.opgp_armor.specs.declared.label.Label.{Label}
use Rattle.opgp_armor.specs.Letters.{base64_of}
use Rattle.opgp_armor.specs.Text.{Line, begin_line, end_line}
use Rattle.opgp_armor.specs.Written.{text_of, letter_lines, data_lines, armor_text}
use Rattle.opgp_io.specs.Added.{State, Adds, Breaks, Writes}
use Rattle.opgp_io.specs.Rows.{opening, closing, Rows, AddsRows, BreaksRows, WritesRows}
use Rattle.opgp_io.specs.declared.armoring.Armoring.{Armoring}
use Rattle.opgp_io.specs.Armoring.{Armors, BreaksArmor, Tells, label_of, row_of}
use Rattle.opgp_io.proofs.Added.{adds_nothing, adds_then, breaks_then, breaks_more, breaks_same, then_is}

-- what the laws of armor say of data lines
abbrev pub Joins : Type 0
Joins = (rows more : List ℕ) → length rows % 48 ≡ 0 → data_lines (rows ++ more) ≡ data_lines rows ++ data_lines more

abbrev pub None : Type 0
None = data_lines [] ≡ []

-- All is added but what is left.
pub record RowsAllBut (old new : Rows) (left all : List ℕ) : Type 0 where
  pub done : List ℕ
  pub added : AddsRows old new done
  pub joined : done ++ left ≡ all

-- ---- one after the other
pub rows_then : Joins → (a b c : Rows) (xs ys : List ℕ) → AddsRows a b xs → AddsRows b c ys → AddsRows a c (xs ++ ys)
rows_then join a b c xs ys p q = record {
  rows = p.rows ++ q.rows;
  whole = omega (arith, length-append p.rows q.rows, p.whole, q.whole);
  joined = sym (append_assoc a.row xs ys) ∙ ap (λ (v : List ℕ). v ++ ys) p.joined ∙ append_assoc p.rows b.row ys ∙ ap (λ (v : List ℕ). p.rows ++ v) q.joined ∙ sym (append_assoc p.rows q.rows c.row);
  added = subst (Adds a.output c.output) (sym (join p.rows q.rows p.whole)) (adds_then a.output b.output c.output (data_lines p.rows) (data_lines q.rows) p.added q.added);
}

pub rows_broken : Joins → (a b c : Rows) (xs ys : List ℕ) → AddsRows a b xs → BreaksRows b c ys → BreaksRows a c (xs ++ ys)
rows_broken join a b c xs ys p q = record {
  rows = p.rows ++ q.rows;
  rest = q.rest;
  whole = omega (arith, length-append p.rows q.rows, p.whole, q.whole);
  joined = sym (append_assoc a.row xs ys) ∙ ap (λ (v : List ℕ). v ++ ys) p.joined ∙ append_assoc p.rows b.row ys ∙ ap (λ (v : List ℕ). p.rows ++ v) q.joined ∙ sym (append_assoc p.rows q.rows q.rest);
  broken = subst (Breaks a.output c.output) (sym (join p.rows q.rows p.whole)) (breaks_then a.output b.output c.output (data_lines p.rows) (data_lines q.rows) p.added q.broken);
}

pub rows_broken_more : (a b : Rows) (xs ys : List ℕ) → BreaksRows a b xs → BreaksRows a b (xs ++ ys)
rows_broken_more a b xs ys p = record {
  rows = p.rows;
  rest = p.rest ++ ys;
  whole = p.whole;
  joined = sym (append_assoc a.row xs ys) ∙ ap (λ (v : List ℕ). v ++ ys) p.joined ∙ append_assoc p.rows p.rest ys;
  broken = p.broken;
}

pub rows_nothing : None → (a : Rows) → a.output.failed ≡ false → AddsRows a a []
rows_nothing none a sound = record {
  rows = [];
  whole = refl;
  joined = append-nil a.row;
  added = subst (Adds a.output a.output) (sym none) (adds_nothing a.output sound);
}

pub rows_stop : {T E : Type 0} (a b : Rows) (r : Result T E) (xs : List ℕ) → IsErr r → BreaksRows a b xs → WritesRows a b r xs
rows_stop a b (Ok x) xs h p = cc h
rows_stop a b (Err e) xs h p = p

pub at_err : {T E Q : Type 0} (r : Result T E) → Q → OnErr r Q
at_err (Ok x) q = tt
at_err (Err e) q = q

pub broken_at : {T E Q : Type 0} (P : T → Type 0) (r : Result T E) → IsErr r → Q → MatchResult r P (λ _. Q)
broken_at P (Ok x) h q = cc h
broken_at P (Err e) h q = q

-- what is added tells whether the sink has failed
pub told_by : {T E : Type 0} (a b : State) (xs : List ℕ) (r : Result T E) → Writes a b r xs → Tells r b.failed
told_by a b xs (Ok x) p = p.sound
told_by a b xs (Err e) p = p.failed

-- ---- a row from the octets, some that wait, and the row that waited
pub row_first : (a b : Rows) (octets : List ℕ) → a.row ≡ [] → b.row ≡ [] → 48 ≤ length octets → Adds a.output b.output (data_lines (take 48 octets)) → AddsRows a b (take 48 octets)
row_first a b octets e f h p = record {
  rows = take 48 octets;
  whole = ap (λ (v : ℕ). v % 48) (length-take-le 48 octets h);
  joined = ap (λ (v : List ℕ). v ++ take 48 octets) e ∙ sym (append-nil (take 48 octets)) ∙ ap (λ (v : List ℕ). take 48 octets ++ v) (sym f);
  added = p;
}

pub row_first_broken : (a b : Rows) (octets : List ℕ) → a.row ≡ [] → 48 ≤ length octets → Breaks a.output b.output (data_lines (take 48 octets)) → BreaksRows a b octets
row_first_broken a b octets e h p = record {
  rows = take 48 octets;
  rest = drop 48 octets;
  whole = ap (λ (v : ℕ). v % 48) (length-take-le 48 octets h);
  joined = ap (λ (v : List ℕ). v ++ octets) e ∙ sym (take-append-drop 48 octets);
  broken = p;
}

pub row_filled : None → (o : State) (row more octets : List ℕ) → o.failed ≡ false → more ≡ row ++ octets → AddsRows (record { output = o; row = row }) (record { output = o; row = more }) octets
row_filled none o row more octets sound e = record {
  rows = [];
  whole = refl;
  joined = sym e;
  added = subst (Adds o o) (sym none) (adds_nothing o sound);
}

pub row_waited : (a b : Rows) → length a.row ≡ 48 → b.row ≡ [] → Adds a.output b.output (data_lines a.row) → AddsRows a b []
row_waited a b h e p = record {
  rows = a.row;
  whole = ap (λ (v : ℕ). v % 48) h;
  joined = ap (λ (v : List ℕ). a.row ++ v) (sym e);
  added = p;
}

pub row_waited_broken : (a b : Rows) (octets : List ℕ) → length a.row ≡ 48 → Breaks a.output b.output (data_lines a.row) → BreaksRows a b octets
row_waited_broken a b octets h p = record { rows = a.row; rest = octets; whole = ap (λ (v : ℕ). v % 48) h; joined = refl; broken = p }

-- nothing waited
pub none_waited : None → (o : State) (row : List ℕ) → o.failed ≡ false → row ≡ [] → Adds o o (data_lines row)
none_waited none o row sound e = subst (Adds o o) (sym none ∙ ap data_lines (sym e)) (adds_nothing o sound)

-- ---- all but what is left
pub all_rows_left : None → (a : Rows) (all : List ℕ) → a.output.failed ≡ false → RowsAllBut a a all all
all_rows_left none a all sound = record { done = []; added = rows_nothing none a sound; joined = refl }

pub less_rows_left : Joins → (a b c : Rows) (left xs rest all : List ℕ) → RowsAllBut a b left all → left ≡ xs ++ rest → AddsRows b c xs → RowsAllBut a c rest all
less_rows_left join a b c left xs rest all h e p = record {
  done = h.done ++ xs;
  added = rows_then join a b c h.done xs h.added p;
  joined = append_assoc h.done xs rest ∙ ap (λ (v : List ℕ). h.done ++ v) (sym e) ∙ h.joined;
}

pub broken_rows_left : Joins → (a b c : Rows) (left all : List ℕ) → RowsAllBut a b left all → BreaksRows b c left → BreaksRows a c all
broken_rows_left join a b c left all h p = subst (BreaksRows a c) h.joined (rows_broken join a b c h.done left h.added p)

pub no_rows_left : (a b : Rows) (left all : List ℕ) → RowsAllBut a b left all → left ≡ [] → AddsRows a b all
no_rows_left a b left all h e = subst (AddsRows a b) (sym (append-nil h.done) ∙ ap (λ (v : List ℕ). h.done ++ v) (sym e) ∙ h.joined) h.added

-- ---- the whole text
text_parts : (b e : Line) (ls : List Line) → text_of (b ∷ [] ∷ (ls ++ e ∷ [])) ≡ (b ++ 10 ∷ 10 ∷ []) ++ (text_of ls ++ (e ++ 10 ∷ []))
text_parts b e ls =
    let rest : List ℕ = text_of ls ++ (e ++ 10 ∷ []) in
    ap (λ (v : List ℕ). (b ++ 10 ∷ []) ++ (10 ∷ v)) (flat_map-append (λ (l : Line). l ++ 10 ∷ []) ls (e ∷ []) ∙ ap (λ (v : List ℕ). text_of ls ++ v) (append-nil (e ++ 10 ∷ [])))
    ∙ append_assoc b (10 ∷ []) (10 ∷ rest) ∙ sym (append_assoc b (10 ∷ 10 ∷ []) rest)

text_is : (label : Label) (octets : List ℕ) → armor_text label [] octets ≡ opening label ++ (data_lines octets ++ closing label)
text_is label octets = text_parts (begin_line label) (end_line label) (letter_lines (base64_of octets))

-- ---- a block that is being added

pub armor_begins : (label : Label) (a b : State) (x : Armoring) → label_of x ≡ label → row_of x ≡ [] → Adds a b (opening label) → Armors label a b x []
armor_begins label a b x same empty p = record {
  same = same;
  text = opening label;
  added = p;
  ahead = λ more. text_is label more ∙ ap (λ (v : List ℕ). opening label ++ (data_lines (v ++ more) ++ closing label)) (sym empty);
}

pub armor_unbegun : (label : Label) (a b : State) → Breaks a b (opening label) → BreaksArmor label a b []
armor_unbegun label a b p = λ more. breaks_same a b _ _ (sym (text_is label more)) (breaks_more a b (opening label) (data_lines more ++ closing label) p)

-- what is still to come, cut after whole rows
rows_ahead : Joins → (label : Label) (start now : State) (x : Armoring) (given octets rows row more : List ℕ) (h : Armors label start now x given) → row_of x ++ octets ≡ rows ++ row → length rows % 48 ≡ 0
    → armor_text label [] ((given ++ octets) ++ more) ≡ (h.text ++ data_lines rows) ++ (data_lines (row ++ more) ++ closing label)
rows_ahead join label start now x given octets rows row more h e whole =
    let cut : row_of x ++ (octets ++ more) ≡ rows ++ (row ++ more) =
    sym (append_assoc (row_of x) octets more) ∙ ap (λ (v : List ℕ). v ++ more) e ∙ append_assoc rows row more in
    ap (armor_text label []) (append_assoc given octets more)
    ∙ h.ahead (octets ++ more)
    ∙ ap (λ (v : List ℕ). h.text ++ (v ++ closing label)) (ap data_lines cut ∙ join rows (row ++ more) whole)
    ∙ ap (λ (v : List ℕ). h.text ++ v) (append_assoc (data_lines rows) (data_lines (row ++ more)) (closing label))
    ∙ sym (append_assoc h.text (data_lines rows) (data_lines (row ++ more) ++ closing label))

pub armor_more : Joins → (now new : State) (x y : Armoring) (octets : List ℕ) → label_of y ≡ label_of x
    → AddsRows (record { output = now; row = row_of x }) (record { output = new; row = row_of y }) octets
    → (label : Label) (start : State) (given : List ℕ) → Armors label start now x given → Armors label start new y (given ++ octets)
armor_more join now new x y octets same p label start given h = record {
  same = same ∙ h.same;
  text = h.text ++ data_lines p.rows;
  added = adds_then start now new h.text (data_lines p.rows) h.added p.added;
  ahead = λ more. rows_ahead join label start now x given octets p.rows (row_of y) more h p.joined p.whole;
}

pub armor_broken : Joins → (now : State) (x : Armoring) (b : Rows) (octets : List ℕ) → BreaksRows (record { output = now; row = row_of x }) b octets
    → (label : Label) (start : State) (given : List ℕ) → Armors label start now x given → BreaksArmor label start b.output (given ++ octets)
armor_broken join now x b octets p label start given h = λ more.
    breaks_same start b.output _ _ (sym (rows_ahead join label start now x given octets p.rows p.rest more h p.joined p.whole))
    (breaks_more start b.output (h.text ++ data_lines p.rows) (data_lines (p.rest ++ more) ++ closing label) (breaks_then start now b.output h.text (data_lines p.rows) h.added p.broken))

pub armor_ends : {T E : Type 0} (now new : State) (x : Armoring) (r : Result T E) → Writes now new r (data_lines (row_of x) ++ closing (label_of x))
    → (label : Label) (start : State) (octets : List ℕ) → Armors label start now x octets → Writes start new r (armor_text label [] octets)
armor_ends now new x r p label start octets h =
    let rest : List ℕ = data_lines (row_of x) ++ closing (label_of x) in
    let whole : armor_text label [] octets ≡ h.text ++ rest =
    ap (armor_text label []) (sym (append-nil octets)) ∙ h.ahead []
    ∙ ap (λ (v : List ℕ). h.text ++ (data_lines v ++ closing label)) (append-nil (row_of x))
    ∙ ap (λ (l : Label). h.text ++ (data_lines (row_of x) ++ closing l)) (sym h.same) in
    then_is start now new r h.text rest _ whole h.added p
