-- A text, read line after line.
use Rattle.std.proofs.Common.{◌≡◌, ◌∙◌, ◌⊎◌, ℕ, ◌+◌, ◌<◌, ◌≤◌, nat_lt, true, false, List, [], ◌∷◌, ◌++◌, length, drop, Result, Ok, Err, refl, ap, inl, inr, arith}
use Rattle.std.proofs.lemmas.Bool.{le-ltb, lt-ltb}
use Rattle.std.proofs.lemmas.List.{drop_all}
use Rattle.std.specs.List.{fold}
use Rattle.opgp_armor.specs.Text.{Line, lines}
use Rattle.opgp_armor.proofs.Texts.{lines-nil}
use Rattle.opgp_octets.specs.declared.fault.Fault.{Fault}
use Rattle.opgp_octets.specs.declared.fault.Layer.TheVariants as layer
use Rattle.opgp_octets.specs.declared.fault.Reason.{Reason}
use Rattle.opgp_octets.specs.declared.fault.Reason.TheVariants as reason
use Rattle.opgp_cleartext.specs.Faults.{Situation, end_reason}
use Rattle.opgp_cleartext.specs.Machine.{Next, Last, Refused, short_step, step, go, ended, reading, FailsSo, Found, Failed}

-- ---- one line
pub step_within : (most : ℕ) (s : Situation) (l : Line) → length l ≤ most → step most s l ≡ short_step s l
unfolding step
step_within most s l h = let n : nat_lt most (length l) ≡ false = le-ltb most (length l) h in rw n refl

pub step_long : (most : ℕ) (s : Situation) (l : Line) → most < length l → step most s l ≡ Refused reason.LineTooLong
unfolding step
step_long most s l h = let n : nat_lt most (length l) ≡ true = lt-ltb most (length l) h in rw n refl

-- ---- what was found, or refused, stays
pub found_stays : (most : ℕ) (d : List (List ℕ)) (at : ℕ) (ls : List Line) → fold (go most) (Found d at) ls ≡ Found d at
found_stays most d at [] = refl
found_stays most d at (l ∷ ls) = found_stays most d at ls

pub failed_stays : (most : ℕ) (why : Reason) (at : ℕ) (ls : List Line) → fold (go most) (Failed why at) ls ≡ Failed why at
failed_stays most why at [] = refl
failed_stays most why at (l ∷ ls) = failed_stays most why at ls

-- ---- from a place of a text on
-- the next line begins behind this one, or there is none
abbrev pub Behind : ℕ → ℕ → Line → List Line → Type 0
Behind at next l ls = (next ≡ at + (length l + 1)) ⊎ (ls ≡ [])

pub read_next : (most n : ℕ) (s t : Situation) (at next : ℕ) (l : Line) (ls : List Line) → step most s l ≡ Next t → Behind at next l ls
    → reading most n s at (l ∷ ls) ≡ reading most n t next ls
unfolding reading
read_next most n s t at next l ls is (inl e) = rw (is, e) refl
read_next most n s t at next l ls is (inr e) = rw (is, e) refl

pub read_fails : (most n : ℕ) (s : Situation) (why : Reason) (at : ℕ) (l : Line) (ls : List Line) → step most s l ≡ Refused why
    → reading most n s at (l ∷ ls) ≡ Err (why, at)
unfolding reading
read_fails most n s why at l ls is = rw is (ap (ended n) (failed_stays most why at ls))

pub read_finds : (most n : ℕ) (s : Situation) (d : List (List ℕ)) (at : ℕ) (l : Line) (ls : List Line) → step most s l ≡ Last d
    → reading most n s at (l ∷ ls) ≡ Ok (d, at)
unfolding reading
read_finds most n s d at l ls is = rw is (ap (ended n) (found_stays most d at ls))

pub read_ends : (most n : ℕ) (s : Situation) (at : ℕ) → reading most n s at [] ≡ Err (end_reason s, n)
unfolding reading
read_ends most n s at = refl

pub behind : (text : List ℕ) (at next : ℕ) (l : Line) → ((next ≡ at + (length l + 1)) × (drop at text ≡ l ++ 10 ∷ drop next text)) ⊎ (next ≡ length text)
    → Behind at next l (lines (drop next text))
behind text at next l (inl e) = inl e.0
behind text at next l (inr e) = inr (ap lines (drop_all next text (omega arith)) ∙ lines-nil)

-- ---- what the line at a place does
abbrev pub Ended : List ℕ → ℕ → ℕ → Line → Type 0
Ended text at next l = ((next ≡ at + (length l + 1)) × (drop at text ≡ l ++ 10 ∷ drop next text)) ⊎ (next ≡ length text)

pub advance : (most : ℕ) (text : List ℕ) (s t : Situation) (at next : ℕ) (l : Line) → lines (drop at text) ≡ l ∷ lines (drop next text) → Ended text at next l
    → length l ≤ most → short_step s l ≡ Next t → reading most (length text) s at (lines (drop at text)) ≡ reading most (length text) t next (lines (drop next text))
advance most text s t at next l is e w turns =
    ap (λ (ls : List Line). reading most (length text) s at ls) is
    ∙ read_next most (length text) s t at next l (lines (drop next text)) (step_within most s l w ∙ turns) (behind text at next l e)

pub refuse : (most : ℕ) (text : List ℕ) (s : Situation) (why : Reason) (at next : ℕ) (l : Line) → lines (drop at text) ≡ l ∷ lines (drop next text)
    → length l ≤ most → short_step s l ≡ Refused why → reading most (length text) s at (lines (drop at text)) ≡ Err (why, at)
refuse most text s why at next l is w turns =
    ap (λ (ls : List Line). reading most (length text) s at ls) is
    ∙ read_fails most (length text) s why at l (lines (drop next text)) (step_within most s l w ∙ turns)

pub refuse_long : (most : ℕ) (text : List ℕ) (s : Situation) (at next : ℕ) (l : Line) → lines (drop at text) ≡ l ∷ lines (drop next text)
    → most < length l → reading most (length text) s at (lines (drop at text)) ≡ Err (reason.LineTooLong, at)
refuse_long most text s at next l is w =
    ap (λ (ls : List Line). reading most (length text) s at ls) is
    ∙ read_fails most (length text) s reason.LineTooLong at l (lines (drop next text)) (step_long most s l w)

pub finish : (most : ℕ) (text : List ℕ) (s : Situation) (d : List (List ℕ)) (at next : ℕ) (l : Line) → lines (drop at text) ≡ l ∷ lines (drop next text)
    → length l ≤ most → short_step s l ≡ Last d → reading most (length text) s at (lines (drop at text)) ≡ Ok (d, at)
finish most text s d at next l is w turns =
    ap (λ (ls : List Line). reading most (length text) s at ls) is
    ∙ read_finds most (length text) s d at l (lines (drop next text)) (step_within most s l w ∙ turns)

pub end : (most : ℕ) (text : List ℕ) (s : Situation) (at : ℕ) → lines (drop at text) ≡ [] → reading most (length text) s at (lines (drop at text)) ≡ Err (end_reason s, length text)
end most text s at is = ap (λ (ls : List Line). reading most (length text) s at ls) is ∙ read_ends most (length text) s at

-- a fault, told of what is read from elsewhere
pub told : (read : Result (List (List ℕ) × ℕ) (Reason × ℕ)) (f : Fault) (why : Reason) (pos : ℕ) → f.layer ≡ layer.Cleartext → (f.block ≡ 0) × (f.inner ≡ 0)
    → f.reason ≡ why → f.pos ≡ pos → read ≡ Err (why, pos) → FailsSo read f
told read f why pos l o r p is = record { layer_is = l; block_is = o.0; inner_is = o.1; read_is = cc }
