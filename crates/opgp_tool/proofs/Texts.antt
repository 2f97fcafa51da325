-- The texts of an option, read one after the other.
use denote.Ref.{Bor}
use Rattle.std.proofs.Common.{◌≡◌, ◌+◌, ◌<◌, suc, arith, drop, drop-cons, get_or, length, map, ◌∙◌, ℕ, List, [], ◌∷◌, ◌++◌, Ok, Err, Result, ap, refl, sym, subst, append_assoc, append-nil}
use Rattle.std.specs.List.{AllZip}
use Rattle.std.specs.Str.Parse.{ParsesUnsigned}
use Rattle.clap.specs.Words.{Text}
use Rattle.opgp_stack.proofs.Zips.{zip_none, zip_push}
use Rattle.opgp_tool.specs.Words.{IsNumber}

module _ {A B : Type 0} (R : A → B → Type 0) (all : List A) where
  -- what was read, and what is to come
  pub record SoFar (rest : List A) (read : List B) : Type 0 where
    pub front : List A
    pub all_of_it : front ++ rest ≡ all
    pub fits : AllZip R front read

  pub at_first : SoFar all []
  at_first = record { front = []; all_of_it = refl; fits = tt }

  pub one_more : (rest : List A) (x : A) (more : List A) (read new : List B) (y : B) → rest ≡ x ∷ more → R x y → new ≡ read ++ y ∷ [] → SoFar rest read → SoFar more new
  one_more rest x more read new y e here is h = record {
    front = h.front ++ x ∷ [];
    all_of_it = append_assoc h.front (x ∷ []) more ∙ ap (λ (l : List A). h.front ++ l) (sym e) ∙ h.all_of_it;
    fits = subst (AllZip R (h.front ++ x ∷ [])) (sym is) (zip_push R h.front read x y h.fits here);
  }

  pub none_read : (rest : List A) (x : A) (more : List A) (read : List B) → rest ≡ x ∷ more → ((y : B) → R x y → ⊥) → SoFar rest read → (ys : List B) → AllZip R all ys → ⊥
  none_read rest x more read e none h ys said = zip_none R h.front x more ys none (subst (λ (l : List A). AllZip R l ys) (sym h.all_of_it ∙ ap (λ (l : List A). h.front ++ l) e) said)

  pub all_read : (rest : List A) (read : List B) → rest ≡ [] → SoFar rest read → AllZip R all read
  all_read rest read e h = subst (λ (l : List A). AllZip R l read) (sym (append-nil h.front) ∙ ap (λ (l : List A). h.front ++ l) (sym e) ∙ h.all_of_it) h.fits

-- the texts of an option, and the next of them
abbrev pub texts_in : List (Bor Text) → List Text
texts_in texts = map (λ text. text.now) texts

abbrev pub nothing : Bor Text
nothing = record { ref_ptr = (0, 0); now = [] }

pub next_text : (texts : List (Bor Text)) (i : ℕ) → i < length texts → texts_in (drop i texts) ≡ (get_or texts i nothing).now ∷ texts_in (drop (i + 1) texts)
next_text texts i h =
    let next : suc i ≡ i + 1 = omega arith in
    ap texts_in (drop-cons texts i nothing h) ∙ ap (λ (k : ℕ). (get_or texts i nothing).now ∷ texts_in (drop k texts)) next

pub no_number : {E : Type 0} (text : Text) (e : E) → ParsesUnsigned 64 10 text (Err e) → (n : ℕ) → IsNumber text n → ⊥
no_number text e read n said = read (said.digits, said.fits)
