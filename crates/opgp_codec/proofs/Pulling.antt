-- That the octets read decide the answer to all that a source had.
use Rattle.std.proofs.Common.{◌≡◌, ◌<◌, ℕ, zero, suc, ◌∷◌, Bool, false, Result, Ok, Err, ◌+◌, ◌≤◌, ◌⊎◌, take, inl, inr, List, [], ◌++◌, length, Option, Some, None, IfSome, sym, ap, ◌∙◌, subst, append-nil, length-append, arith}
use Rattle.opgp_octets.specs.declared.limits.Limits.{Limits}
use Rattle.opgp_octets.specs.Limits.{input_limit}
use Rattle.opgp_octets.specs.Octets.{IsOctets}
use Rattle.opgp_codec.specs.declared.mode.Mode.{Mode}
use Rattle.opgp_codec.specs.Pulled.{OfAll, OfInput, Pulls, ReadsAs, ReadsTo}
use Rattle.opgp_codec.specs.declared.read_error.ReadError.{ReadError}
use Rattle.opgp_codec.specs.declared.read_error.ReadError.TheVariants as read
use Rattle.opgp_keyring.specs.Composition.{Item}
use Rattle.opgp_codec.specs.Reading.{Wanted, Outcome, AnswerOf, at_length, at_armor, at_framing, at_top}

pub octets_take : (n : ℕ) (o : List ℕ) → IsOctets o → IsOctets (take n o)
octets_take zero o h i = omega arith
octets_take (suc n) [] h i = h i
octets_take (suc n) (x ∷ o) h zero = h 0
octets_take (suc n) (x ∷ o) h (suc i) = octets_take n o (λ j. h (suc j)) i

pub octets_append : (a b : List ℕ) → IsOctets a → IsOctets b → IsOctets (a ++ b)
octets_append [] b ha hb i = hb i
octets_append (x ∷ a) b ha hb zero = ha 0
octets_append (x ∷ a) b ha hb (suc i) = octets_append a b (λ j. ha (suc j)) hb i

module _ {A : Type 0} (wanted : Wanted) (top : List Item → Outcome A → Type 0) (mode : Mode) (limits : Limits) where
  -- more octets behind too many are too many
  too_many : (octets more : List ℕ) (a : Outcome A) → length octets ≡ input_limit limits + 1 → AnswerOf wanted top mode limits octets a → AnswerOf wanted top mode limits (octets ++ more) a
  too_many octets more a size (at_length x e) = at_length (omega (arith, length-append octets more)) e
  too_many octets more a size (at_armor x f h e) = absurd (omega arith)
  too_many octets more a size (at_framing x bs h f i e) = absurd (omega arith)
  too_many octets more a size (at_top x bs h ps i e) = absurd (omega arith)

  known_of : (before after octets : List ℕ) (a : Outcome A) → before ≡ octets ++ after → ((length octets ≤ input_limit limits) × (after ≡ [])) ⊎ (length octets ≡ input_limit limits + 1)
      → AnswerOf wanted top mode limits octets a → AnswerOf wanted top mode limits before a
  known_of before after octets a e (inl all) h = subst (λ (l : List ℕ). AnswerOf wanted top mode limits l a) (sym (e ∙ ap (λ (l : List ℕ). octets ++ l) all.1 ∙ append-nil octets)) h
  known_of before after octets a e (inr size) h = subst (λ (l : List ℕ). AnswerOf wanted top mode limits l a) (sym e) (too_many octets after a size h)

  pub answer_known : (before after : Option (List ℕ)) (octets : List ℕ) (a : Outcome A) → Pulls before after (input_limit limits) octets → AnswerOf wanted top mode limits octets a
      → IfSome before (λ all. AnswerOf wanted top mode limits all a)
  answer_known None after octets a r h = tt
  answer_known (Some before) None octets a r h = absurd r.taken
  answer_known (Some before) (Some after) octets a r h = known_of before after octets a r.taken r.all h

-- what is so of the octets that came, and of more than came where these are too many, is so of all
known_from : (limit : ℕ) (before after octets : List ℕ) (P : List ℕ → Type 0) → before ≡ octets ++ after → ((length octets ≤ limit) × (after ≡ [])) ⊎ (length octets ≡ limit + 1) → P octets → (limit < length octets → (more : List ℕ) → P (octets ++ more)) → P before
known_from limit before after octets P e (inl all) h more = subst P (sym (e ∙ ap (λ (l : List ℕ). octets ++ l) all.1 ∙ append-nil octets)) h
known_from limit before after octets P e (inr size) h more = subst P (sym e) (more (omega (arith, size)) after)

pulled_known : (before after : Option (List ℕ)) (limit : ℕ) (octets : List ℕ) (P : List ℕ → Type 0) → Pulls before after limit octets → P octets → (limit < length octets → (more : List ℕ) → P (octets ++ more)) → IfSome before P
pulled_known None after limit octets P r h more = tt
pulled_known (Some before) None limit octets P r h more = absurd r.taken
pulled_known (Some before) (Some after) limit octets P r h more = known_from limit before after octets P r.taken r.all h more

pub of_pulled : (before after : Option (List ℕ)) (limits : Limits) (octets : List ℕ) (P : List ℕ → Type 0) → Pulls before after (input_limit limits) octets → P octets → (input_limit limits < length octets → (more : List ℕ) → P (octets ++ more)) → OfInput before after limits P
of_pulled before after limits octets P r h more = record { came = (octets, r, h); known = pulled_known before after (input_limit limits) octets P r h more }

pub some_gives : (o : Option (List ℕ)) (P Q : List ℕ → Type 0) → ((x : List ℕ) → P x → Q x) → IfSome o P → IfSome o Q
some_gives None P Q f h = tt
some_gives (Some x) P Q f h = f x h

-- ---- what reading gives
pub of_all : {R : Type 0} (left : R → Option (List ℕ)) (failed : R → Bool) (old new : R) (limits : Limits) (P Q : List ℕ → Type 0) → ((octets : List ℕ) → P octets → Q octets) → OfAll left failed old new limits P → OfAll left failed old new limits Q
of_all left failed old new limits P Q f h = record { sound = h.sound; came = (h.came.0, h.came.1, f h.came.0 h.came.2); known = some_gives (left old) P Q f h.known }

-- what came from a source was read from it
pub all_of : {R : Type 0} (left : R → Option (List ℕ)) (failed : R → Bool) (old new : R) (limits : Limits) (P : List ℕ → Type 0) → failed new ≡ false → OfInput (left old) (left new) limits P → OfAll left failed old new limits P
all_of left failed old new limits P sound h = record { sound = sound; came = h.came; known = h.known }

pub reads_to : {R A : Type 0} (left : R → Option (List ℕ)) (failed : R → Bool) (old new : R) (limits : Limits) (answers : List ℕ → Outcome A → Type 0) (result : Result A ReadError) → failed new ≡ false
    → ReadsTo (left old) (left new) limits answers result → ReadsAs left failed old new limits answers result
reads_to left failed old new limits answers (Ok value) sound h = all_of left failed old new limits _ sound h
reads_to left failed old new limits answers (Err (read.Refused fault)) sound h = all_of left failed old new limits _ sound h
reads_to left failed old new limits answers (Err read.Read) sound h = absurd h
reads_to left failed old new limits answers (Err read.Memory) sound h = sound
