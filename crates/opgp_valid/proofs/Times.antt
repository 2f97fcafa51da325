-- What signatures say at each time that they state.
use Rattle.std.proofs.Common.{◌≡◌, ◌∙◌, ℕ, List, [], ◌∷◌, true, false, map, Option, Some, None, refl, ap}
use Rattle.std.proofs.lemmas.Bool.{false≢true, true≢false}
use Rattle.opgp_octets.specs.declared.subpacket_kind.SubpacketKind.TheVariants as kind
use Rattle.opgp_packet.specs.Forms as form
use Rattle.opgp_packet.specs.Subpackets.{Sub}
use Rattle.opgp_packet.specs.SubView.{fields_of}
use Rattle.opgp_valid.specs.Subpackets.{lasts_in, numbers_in, states_time}
use Rattle.opgp_valid.specs.Told.{life_by, lives_by, lives_of}
use Rattle.opgp_valid.specs.Gathering.{with_life}
use Rattle.opgp_valid.specs.declared.statement.Life.{Life}
use Rattle.opgp_valid.specs.declared.statement.Statement.{Statement}

none_stated : (subs : List Sub) → states_time subs ≡ false → numbers_in kind.Created subs ≡ []
none_stated [] e = refl
none_stated (s ∷ ss) e = step (fields_of kind.Created form.number s) refl e (none_stated ss) where
  step : (o : Option ℕ) → fields_of kind.Created form.number s ≡ o → states_time (s ∷ ss) ≡ false → (states_time ss ≡ false → numbers_in kind.Created ss ≡ []) → numbers_in kind.Created (s ∷ ss) ≡ []
  step None q e f = rw q (f (rw q at e))
  step (Some n) q e f = absurd (true≢false (rw q at e))

pub untimed : (subs : List Sub) → states_time subs ≡ false → lives_of subs ≡ None ∷ []
untimed subs e = ap (lives_by (lasts_in kind.Expires subs)) (none_stated subs e)

some_stated : (lasts : ℕ) (subs : List Sub) → states_time subs ≡ true → lives_by lasts (numbers_in kind.Created subs) ≡ map (λ made. Some (life_by lasts made)) (numbers_in kind.Created subs)
some_stated lasts [] e = absurd (false≢true e)
some_stated lasts (s ∷ ss) e = step (fields_of kind.Created form.number s) refl e (some_stated lasts ss) where
  step : (o : Option ℕ) → fields_of kind.Created form.number s ≡ o → states_time (s ∷ ss) ≡ true → (states_time ss ≡ true → lives_by lasts (numbers_in kind.Created ss) ≡ map (λ made. Some (life_by lasts made)) (numbers_in kind.Created ss)) → lives_by lasts (numbers_in kind.Created (s ∷ ss)) ≡ map (λ made. Some (life_by lasts made)) (numbers_in kind.Created (s ∷ ss))
  step None q e f = rw q (f (rw q at e))
  step (Some n) q e f = rw q refl

pub timed : (subs : List Sub) → states_time subs ≡ true → lives_of subs ≡ map (λ made. Some (life_by (lasts_in kind.Expires subs) made)) (numbers_in kind.Created subs)
timed subs e = some_stated (lasts_in kind.Expires subs) subs e

mapped : {A B C : Type 0} (f : B → C) (g : A → B) (xs : List A) → map f (map g xs) ≡ map (λ x. f (g x)) xs
mapped f g [] = refl
mapped f g (x ∷ xs) = ap (λ l. f (g x) ∷ l) (mapped f g xs)

-- what is told at each of them, or never
pub told_timed : (told : Statement) (subs : List Sub) → states_time subs ≡ true → map (with_life told) (lives_of subs) ≡ map (λ made. with_life told (Some (life_by (lasts_in kind.Expires subs) made))) (numbers_in kind.Created subs)
told_timed told subs e = ap (map (with_life told)) (timed subs e) ∙ mapped (with_life told) (λ made. Some (life_by (lasts_in kind.Expires subs) made)) (numbers_in kind.Created subs)

pub told_untimed : (told : Statement) (subs : List Sub) → states_time subs ≡ false → map (with_life told) (lives_of subs) ≡ with_life told None ∷ []
told_untimed told subs e = ap (map (with_life told)) (untimed subs e)

-- what one says at some times, by what it says without
pub stated_at : (f : Option Life → Statement) (told : Statement) → ((life : Option Life) → f life ≡ with_life told life) → (lives : List (Option Life)) → map f lives ≡ map (with_life told) lives
stated_at f told h [] = refl
stated_at f told h (l ∷ ls) = rw (h l, stated_at f told h ls) refl
