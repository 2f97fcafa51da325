-- What signatures say together, in parts.
use Rattle.std.proofs.Common.{◌≡◌, ℕ, ◌&&◌, ◌||◌, Bool, true, false, List, [], ◌∷◌, ◌++◌, Option, Some, None, refl, ap, rules, arith, sym, ◌∙◌}
use Rattle.std.specs.List.{filter}
use Rattle.opgp_valid.specs.declared.saying.Saying.{Saying}
use Rattle.opgp_valid.specs.declared.statement.Statement.{Statement}
use Rattle.opgp_valid.specs.declared.uses.Uses.{Uses}
use Rattle.opgp_valid.specs.Saying.{heard_of, limited, merged, saying_of}
use Rattle.opgp_valid.specs.Speaking.{later, sooner}
use Rattle.opgp_valid.specs.Uses.{both}

pub later_assoc : (a b c : Option ℕ) → later (later a b) c ≡ later a (later b c)
later_assoc None b c = refl
later_assoc (Some a) None c = refl
later_assoc (Some a) (Some b) None = refl
later_assoc (Some a) (Some b) (Some c) = grind arith

pub sooner_assoc : (a b c : Option ℕ) → sooner (sooner a b) c ≡ sooner a (sooner b c)
sooner_assoc None b c = refl
sooner_assoc (Some a) None c = refl
sooner_assoc (Some a) (Some b) None = refl
sooner_assoc (Some a) (Some b) (Some c) = grind arith

pub and_assoc : (a b c : Bool) → ((a && b) && c) ≡ (a && (b && c))
and_assoc true b c = refl
and_assoc false b c = refl

pub or_assoc : (a b c : Bool) → ((a || b) || c) ≡ (a || (b || c))
or_assoc true b c = refl
or_assoc false b c = refl

pub both_assoc : (a b c : Uses) → both (both a b) c ≡ both a (both b c)
both_assoc a b c = rw (and_assoc a.certify b.certify c.certify, and_assoc a.sign b.sign c.sign, and_assoc a.encrypt b.encrypt c.encrypt, and_assoc a.authenticate b.authenticate c.authenticate) refl

pub merged_assoc : (a b c : Saying) → merged (merged a b) c ≡ merged a (merged b c)
merged_assoc a b c = rw (or_assoc a.is_said b.is_said c.is_said, or_assoc a.has_flags b.has_flags c.has_flags, sooner_assoc a.end b.end c.end, both_assoc a.uses b.uses c.uses, and_assoc a.is_backed b.is_backed c.is_backed) refl

pub said_before : (created at : ℕ) (s : Statement) (ss : List Statement) → saying_of created at (s ∷ ss) ≡ merged (saying_of created at (s ∷ [])) (saying_of created at ss)
said_before created at s ss = search rules

pub said_both : (created at : ℕ) (a b : List Statement) → saying_of created at (a ++ b) ≡ merged (saying_of created at a) (saying_of created at b)
said_both created at [] b = refl
said_both created at (s ∷ a) b = said_before created at s (a ++ b) ∙ ap (merged (saying_of created at (s ∷ []))) (said_both created at a b) ∙ sym (merged_assoc (saying_of created at (s ∷ [])) (saying_of created at a) (saying_of created at b)) ∙ ap (λ x. merged x (saying_of created at b)) (sym (said_before created at s a))

-- what some say, where others limit it
pub said_within : (created at : ℕ) (a b : List Statement) → limited (saying_of created at a) (saying_of created at b) ≡ heard_of created at a b
said_within created at a b =
    let e = said_both created at a b in
    rw (ap (λ x. x.end) e, ap (λ x. x.uses) e, ap (λ x. x.is_backed) e) refl

-- those that two tests pick
pub picked_in : {A : Type 0} (p q : A → Bool) (x : A) (xs : List A) → (p x && q x) ≡ true → filter q (filter p (x ∷ xs)) ≡ x ∷ filter q (filter p xs)
picked_in p q x xs e = grind (rules, e)

pub picked_out : {A : Type 0} (p q : A → Bool) (x : A) (xs : List A) → (p x && q x) ≡ false → filter q (filter p (x ∷ xs)) ≡ filter q (filter p xs)
picked_out p q x xs e = grind (rules, e)
