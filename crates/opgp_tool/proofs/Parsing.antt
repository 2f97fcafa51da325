-- What a parse by the program gives.
use Rattle.std.proofs.Common.{◌≡◌, ◌⊎◌, inl, inr, ap, subst, ◌∙◌, refl, ◌&&◌, Bool, true, false, List, Option}
use Rattle.std.proofs.Common.{Some, None, Result, Ok}
use Rattle.std.specs.Prelude.{IfNone, IfOk, IfSome, option_map}
use Rattle.clap.specs.Words.{App, Row, Text, subcommand_of, takes}
use Rattle.opgp_tool.specs.Saying.{SaysNone}
use Rattle.opgp_words.specs.Program.{IsProgram}
use Rattle.opgp_tool.specs.Words.{AskedWork, IsWork}

-- a name and its rows, from both apart
pub both : {A : Type 0} (o : Option A) (f : A → Text) (g : A → List Row)
    → (n : Text) (rows : List Row) → option_map f o ≡ Some n
    → option_map (λ (p : Text × List Row). p.1)
    (option_map {U = Text × List Row} (λ b. (f b, g b)) o) ≡ Some rows
    → option_map {U = Text × List Row} (λ b. (f b, g b)) o ≡ Some (n, rows)
both None f g n rows named rowed = cc
both (Some b) f g n rows named rowed = cc

-- what was found, and what is known where nothing was
pub found_given : {A E : Type 0} (P : A → Type 0) (r : Result (Option A) E) (o : Option A) (x : A) → r ≡ Ok o → o ≡ Some x → IfOk r (λ o. IfSome o P) → P x
found_given P r o x is found holds = subst (λ s. IfSome s P) found (subst (λ s. IfOk s (λ o. IfSome o P)) is holds)

pub found_none : {A E P : Type 0} (r : Result (Option A) E) (o : Option A) → r ≡ Ok o → o ≡ None → IfOk r (λ o. IfNone o P) → P
found_none {P = P} r o is none holds = subst (λ s. IfNone s P) none (subst (λ s. IfOk s (λ o. IfNone o P)) is holds)

-- words that aren't taken say no task
pub refused_or : (app : App) (words : List Text) (M : Type 0) → IsProgram app
    → (takes app words ≡ true → M)
    → M ⊎ ((program : App) × IsProgram program × SaysNone program words)
refused_or app words M made memory = go (takes app words) refl
  where
    go : (b : Bool) → takes app words ≡ b
        → M ⊎ ((program : App) × IsProgram program × SaysNone program words)
    go true is = inl (memory is)
    go false is = inr (app, made, λ taken work said. absurd (cc (is, taken)))

-- words say only what their one command says
pub none_said : (app : App) (words : List Text) (name : Text) (rows : List Row)
    → subcommand_of app words ≡ Some (name, rows)
    → ((work : AskedWork) → IsWork name rows work → ⊥) → SaysNone app words
none_said app words name rows entered none taken work said =
    let same : (said.0, said.1) ≡ (name, rows) = cc (said.2, entered) in
    none work (subst (λ (p : Text × List Row). IsWork p.0 p.1 work) same said.3)

pub nothing_said : (app : App) (words : List Text) (o : Option (Text × List Row))
    → o ≡ subcommand_of app words → None ≡ option_map (λ (p : Text × List Row). p.1) o
    → SaysNone app words
nothing_said app words None is none taken work said = absurd (cc (is, said.2))
nothing_said app words (Some p) is none taken work said = absurd (cc none)

-- of two, the one that isn't ruled out
pub other_one : {M N : Type 0} → (M → ⊥) → M ⊎ N → N
other_one never (inl m) = absurd (never m)
other_one never (inr n) = n
