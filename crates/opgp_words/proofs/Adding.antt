-- What is known of a command to which an option was added.
use Rattle.std.proofs.Common.{◌≡◌, ◌∙◌, refl, ap, ap₂, List, [], ◌∷◌, ◌++◌, Result, Ok, Err, IfOk, IsOkAnd}
use Rattle.clap.specs.Words.{App, Rule, Text, app_of, with_rule}
use Rattle.clap.specs.declared.builder.command.Command.{Command}
use Rattle.opgp_words.specs.Program.{Choice, AreOuts, IsCommand, out_rule}

-- a command is the one that it was made as
pub itself : {E : Type 0} (made : Result Command E)
    → IfOk made (λ r. IsOkAnd made (λ c. app_of r ≡ app_of c))
itself (Ok c) = refl
itself (Err e) = tt

-- an option was added to what was made of the first one
pub after : {E : Type 0} (first made more : Result Command E) (rule rule' : Rule) (f : App → App)
    → rule ≡ rule' → IfOk made (λ r. IsOkAnd first (λ c. app_of r ≡ f (app_of c)))
    → IfOk more (λ r. IsOkAnd made (λ c. app_of r ≡ with_rule (app_of c) rule))
    → IfOk more (λ r. IsOkAnd first (λ c. app_of r ≡ with_rule (f (app_of c)) rule'))
after (Ok s) (Ok c) (Ok r) rule rule' f same held is = is ∙ ap₂ with_rule held same
after (Err e) (Ok c) (Ok r) rule rule' f same held is = absurd held
after first (Err e) (Ok r) rule rule' f same held is = absurd is
after first made (Err e) rule rule' f same held is = tt

-- more was added to a known command
pub known : {E : Type 0} (made more : Result Command E) (f : App → App) (a : App)
    → IfOk made (λ c. app_of c ≡ a)
    → IfOk more (λ r. IsOkAnd made (λ c. app_of r ≡ f (app_of c)))
    → IfOk more (λ r. app_of r ≡ f a)
known (Ok c) (Ok r) f a held is = is ∙ ap f held
known (Err e) (Ok r) f a held is = absurd is
known made (Err e) f a held is = tt

-- an option was added to a command, behind those that it had
pub behind : {E : Type 0} (made more : Result Command E) (name : Text) (rules : List Rule)
    (rule rule' : Rule) → rule ≡ rule' → IfOk made (IsCommand name rules)
    → IfOk more (λ r. IsOkAnd made (λ c. app_of r ≡ with_rule (app_of c) rule))
    → IfOk more (IsCommand name (rules ++ rule' ∷ []))
behind (Ok c) (Ok r) name rules rule rule' same held is = record {
  choices = held.choices;
  are_choices = held.are_choices;
  app = is ∙ ap₂ with_rule held.app same;
}
behind (Err e) (Ok r) name rules rule rule' same held is = absurd is
behind made (Err e) name rules rule rule' same held is = tt

-- the same of a command that writes keyrings
pub behind_out : {E : Type 0} (made more : Result Command E) (name : Text) (rules : List Rule)
    (rule rule' : Rule) → rule ≡ rule'
    → IfOk made (λ c. (outs : Choice) × AreOuts outs × IsCommand name (out_rule outs ∷ rules) c)
    → IfOk more (λ r. IsOkAnd made (λ c. app_of r ≡ with_rule (app_of c) rule))
    → IfOk more (λ c. (outs : Choice) × AreOuts outs
    × IsCommand name (out_rule outs ∷ (rules ++ rule' ∷ [])) c)
behind_out (Ok c) (Ok r) name rules rule rule' same held is = (
  held.0,
  held.1,
  record {
    choices = held.2.choices;
    are_choices = held.2.are_choices;
    app = is ∙ ap₂ with_rule held.2.app same;
  },
)
behind_out (Err e) (Ok r) name rules rule rule' same held is = absurd is
behind_out made (Err e) name rules rule rule' same held is = tt
