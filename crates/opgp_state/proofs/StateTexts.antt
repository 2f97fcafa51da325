-- The lines of parts, one after the other.
use Rattle.std.proofs.Common.{◌≡◌, ◌∙◌, ℕ, ◌+◌, Bool, true, List, [], ◌∷◌, ◌++◌, ap, append_assoc, codes, map, refl, sym, Option, Some, None}
use Rattle.std.specs.Fmt.{decimal}
use Rattle.std.specs.Global.{Vec}
use Rattle.std.proofs.lemmas.List.Concat.{flat_map-append}
use Rattle.opgp_keyring.specs.Keyring.{CertificateValue, ComponentValue}
use Rattle.opgp_valid.specs.declared.cause.Cause.{Cause}
use Rattle.opgp_valid.specs.declared.state.KeyState.{KeyState}
use Rattle.opgp_valid.specs.declared.states.PartState.{PartState}
use Rattle.opgp_state.specs.Report.{joined, number_or_none}
use Rattle.opgp_state.specs.StateLines.{basis_text, cause_words, certificate_lines, component_lines, first_cause, first_causes, key_dates, key_values, lines_from, state_line, without_first, words_at, words_line}
use Rattle.opgp_state.specs.declared.basis.Basis.{Basis}

-- what was found of each certificate
abbrev pub items_of : List (Vec PartState) → List (List PartState)
items_of states = map (λ parts. parts.items) states

-- the fields of a key's line, and what is behind them
pub key_line : (basis : Basis) (n : ℕ) (part : Option ℕ) (fields more : List (List ℕ)) → words_line basis n part (fields ++ more) ≡ words_at basis n part fields ++ (joined more ++ codes "\n")
key_line basis n part fields more =
    let heads : List (List ℕ) = codes "cert " ∷ decimal n ∷ codes " part " ∷ number_or_none part ∷ basis_text basis ∷ [] in
    ap (λ (l : List ℕ). l ++ codes "\n") (flat_map-append (λ (word : List ℕ). word) (heads ++ fields) more)
    ∙ append_assoc (words_at basis n part fields) (joined more) (codes "\n")

-- the dates of a key's line, and what is behind them
pub values_line : (values : Bool) (s : KeyState) (cause : Option Cause) → values ≡ true → joined (key_values values s cause) ++ codes "\n" ≡ joined (key_dates s) ++ (joined (cause_words cause) ++ codes "\n")
values_line values s cause e =
    ap (λ (b : Bool). joined (key_values b s cause) ++ codes "\n") e
    ∙ ap (λ (l : List ℕ). l ++ codes "\n") (flat_map-append (λ (word : List ℕ). word) (key_dates s) (cause_words cause))
    ∙ append_assoc (joined (key_dates s)) (joined (cause_words cause)) (codes "\n")

-- what makes keys of no use, in each certificate
abbrev pub whys_of : List (Vec (Option Cause)) → List (List (Option Cause))
whys_of causes = map (λ parts. parts.items) causes

module _ (basis : Basis) (values : Bool) (n : ℕ) where
  no_states : (part : ℕ) (cs : List ComponentValue) (causes : List (Option Cause)) → component_lines basis values n part cs [] causes ≡ []
  no_states part [] causes = refl
  no_states part (c ∷ cs) causes = refl

  pub states_gone : (part : ℕ) (cs : List ComponentValue) (states : List PartState) (causes : List (Option Cause)) → states ≡ [] → component_lines basis values n part cs states causes ≡ []
  states_gone part cs states causes e = ap (λ (l : List PartState). component_lines basis values n part cs l causes) e ∙ no_states part cs causes

  pub components_gone : (part : ℕ) (cs : List ComponentValue) (states : List PartState) (causes : List (Option Cause)) → cs ≡ [] → component_lines basis values n part cs states causes ≡ []
  components_gone part cs states causes e = ap (λ (l : List ComponentValue). component_lines basis values n part l states causes) e

  pub next_component : (part : ℕ) (cs cs' : List ComponentValue) (c : ComponentValue) (states states' : List PartState) (s : PartState) (causes causes' : List (Option Cause)) (why : Option Cause)
      → cs ≡ c ∷ cs' → states ≡ s ∷ states' → why ≡ first_cause causes → causes' ≡ without_first causes
      → component_lines basis values n part cs states causes ≡ state_line basis values n (Some part) c.head s why ++ component_lines basis values n (part + 1) cs' states' causes'
  next_component part cs cs' c states states' s causes causes' why e f g h =
      ap (λ (l : List ComponentValue). component_lines basis values n part l states causes) e
      ∙ ap (λ (l : List PartState). component_lines basis values n part (c ∷ cs') l causes) f
      ∙ ap (λ (o : Option Cause). state_line basis values n (Some part) c.head s o ++ component_lines basis values n (part + 1) cs' states' (without_first causes)) (sym g)
      ∙ ap (λ (l : List (Option Cause)). state_line basis values n (Some part) c.head s why ++ component_lines basis values n (part + 1) cs' states' l) (sym h)

  pub first_part : (c : CertificateValue) (states states' : List PartState) (s : PartState) (causes causes' : List (Option Cause)) (why : Option Cause)
      → states ≡ s ∷ states' → why ≡ first_cause causes → causes' ≡ without_first causes
      → certificate_lines basis values n c states causes ≡ state_line basis values n None c.primary s why ++ component_lines basis values n 0 c.components states' causes'
  first_part c states states' s causes causes' why e g h =
      ap (λ (l : List PartState). certificate_lines basis values n c l causes) e
      ∙ ap (λ (o : Option Cause). state_line basis values n None c.primary s o ++ component_lines basis values n 0 c.components states' (without_first causes)) (sym g)
      ∙ ap (λ (l : List (Option Cause)). state_line basis values n None c.primary s why ++ component_lines basis values n 0 c.components states' l) (sym h)

  pub next_certificate : (cs cs' : List CertificateValue) (c : CertificateValue) (states states' : List (Vec PartState)) (s : Vec PartState) (causes causes' : List (Vec (Option Cause))) (whys : List (Option Cause))
      → cs ≡ c ∷ cs' → states ≡ s ∷ states' → whys ≡ first_causes (whys_of causes) → whys_of causes' ≡ without_first (whys_of causes)
      → lines_from basis values n cs (items_of states) (whys_of causes) ≡ certificate_lines basis values n c s.items whys ++ lines_from basis values (n + 1) cs' (items_of states') (whys_of causes')
  next_certificate cs cs' c states states' s causes causes' whys e f g h =
      ap (λ (l : List CertificateValue). lines_from basis values n l (items_of states) (whys_of causes)) e
      ∙ ap (λ (l : List (Vec PartState)). lines_from basis values n (c ∷ cs') (items_of l) (whys_of causes)) f
      ∙ ap (λ (l : List (Option Cause)). certificate_lines basis values n c s.items l ++ lines_from basis values (n + 1) cs' (items_of states') (without_first (whys_of causes))) (sym g)
      ∙ ap (λ (l : List (List (Option Cause))). certificate_lines basis values n c s.items whys ++ lines_from basis values (n + 1) cs' (items_of states') l) (sym h)

  no_more : (cs : List CertificateValue) (causes : List (List (Option Cause))) → lines_from basis values n cs [] causes ≡ []
  no_more [] causes = refl
  no_more (c ∷ cs) causes = refl

  pub certificates_gone : (cs : List CertificateValue) (states : List (Vec PartState)) (causes : List (Vec (Option Cause))) → cs ≡ [] → lines_from basis values n cs (items_of states) (whys_of causes) ≡ []
  certificates_gone cs states causes e = ap (λ (l : List CertificateValue). lines_from basis values n l (items_of states) (whys_of causes)) e

  pub parts_gone : (cs : List CertificateValue) (states : List (Vec PartState)) (causes : List (Vec (Option Cause))) → states ≡ [] → lines_from basis values n cs (items_of states) (whys_of causes) ≡ []
  parts_gone cs states causes e = ap (λ (l : List (Vec PartState)). lines_from basis values n cs (items_of l) (whys_of causes)) e ∙ no_more cs (whys_of causes)
