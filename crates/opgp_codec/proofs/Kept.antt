-- The answers of one layer on top, by those of another.
use Rattle.std.proofs.Common.{◌≡◌, ℕ, List, Ok, Err, ap}
use Rattle.opgp_octets.specs.declared.fault.Fault.{Fault}
use Rattle.opgp_octets.specs.declared.limits.Limits.{Limits}
use Rattle.opgp_keyring.specs.Composition.{Item}
use Rattle.opgp_codec.specs.declared.mode.Mode.{Mode}
use Rattle.opgp_codec.specs.Reading.{AnswerOf, AreFramed, Outcome, TextBlock, Wanted, at_length, at_armor, at_framing, at_top, too_long}

-- a value of one layer on top tells one of another
pub value_by : {A B : Type 0} (wanted : Wanted) (top : List Item → Outcome A → Type 0) (other : List Item → Outcome B → Type 0) (Related : A → B → Type 0) (mode : Mode) (limits : Limits) (input : List ℕ) (value : A)
    → ((blocks : List TextBlock) (items : List Item) → AreFramed limits wanted 0 blocks items → top items (Ok value) → (b : B) × other items (Ok b) × Related value b) → AnswerOf wanted top mode limits input (Ok value) → (b : B) × AnswerOf wanted other mode limits input (Ok b) × Related value b
value_by wanted top other Related mode limits input value by (at_length x e) = absurd cc
value_by wanted top other Related mode limits input value by (at_armor x f h e) = absurd cc
value_by wanted top other Related mode limits input value by (at_framing x bs h f i e) = absurd cc
value_by wanted top other Related mode limits input value by (at_top x bs h items i t) = let k = by bs items i t in (k.0, at_top x bs h items i k.1, k.2)

-- and so does a fault
pub fault_by : {A B : Type 0} (wanted : Wanted) (top : List Item → Outcome A → Type 0) (other : List Item → Outcome B → Type 0) (mode : Mode) (limits : Limits) (input : List ℕ) (fault : Fault)
    → ((items : List Item) → top items (Err fault) → other items (Err fault)) → AnswerOf wanted top mode limits input (Err fault) → AnswerOf wanted other mode limits input (Err fault)
fault_by wanted top other mode limits input fault by (at_length x e) = at_length x (let f : fault ≡ too_long limits = cc in ap Err f)
fault_by wanted top other mode limits input fault by (at_armor x f h e) = at_armor x f h (let g : fault ≡ f = cc in ap Err g)
fault_by wanted top other mode limits input fault by (at_framing x bs h f i e) = at_framing x bs h f i (let g : fault ≡ f = cc in ap Err g)
fault_by wanted top other mode limits input fault by (at_top x bs h items i t) = at_top x bs h items i (by items t)
