-- The answer of what is made of an input's labels and packets.
use Rattle.std.proofs.Common.{ℕ, List, ◌++◌, Ok, Err, Option, subst}
use Rattle.opgp_octets.specs.declared.fault.Fault.{Fault}
use Rattle.opgp_octets.specs.declared.limits.Limits.{Limits}
use Rattle.opgp_keyring.specs.Composition.{Item}
use Rattle.opgp_codec.specs.declared.found.Opening.{Opening}
use Rattle.opgp_codec.specs.declared.mode.Mode.{Mode}
use Rattle.opgp_codec.specs.Found.{opened}
use Rattle.opgp_codec.specs.Items.{IsRest}
use Rattle.opgp_codec.specs.Reading.{AnswerOf, AreFramed, Outcome, Wanted, at_length, at_armor, at_framing, at_top}
use Rattle.opgp_codec.specs.Labelled.{AreRead}
use Rattle.opgp_codec.proofs.Ends.{HasNoMoreOctets, are_read}
use Rattle.opgp_codec.proofs.Kept.{fault_by}

module _ {A : Type 0} (wanted : Wanted) (says : List Item → Outcome A → Type 0) (mode : Mode) (limits : Limits) (input : List ℕ) (items : List Item) where
  -- all labels and packets were found
  pub answer_top : (opening : Option Opening) (r : Outcome A) → HasNoMoreOctets → (AreRead (items ++ opened opening) → says (items ++ opened opening) r) → AnswerOf wanted (IsRest items) mode limits input (Ok opening) → AnswerOf wanted says mode limits input r
  answer_top opening r law tells (at_length x e) = absurd cc
  answer_top opening r law tells (at_armor x f h e) = absurd cc
  answer_top opening r law tells (at_framing x bs h f i e) = absurd cc
  answer_top opening r law tells (at_top x bs h all i t) =
      let framed : AreFramed limits wanted 0 bs (items ++ opened opening) = subst (AreFramed limits wanted 0 bs) t i in
      at_top x bs h (items ++ opened opening) framed (tells (are_read law wanted mode limits input bs (items ++ opened opening) x h framed))

  -- a layer below refuses the input
  pub answer_fault : (fault : Fault) → AnswerOf wanted (IsRest items) mode limits input (Err fault) → AnswerOf wanted says mode limits input (Err fault)
  answer_fault fault h = fault_by wanted (IsRest items) says mode limits input fault (λ all t. absurd t) h
