-- A signature's place among those over a document.
use Rattle.std.specs.Prelude.{◌≡◌, ◌==◌, ◌<◌, ℕ, List}
use Rattle.std.specs.List.{slice_get}
use Rattle.std.specs.declared.option.Option.{Option}
use Rattle.std.specs.declared.option.Option.TheVariants.{None, Some}
use Rattle.std.specs.declared.result.Result.{Result}
use Rattle.std.specs.declared.result.Result.TheVariants.{Ok, Err}
use Rattle.opgp_hash.specs.SignedValue.{SignedValue}
use Rattle.opgp_hash.specs.declared.digests.Digest.{Digest}
use Rattle.opgp_document.specs.Answer.{IsAnswer, IsWhyNot}
use Rattle.opgp_document.specs.SignatureHasher.{IsOver, RunsAs}
use Rattle.opgp_document.specs.declared.document_why.DocumentWhy.{DocumentWhy}
use Rattle.opgp_document.specs.declared.document_why.DocumentWhy.TheVariants.{LineEnds}
use Rattle.opgp_document.specs.declared.place.Place.{Place}
use Rattle.opgp_document.specs.declared.signature_hasher.AlgorithmHasher.{AlgorithmHasher}
use Rattle.opgp_document.specs.declared.signature_hasher.SignatureHasher.{SignatureHasher}

-- a hasher that was given the document, and what is answered if that has no text; or an answer
abbrev pub IsHeld : Option SignatureHasher → Result Digest DocumentWhy → Option SignedValue
    → List ℕ → Type 0
IsHeld (Some h) answer None document = ⊥
IsHeld (Some h) answer (Some s) document = IsOver h s document × (answer ≡ Err LineEnds)
IsHeld None (Ok digest) signature document = ⊥
IsHeld None (Err why) signature document = IsWhyNot signature why

-- a hasher runs as this signature wants it, and was given the document
abbrev pub RunsFor : AlgorithmHasher → Option SignedValue → List ℕ → Type 0
RunsFor h None document = ⊥
RunsFor h (Some s) document = RunsAs h s.hash (s.kind == 1) s.salt document

-- the place is this signature's, and was given these octets of a document
abbrev pub IsPlace : Place → Option SignedValue → List ℕ → Type 0
IsPlace place signature document = IsHeld place.hasher place.answer signature document

-- .. which were the whole document
abbrev pub IsEnded : Place → Option SignedValue → List ℕ → Type 0
IsEnded place signature document = IsAnswer signature document place.answer

-- What runs at an earlier place is right at the one of this index, whatever they were given.
pub record IsLent (places : List Place) (next : ℕ) (h : AlgorithmHasher) : Type 0 where
  pub lender : ℕ
  pub earlier : lender < next
  pub runs : (one other : Place) (s t : Option SignedValue) (document begun : List ℕ)
      → slice_get places lender ≡ Some one → slice_get places next ≡ Some other
      → IsPlace one s document → IsPlace other t begun → RunsFor h t document
