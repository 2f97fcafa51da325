-- One document, hashed for several signatures (RFC 9580, 5.2.1, 5.2.4).
use Rattle.std.specs.Prelude.{ℕ, List}
use Rattle.std.specs.List.{AllZip}
use Rattle.std.specs.declared.option.Option.{Option}
use Rattle.opgp_hash.specs.SignedValue.{SignedValue}
use Rattle.opgp_document.specs.Place.{IsEnded, IsPlace}
use Rattle.opgp_document.specs.declared.signed_document.DocumentAnswers.{DocumentAnswers}
use Rattle.opgp_document.specs.declared.signed_document.SignedDocument.{SignedDocument}

-- it has a place for each of these signatures, in order, and was given these octets of a document
abbrev pub IsSignedBy : SignedDocument → List (Option SignedValue) → List ℕ → Type 0
IsSignedBy d signatures document = AllZip (λ p s. IsPlace p s document) d.places.items signatures

-- it has an answer for each of these signatures, in order, over this document
abbrev pub AreAnswers : DocumentAnswers → List (Option SignedValue) → List ℕ → Type 0
AreAnswers a signatures document = AllZip (λ p s. IsEnded p s document) a.places.items signatures
