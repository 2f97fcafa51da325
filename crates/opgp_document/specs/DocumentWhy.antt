-- The reasons why a signature has no digest of a document, by number and by name.
use Rattle.std.specs.Prelude.{ℕ, List, codes}
use Rattle.opgp_document.specs.declared.document_why.DocumentWhy.{DocumentWhy}
use Rattle.opgp_document.specs.declared.document_why.DocumentWhy.TheVariants.{Opaque, Kind}
use Rattle.opgp_document.specs.declared.document_why.DocumentWhy.TheVariants.{Hash, LineEnds}

abbrev pub why_number : DocumentWhy → ℕ
why_number Opaque = 1
why_number Kind = 2
why_number Hash = 5
why_number LineEnds = 6

abbrev pub why_text : DocumentWhy → List ℕ
why_text Opaque = codes "opaque"
why_text Kind = codes "kind"
why_text Hash = codes "hash"
why_text LineEnds = codes "line-ends"
