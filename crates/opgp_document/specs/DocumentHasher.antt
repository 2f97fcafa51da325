-- What a hasher of a document was given (RFC 9580, 5.2.4).
use Rattle.std.specs.Prelude.{◌≡◌, ℕ, Bool, true, false, ◌&&◌, List, ◌++◌}
use Rattle.opgp_document.specs.Text.{to_text, ends_cr, has_stray}
use Rattle.opgp_document.specs.declared.document_hasher.DocumentHasher.{DocumentHasher}

-- what is hashed of these octets as they come: what each becomes in a text, or itself
abbrev pub so_far : Bool → List ℕ → List ℕ
so_far true document = to_text false document
so_far false document = document

-- Behind this front the hasher was given these octets of a document, as a text or not.
pub record IsGiven {D : Type 0} (holds : D → List ℕ → Type 0) (h : DocumentHasher D)
    (is_text : Bool) (front document : List ℕ) : Type 0 where
  pub kind : h.is_text ≡ is_text
  pub held : holds h.hasher (front ++ so_far is_text document)
  pub after : h.after_cr ≡ (is_text && ends_cr false document)
  pub stray : h.has_stray ≡ (is_text && has_stray false document)
