-- The definitions of `opgp_document`, and its types as they are declared.
pub use Rattle.opgp_document.specs.declared
pub use Rattle.opgp_document.specs.Answer
pub use Rattle.opgp_document.specs.CanonicalText
pub use Rattle.opgp_document.specs.DocumentHasher
pub use Rattle.opgp_document.specs.DocumentWhy
pub use Rattle.opgp_document.specs.HashedDocument
pub use Rattle.opgp_document.specs.OpenFault
pub use Rattle.opgp_document.specs.OwnOctets
pub use Rattle.opgp_document.specs.Place
pub use Rattle.opgp_document.specs.ShortTable
pub use Rattle.opgp_document.specs.SignatureHasher
pub use Rattle.opgp_document.specs.SignedDocument
pub use Rattle.opgp_document.specs.StrayReturn
pub use Rattle.opgp_document.specs.Text
