-- The definitions of `opgp_explain`, and its types as they are declared.
pub use Rattle.opgp_explain.specs.declared
pub use Rattle.opgp_explain.specs.Area
pub use Rattle.opgp_explain.specs.Field
pub use Rattle.opgp_explain.specs.Fields
pub use Rattle.opgp_explain.specs.Key
pub use Rattle.opgp_explain.specs.Lines
pub use Rattle.opgp_explain.specs.Meaning
pub use Rattle.opgp_explain.specs.Sections
pub use Rattle.opgp_explain.specs.Telling
