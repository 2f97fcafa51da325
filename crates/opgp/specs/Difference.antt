-- The definitions of `opgp_difference`, and its types as they are declared.
pub use Rattle.opgp_difference.specs.declared
pub use Rattle.opgp_difference.specs.Difference
pub use Rattle.opgp_difference.specs.Entries
pub use Rattle.opgp_difference.specs.Telling
pub use Rattle.opgp_difference.specs.Tree
