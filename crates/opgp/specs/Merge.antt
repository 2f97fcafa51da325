-- The definitions of `opgp_merge`, and its types as they are declared.
pub use Rattle.opgp_merge.specs.declared
pub use Rattle.opgp_merge.specs.Chosen
pub use Rattle.opgp_merge.specs.Merged
pub use Rattle.opgp_merge.specs.Picked
pub use Rattle.opgp_merge.specs.Slots
