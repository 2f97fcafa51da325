-- The definitions of `opgp_blocks`, and its types as they are declared.
pub use Rattle.opgp_blocks.specs.declared
pub use Rattle.opgp_blocks.specs.Blocks
pub use Rattle.opgp_blocks.specs.Line
pub use Rattle.opgp_blocks.specs.View
