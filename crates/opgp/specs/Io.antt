-- The definitions of `opgp_io`, and its types as they are declared.
pub use Rattle.opgp_io.specs.declared
pub use Rattle.opgp_io.specs.Added
pub use Rattle.opgp_io.specs.Armoring
pub use Rattle.opgp_io.specs.Held
pub use Rattle.opgp_io.specs.Line
pub use Rattle.opgp_io.specs.Output
pub use Rattle.opgp_io.specs.Place
pub use Rattle.opgp_io.specs.Rows
pub use Rattle.opgp_io.specs.Stream
pub use Rattle.opgp_io.specs.Texts
pub use Rattle.opgp_io.specs.Watch
