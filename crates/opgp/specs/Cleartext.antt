-- The definitions of `opgp_cleartext`, and its types as they are declared.
pub use Rattle.opgp_cleartext.specs.declared
pub use Rattle.opgp_cleartext.specs.Cleartext
pub use Rattle.opgp_cleartext.specs.Faults
pub use Rattle.opgp_cleartext.specs.Hashes
pub use Rattle.opgp_cleartext.specs.Line
pub use Rattle.opgp_cleartext.specs.Machine
pub use Rattle.opgp_cleartext.specs.View
