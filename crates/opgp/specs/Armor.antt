-- The definitions of `opgp_armor`, and its types as they are declared.
pub use Rattle.opgp_armor.specs.declared
pub use Rattle.opgp_armor.specs.Letters
pub use Rattle.opgp_armor.specs.Text
pub use Rattle.opgp_armor.specs.Rules
pub use Rattle.opgp_armor.specs.Armored
pub use Rattle.opgp_armor.specs.Events
pub use Rattle.opgp_armor.specs.Machine
pub use Rattle.opgp_armor.specs.Cuts
pub use Rattle.opgp_armor.specs.LineAnswer
pub use Rattle.opgp_armor.specs.Shown
pub use Rattle.opgp_armor.specs.Fed
pub use Rattle.opgp_armor.specs.Blocks
pub use Rattle.opgp_armor.specs.Written
