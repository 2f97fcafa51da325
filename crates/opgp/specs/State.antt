-- The definitions of `opgp_state`, and its types as they are declared.
pub use Rattle.opgp_state.specs.declared
pub use Rattle.opgp_state.specs.Claimed
pub use Rattle.opgp_state.specs.Claiming
pub use Rattle.opgp_state.specs.Claims
pub use Rattle.opgp_state.specs.Date
pub use Rattle.opgp_state.specs.KeyringStates
pub use Rattle.opgp_state.specs.March
pub use Rattle.opgp_state.specs.Places
pub use Rattle.opgp_state.specs.Placing
pub use Rattle.opgp_state.specs.Reordered
pub use Rattle.opgp_state.specs.Report
pub use Rattle.opgp_state.specs.StateLines
pub use Rattle.opgp_state.specs.VerdictFile
