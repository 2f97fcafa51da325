-- The definitions of `opgp_bound`, and its types as they are declared.
pub use Rattle.opgp_bound.specs.declared
pub use Rattle.opgp_bound.specs.Before
pub use Rattle.opgp_bound.specs.Bound
pub use Rattle.opgp_bound.specs.Copies
pub use Rattle.opgp_bound.specs.Gathering
pub use Rattle.opgp_bound.specs.Issuers
pub use Rattle.opgp_bound.specs.Judged
pub use Rattle.opgp_bound.specs.Newest
pub use Rattle.opgp_bound.specs.Outdated
pub use Rattle.opgp_bound.specs.Replacing
pub use Rattle.opgp_bound.specs.Role
pub use Rattle.opgp_bound.specs.Staying
