-- How the newest signatures of each sort on a part of a certificate are found.
use Rattle.std.specs.Prelude.{◌≡◌, ℕ, nat_le, true, if◌then◌else◌, List, Option, None}
use Rattle.opgp_octets.specs.declared.signature_type.SignatureType.{SignatureType}
use Rattle.opgp_octets.specs.declared.signature_type.SignatureType.TheVariants as types
use Rattle.opgp_valid.specs.Group.{binds, certifies, is_direct}
use Rattle.opgp_valid.specs.Walk.{all_on, in_order}
use Rattle.opgp_valid.specs.declared.statement.Statement.{Statement}
use Rattle.opgp_bound.specs.Newest.{newest_made}
use Rattle.opgp_bound.specs.declared.ahead.Ahead.{Ahead}
use Rattle.opgp_bound.specs.declared.replaced.Times.{Times}

-- when the newest of each sort on a part were made
abbrev pub times_on : ℕ → List Statement → Option ℕ → Times
times_on at ss component = record {
  direct = newest_made at ss component types.DirectKey;
  certification = newest_made at ss component types.GenericCertification;
  binding = newest_made at ss component types.SubkeyBinding;
}

-- the time of the sort of this type
abbrev pub time_of : Times → SignatureType → Option ℕ
time_of times t = if is_direct t then times.direct
    else (if certifies t then times.certification else (if binds t then times.binding else None))

-- all statements on the components from this number on are to come
pub record AreAhead (ss : List Statement) (n : ℕ) (ahead : Ahead) : Type 0 where
  pub ordered : ahead.is_ordered ≡ true → in_order None ahead.rest.now ≡ true
  pub same : (k : ℕ) → nat_le n k ≡ true → all_on k ss ≡ all_on k ahead.rest.now
