-- The table of the revocations of primary keys: a row for each, in the order of the jobs.
use Rattle.std.specs.Prelude.{List, length, map, replicate}
use Rattle.opgp_hash.specs.Digest.{digest_octets}
use Rattle.opgp_keyring.specs.Keyring.{KeyringValue}
use Rattle.opgp_tables.specs.Room.{padded}
use Rattle.opgp_valid.specs.Listing.{revocations_in}
use Rattle.opgp_valid.specs.declared.listing.Revoked.{Revoked}
use Rattle.opgp_handles.specs.declared.revocations.RevocationRow.{RevocationRow}

abbrev pub revocation_row : Revoked → RevocationRow
revocation_row r = record {
  row = r.row;
  digest_size = length (digest_octets r.digest);
  digest = padded 64 (digest_octets r.digest);
  reserved = replicate 7 0;
}

abbrev pub revocation_rows : KeyringValue → List RevocationRow
revocation_rows r = map revocation_row (revocations_in r)
