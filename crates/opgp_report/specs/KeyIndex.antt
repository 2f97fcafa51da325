-- The fingerprints in an index.
use Rattle.std.specs.Prelude.{List}
use Rattle.opgp_hash.specs.declared.fingerprints.Fingerprint.{Fingerprint}
use Rattle.opgp_report.specs.declared.key_index.KeyIndex.{KeyIndex}

-- the fingerprints of its keys, in order
abbrev pub prints_shown : KeyIndex → List Fingerprint
prints_shown n = n.prints.items
