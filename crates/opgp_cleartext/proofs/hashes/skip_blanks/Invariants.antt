use Rattle.std.proofs.Common.{◌≡◌, length}
use Rattle.opgp_cleartext.specs.Hashes.{behind_blanks}
use Rattle.opgp_cleartext.proofs.hashes.skip_blanks.Given as goal

abbrev pub invariant-blanks : goal.invariant-blanks
invariant-blanks l = behind_blanks l.rest ≡ behind_blanks l.octets

abbrev pub decreases-blanks : goal.decreases-blanks
decreases-blanks l = length l.rest
