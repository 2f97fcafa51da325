use Rattle.std.proofs.Common.{◌≡◌, All, take}
use Rattle.opgp_keyring.specs.Keyring.{IsCertificate}
use Rattle.opgp_merge.specs.Picked.{picked_of}
use Rattle.opgp_merge.proofs.picking.pick.Given as goal

abbrev pub invariant-loop-number : goal.invariant-loop-number
invariant-loop-number l = record {
  value : l.certificates.items ≡ picked_of l.picked (take l.number l.ring.certificates);
  sound : All IsCertificate l.certificates.items;
}
