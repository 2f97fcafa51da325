use Rattle.std.proofs.Common.{[], refl}
use Rattle.std.proofs.lemmas.List.Elements.{All-nil}
use Rattle.opgp_keyring.specs.Bodies.{IsSound}
use Rattle.opgp_codec.proofs.incoming_packets.IncomingPackets.new.Goals as goal

pub returns : goal.returns
returns c before = record {
  items = [];
  came = c.in_ok-incoming.ensures before;
  policy = c.malformed.ensures;
  so_far = (All-nil (IsSound _), refl);
}
