use Rattle.std.proofs.Common.{[], refl, sym}
use Rattle.std.proofs.lemmas.List.Elements.{All-nil}
use Rattle.opgp_keyring.specs.Bodies.{IsSound}
use Rattle.opgp_codec.proofs.Readers.{packets_held}
use Rattle.opgp_codec.proofs.packet_reader.PacketReader.new.Goals as goal

pub returns-clause-used : goal.returns-clause-used
returns-clause-used c = record {
  items = [];
  fed = c.new.ensures.fed;
  policy = c.malformed.ensures;
  so_far = (All-nil (IsSound _), sym c.new-2.ensures);
  counted = refl;
  done = c.new.ensures.done;
}

pub returns-clause-held : goal.returns-clause-held
returns-clause-held c = packets_held (record { mode = c.args.mode; limits = c.args.limits; input = []; taken = [] }) c.new.result [] c.new.ensures.fed

pub returns-clause-going : goal.returns-clause-going
returns-clause-going c = record {
  so_far = record { mode = c.args.mode; limits = c.args.limits; input = []; taken = [] };
  limits_kept = refl;
  used = returns-clause-used c;
  held = returns-clause-held c;
}
