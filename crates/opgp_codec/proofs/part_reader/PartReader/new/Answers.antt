use Rattle.std.proofs.Common.{[], List, refl, sym, subst}
use Rattle.opgp_keyring.specs.Composed.{PartValue}
use Rattle.opgp_codec.specs.Parts.{IsUsed}
use Rattle.opgp_codec.proofs.Readers.{Using}
use Rattle.opgp_codec.proofs.part_reader.PartReader.new.Goals as goal

pub returns-clause-going : goal.returns-clause-going
returns-clause-going c = record {
  so_far = Using c.args.mode c.args.limits [] [];
  limits_kept = refl;
  used = record {
    used = subst (λ (t : List PartValue). IsUsed (Using c.args.mode c.args.limits [] t) c.new.result) (sym c.new-2.ensures) c.new.ensures.used;
    counted = refl;
    done = c.new.ensures.done;
  };
  held = c.new.ensures.held;
}
