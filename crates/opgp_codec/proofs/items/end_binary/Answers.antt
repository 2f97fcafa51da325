use Rattle.std.proofs.Common.{sym, subst, Option}
use Rattle.opgp_codec.specs.declared.found.Opening.{Opening}
use Rattle.opgp_codec.specs.Blocks.{Ends}
use Rattle.opgp_codec.proofs.items.end_binary.Goals as goal

pub returns : goal.returns
returns c = subst (λ (o : Option Opening). Ends c.args.framer.now c.end.new.self o) (sym c.opening.ensures) (record { framed = c.end.ensures.framed; begun = c.end.ensures.begun })
