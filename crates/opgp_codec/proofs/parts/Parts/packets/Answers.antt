use Rattle.opgp_codec.specs.declared.accepts.Accepts.TheVariants.{Keys}
use Rattle.opgp_codec.proofs.parts.Parts.packets.Goals as goal

pub returns : goal.returns
returns c u used = c.packets.ensures Keys u.mode u.limits u.input used.0 used.1
