use Rattle.opgp_io.proofs.Extended.{extends_stop, extends_then}
use Rattle.opgp_stack.specs.Listing.{attribute_line}
use Rattle.opgp_stack.proofs.SoundLines.{sound_line}
use Rattle.opgp_stack.proofs.valued.add_attribute_fields.Goals as goal

pub returns-in_err-add : goal.returns-in_err-add
returns-in_err-add g c = extends_stop (attribute_line c.args.body.now) (sound_line _ _ (attribute_line c.args.body.now) c.in-Ok.ensures.exact) c.from_residual.ensures.0 c.in_err-add.ensures

pub returns : goal.returns
returns g c = extends_then (sound_line _ _ (attribute_line c.args.body.now) c.in-Ok.ensures.exact) c.in_ok-add.ensures (rw c.in-Ok.ensures.body at c.add_attribute.ensures)
