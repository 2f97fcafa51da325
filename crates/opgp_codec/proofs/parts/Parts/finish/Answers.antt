use Rattle.std.proofs.Common.{◌++◌, append-nil, subst}
use Rattle.opgp_keyring.specs.Fed.{Fed}
use Rattle.opgp_codec.specs.Found.{opened}
use Rattle.opgp_codec.specs.Keyrings.{ComposesTo, key_label}
use Rattle.opgp_codec.specs.declared.accepts.Accepts.TheVariants.{Keys}
use Rattle.opgp_codec.proofs.Concluding.{answer_fault}
use Rattle.opgp_codec.proofs.Parting.{ends_of}
use Rattle.opgp_codec.proofs.parts.Parts.finish.Goals as goal

pub returns-in-Ok : goal.returns-in-Ok
returns-in-Ok c u used =
    let x = c.open_block.new.composer in
    let told = subst (Fed u.limits x (used.0 ++ opened c.in-Ok.opening)) (append-nil u.taken) (c.open_block.ensures.fed u.limits used.0 u.taken used.2) in
    ends_of u c.in-Ok.opening x c.finish-in-Ok.result used.0 c.a_block_has_no_more_octets_than_the_text.ensures (rw c.in-Ok.is at (c.in_ok-ended.ensures Keys u.mode u.limits u.input used.0 used.1))
    (c.finish-in-Ok.ensures.ok u.limits (used.0 ++ opened c.in-Ok.opening) u.taken told)

pub returns-in-Err : goal.returns-in-Err
returns-in-Err c u used =
    answer_fault key_label (ComposesTo u.limits) u.mode u.limits u.input used.0 c.in-Err.fault (rw c.in-Err.is at (c.in_ok-ended.ensures Keys u.mode u.limits u.input used.0 used.1))
