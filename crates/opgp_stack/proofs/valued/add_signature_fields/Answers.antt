use Rattle.std.proofs.Common.{◌++◌, refl, Ok}
use Rattle.opgp_packet.specs.SigView.{sig_view_value}
use Rattle.opgp_packet.specs.SignatureBody.{signature_at}
use Rattle.opgp_io.proofs.Extended.{extends_stop, extends_then}
use Rattle.opgp_stack.specs.Listing.{signature_line, signature_text}
use Rattle.opgp_stack.specs.Values.{valued_areas}
use Rattle.opgp_stack.proofs.SoundLines.{opaque_parts, signature_parts}
use Rattle.opgp_stack.proofs.valued.add_signature_fields.Goals as goal

pub returns-in_err-add : goal.returns-in_err-add
returns-in_err-add g c =
    let body = c.args.body.now in
    extends_stop (signature_line body ++ valued_areas (signature_at body)) refl c.from_residual.ensures.0 c.in_err-add.ensures

pub returns-in_err-add_signature-in-Ok : goal.returns-in_err-add_signature-in-Ok
returns-in_err-add_signature-in-Ok g c =
    let v = sig_view_value c.in-Ok.signature in
    extends_then {ys = signature_text v ++ valued_areas (Ok v)} (signature_parts c.args.body.now v c.in-Ok.ensures.exact) c.in_ok-add.ensures
    (extends_stop {xs = signature_text v} (valued_areas (Ok v)) refl c.from_residual-in_err-add_signature-in-Ok.ensures.0 c.in_err-add_signature-in-Ok.ensures)

pub returns-in_ok-add_signature-in-Ok : goal.returns-in_ok-add_signature-in-Ok
returns-in_ok-add_signature-in-Ok g c =
    let v = sig_view_value c.in-Ok.signature in
    extends_then {ys = signature_text v ++ valued_areas (Ok v)} (signature_parts c.args.body.now v c.in-Ok.ensures.exact) c.in_ok-add.ensures
    (extends_then {xs = signature_text v} {ys = valued_areas (Ok v)} refl c.in_ok-add_signature-in-Ok.ensures c.add_subpackets.ensures)

pub returns-in-Err : goal.returns-in-Err
returns-in-Err g c =
    extends_then (opaque_parts c.args.body.now c.in-Err.field-0 c.in-Err.ensures.exact) c.in_ok-add.ensures c.add_opaque.ensures
