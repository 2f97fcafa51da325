use Rattle.std.proofs.Common.{◌++◌, refl}
use Rattle.opgp_packet.specs.Parsed.{body_octets}
use Rattle.opgp_io.proofs.Extended.{extends_stop, extends_then}
use Rattle.opgp_state.specs.Date.{date_word}
use Rattle.opgp_stack.specs.KeySize.{key_size, size_words}
use Rattle.opgp_stack.specs.Listing.{key_fields_in, key_start, number_at}
use Rattle.opgp_stack.specs.Role.{role_name}
use Rattle.opgp_stack.proofs.listing.add_dated_key.Goals as goal

pub returns-in_err-add_key_start : goal.returns-in_err-add_key_start
returns-in_err-add_key_start g c =
    let body = body_octets c.args.key in
    extends_stop (date_word (number_at (key_fields_in body) 1) ++ size_words (key_size body)) refl c.from_residual.ensures.0 c.in_err-add_key_start.ensures

pub returns : goal.returns
returns g c =
    let body = body_octets c.args.key in
    extends_then {xs = key_start (role_name c.args.role) body} {ys = date_word (number_at (key_fields_in body) 1) ++ size_words (key_size body)} refl c.in_ok-add_key_start.ensures c.add_date_and_size.ensures
