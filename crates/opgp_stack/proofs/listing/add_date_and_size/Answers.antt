use Rattle.std.proofs.Common.{◌++◌, ℕ, ap}
use Rattle.opgp_packet.specs.Key.{key_value}
use Rattle.opgp_packet.specs.Parsed.{body_octets}
use Rattle.opgp_io.proofs.Extended.{extends_stop, extends_then}
use Rattle.opgp_state.specs.Date.{date_word}
use Rattle.opgp_stack.specs.KeySize.{key_size, size_words}
use Rattle.opgp_stack.proofs.KeyLines.{creation_is}
use Rattle.opgp_stack.proofs.listing.add_date_and_size.Goals as goal

pub returns-in_err-add_date_word : goal.returns-in_err-add_date_word
returns-in_err-add_date_word g c =
    let k = c.args.key in
    let size = size_words (key_size (body_octets k)) in
    extends_stop {xs = date_word (key_value k).created} size (ap (λ (n : ℕ). date_word n ++ size) (creation_is (body_octets k) (key_value k) c.written.ensures)) c.from_residual.ensures.0
    (rw c.created.ensures at c.in_err-add_date_word.ensures)

pub returns : goal.returns
returns g c =
    let k = c.args.key in
    let size = size_words (key_size (body_octets k)) in
    extends_then {xs = date_word (key_value k).created} {ys = size} (ap (λ (n : ℕ). date_word n ++ size) (creation_is (body_octets k) (key_value k) c.written.ensures)) (rw c.created.ensures at c.in_ok-add_date_word.ensures)
    (rw c.size_of-size.ensures at c.add_size.ensures)
