use Rattle.std.proofs.Common.{List, ℕ, ◌++◌, refl}
use Rattle.opgp_hash.specs.Fingerprint.{fingerprint_of, print_octets}
use Rattle.opgp_hash.specs.KeyId.{key_id_of}
use Rattle.opgp_packet.specs.Parsed.{body_octets}
use Rattle.opgp_packet.specs.Key.{key_value}
use Rattle.opgp_io.proofs.Extended.{extends_stop, extends_then}
use Rattle.opgp_stack.specs.Listing.{key_names, key_numbers}
use Rattle.opgp_stack.specs.Role.{role_name}
use Rattle.opgp_stack.proofs.KeyLines.{key_start_is}
use Rattle.opgp_stack.proofs.listing.add_key_start.Goals as goal

pub returns-in_err-add_role : goal.returns-in_err-add_role
returns-in_err-add_role g c =
    let k = c.args.key in
    let numbers : List ℕ = key_numbers (key_value k).version (key_value k).created (key_value k).algorithm in
    let names : List ℕ = key_names (print_octets (fingerprint_of (key_value k).version (body_octets k))) (key_id_of (key_value k).version (body_octets k)) in
    extends_stop (numbers ++ names) (key_start_is (role_name c.args.role) (body_octets k) (key_value k) c.written.ensures) c.from_residual.ensures.0 c.in_err-add_role.ensures

pub returns-in_err-add_numbers : goal.returns-in_err-add_numbers
returns-in_err-add_numbers g c =
    let k = c.args.key in
    let numbers : List ℕ = key_numbers (key_value k).version (key_value k).created (key_value k).algorithm in
    let names : List ℕ = key_names (print_octets (fingerprint_of (key_value k).version (body_octets k))) (key_id_of (key_value k).version (body_octets k)) in
    extends_then {ys = numbers ++ names} (key_start_is (role_name c.args.role) (body_octets k) (key_value k) c.written.ensures) c.in_ok-add_role.ensures
    (extends_stop {xs = numbers} names refl c.from_residual-in_err-add_numbers.ensures.0 (rw (c.version.ensures.value, c.created.ensures, c.algorithm.ensures) at c.in_err-add_numbers.ensures))

pub returns : goal.returns
returns g c =
    let k = c.args.key in
    let numbers : List ℕ = key_numbers (key_value k).version (key_value k).created (key_value k).algorithm in
    let names : List ℕ = key_names (print_octets (fingerprint_of (key_value k).version (body_octets k))) (key_id_of (key_value k).version (body_octets k)) in
    extends_then {ys = numbers ++ names} (key_start_is (role_name c.args.role) (body_octets k) (key_value k) c.written.ensures) c.in_ok-add_role.ensures
    (extends_then {xs = numbers} {ys = names} refl (rw (c.version.ensures.value, c.created.ensures, c.algorithm.ensures) at c.in_ok-add_numbers.ensures) (rw (c.octets.ensures.value, c.key_id.ensures, c.fingerprint_of_view-print.ensures) at c.add_names.ensures))
