use Rattle.std.proofs.Common.{◌≡◌, [], ◌∷◌, rules}
use Rattle.opgp_packet.specs.Parsed.{body_octets}
use Rattle.opgp_report.specs.Report.{subkey_bodies}
use Rattle.opgp_keyring.specs.Grouped.{component_of}
use Rattle.opgp_stack.proofs.Wanted.{subkey_noted}
use Rattle.opgp_stack.proofs.wanted_keys.note_component.Goals as goal

pub returns-in-Subkey : goal.returns-in-Subkey
returns-in-Subkey c = λ names bodies h.
    let is : subkey_bodies (component_of c.args.component) ≡ body_octets c.in-Subkey.key ∷ [] = search rules in
    subkey_noted names bodies (subkey_bodies (component_of c.args.component)) (body_octets c.in-Subkey.key) c.note_key.result c.note_key.new.notes is (c.note_key.ensures names bodies (body_octets c.in-Subkey.key) c.print_of.ensures h)
