-- The certificate that packets are (RFC 9580, 10.1), and its parts, borrowed.
use Rattle.std.specs.Prelude.{◌≡◌, true, ◌||◌, List, [], ◌∷◌, All, if◌then◌else◌}
use Rattle.opgp_frame.specs.declared.form.Form.TheVariants.{NewOne}
use Rattle.opgp_frame.specs.Packet.{PacketValue}
use Rattle.opgp_keyring.specs.declared.component.Component.{Component}
use Rattle.opgp_keyring.specs.declared.component.Components.{Components}
use Rattle.opgp_keyring.specs.declared.hangs.Hangs.{Hangs}
use Rattle.opgp_keyring.specs.Keyring.{CertificateValue, ComponentValue, IsPrimary, is_head, is_hung}
use Rattle.opgp_keyring.specs.Member.{member_packet, members_left}

-- those before the first user ID, attribute or subkey (RFC 9580, 10.1): the longest front without
-- one
abbrev pub hung_before : List PacketValue → List PacketValue
hung_before [] = []
hung_before (p ∷ ps) = if is_head p.kind then [] else p ∷ hung_before ps

-- each user ID, attribute and subkey, with the packets before the next one (RFC 9580, 10.1)
abbrev pub components_behind : List PacketValue → List ComponentValue
components_behind [] = []
components_behind (p ∷ ps) =
    if is_head p.kind then (record { head = p; hangs = hung_before ps }) ∷ components_behind ps
    else components_behind ps

-- the certificate that packets are, which begin with a primary key (RFC 9580, 10.1)
abbrev pub certificate_of : List PacketValue → CertificateValue
certificate_of [] =
    record { primary = record { form = NewOne; kind = 0; body = [] }; hangs = []; components = [] }
certificate_of (p ∷ ps) =
    record { primary = p; hangs = hung_before ps; components = components_behind ps }

-- a primary key, and then what may follow it
abbrev pub BeginCertificate : List PacketValue → Type 0
BeginCertificate [] = ⊥
BeginCertificate (p ∷ ps) = IsPrimary p × All (λ q. (is_head q.kind || is_hung q.kind) ≡ true) ps

-- the packets on a key or a component that are left, in order
abbrev pub hangs_left : Hangs → List PacketValue
hangs_left h = hung_before (members_left h.left)

-- the component
abbrev pub component_of : Component → ComponentValue
component_of c = record { head = member_packet c.head; hangs = hangs_left c.hangs }

-- the components that are left, in order
abbrev pub components_left : Components → List ComponentValue
components_left c = components_behind (members_left c.left)
