-- The packets of a keyring's certificates (RFC 9580, 10.1), each by its type and body and by those
-- of what it hangs on.
use Rattle.std.specs.Prelude.{ℕ, ◌+◌, Bool, true, false, ◌&&◌, ◌==◌, if◌then◌else◌}
use Rattle.std.specs.Prelude.{List, [], ◌∷◌, ◌++◌, Option, Some, None}
use Rattle.std.specs.List.{list_any}
use Rattle.std.specs.Str.{bytes_eq}
use Rattle.opgp_octets.specs.declared.packet_type.PacketType.TheVariants as packet
use Rattle.opgp_frame.specs.Header.{is_type}
use Rattle.opgp_frame.specs.Packet.{PacketValue}
use Rattle.opgp_keyring.specs.Keyring.{CertificateValue, ComponentValue, KeyringValue}
use Rattle.opgp_difference.specs.declared.place.PacketPlace.{PacketPlace}

-- a type and a body
abbrev pub Name : Type 0
Name = ℕ × List ℕ

-- the form of its header doesn't count
abbrev pub packet_name : PacketValue → Name
packet_name p = (p.kind, p.body)

-- a packet's name, then the names of what it hangs on, up to the primary key
abbrev pub Entry : Type 0
Entry = List Name

abbrev pub same_name : Name → Name → Bool
same_name m n = (m.0 == n.0) && bytes_eq m.1 n.1

abbrev pub same_entry : Entry → Entry → Bool
same_entry [] [] = true
same_entry [] (n ∷ f) = false
same_entry (m ∷ e) [] = false
same_entry (m ∷ e) (n ∷ f) = same_name m n && same_entry e f

-- a packet at its place
pub record PlacedValue : Type 0 where
  pub place : PacketPlace
  pub packet : PacketValue

-- an entry, and the packet that it is of
pub record Standing : Type 0 where
  pub entry : Entry
  pub placed : PlacedValue

abbrev pub stands_at : Entry → PlacedValue → Standing
stands_at e placed = record { entry = e; placed = placed }

-- a packet that hangs on what this entry is of
abbrev pub hangs_on : Entry → PacketPlace → PacketValue → Standing
hangs_on e place p =
    stands_at (packet_name p ∷ e) (record { place = place; packet = p })

abbrev pub place_of : ℕ → Option ℕ → Option ℕ → PacketPlace
place_of certificate component hang = record {
  certificate = certificate;
  component = component;
  hang = hang;
}

-- what is made of each item by its number, counted from this one
abbrev pub numbered : {A : Type 0} → (ℕ → A → List Standing) → ℕ → List A → List Standing
numbered make n [] = []
numbered make n (x ∷ xs) = make n x ++ numbered make (n + 1) xs

-- a signature (5.2) is an entry, a filler is none
abbrev pub hang_standing : Entry → ℕ → Option ℕ → ℕ → PacketValue → List Standing
hang_standing e certificate component n p =
    if is_type packet.Signature p.kind
    then hangs_on e (place_of certificate component (Some n)) p ∷ [] else []

-- a user ID, an attribute or a subkey, and the signatures on it
abbrev pub component_standing : Entry → ℕ → ℕ → ComponentValue → List Standing
component_standing e certificate n c =
    hangs_on e (place_of certificate (Some n) None) c.head
    ∷ numbered (hang_standing (packet_name c.head ∷ e) certificate (Some n)) 0 c.hangs

-- a primary key, the signatures on it, and its components
abbrev pub certificate_standing : ℕ → CertificateValue → List Standing
certificate_standing n c =
    hangs_on [] (place_of n None None) c.primary
    ∷ (numbered (hang_standing (packet_name c.primary ∷ []) n None) 0 c.hangs
    ++ numbered (component_standing (packet_name c.primary ∷ []) n) 0 c.components)

-- the entries of a keyring, in order; its lead is none
abbrev pub standing_in : KeyringValue → List Standing
standing_in r = numbered certificate_standing 0 r.certificates

-- whether this entry is among them
abbrev pub is_in : List Standing → Entry → Bool
is_in all e = list_any (λ s. same_entry e s.entry) all
