-- Where a composer stands, by its state.
use Rattle.std.proofs.Common.{◌≡◌, true, false, List, [], ◌∷◌, ◌++◌}
use Rattle.opgp_octets.specs.declared.limits.Limits.{Limits}
use Rattle.opgp_frame.specs.Packet.{PacketValue}
use Rattle.opgp_keyring.specs.declared.composer.Composer.{Composer}
use Rattle.opgp_keyring.specs.declared.composer.State.{State}
use Rattle.opgp_keyring.specs.declared.composer.State.TheVariants.{Leading, Growing, Disordered, Broken, Spent}
use Rattle.opgp_keyring.specs.Composed.{IsKeyringOf, PartValue, parts_of}
use Rattle.opgp_keyring.specs.Composition.{Item}
use Rattle.opgp_keyring.specs.Fed.{IsFaultOf}
use Rattle.opgp_keyring.specs.Keyring.{CertificateValue}
use Rattle.opgp_keyring.specs.Taken.{AreHandedOut, so_far}
use Rattle.opgp_keyring.proofs.Adding.{keyring}

-- nothing but fillers came: there are no parts yet
pub record IsLeading (limits : Limits) (lead : List PacketValue) (given : List Item) (parts : List PartValue) : Type 0 where
  pub stands : IsKeyringOf limits given (keyring lead [])
  pub none : parts ≡ []

-- the parts so far are those of the keyring but the last certificate
pub record IsGrowing (limits : Limits) (c : CertificateValue) (given : List Item) (parts : List PartValue) : Type 0 where
  pub lead : List PacketValue
  pub done : List CertificateValue
  pub stands : IsKeyringOf limits given (keyring lead (done ++ c ∷ []))
  pub so_far : parts ≡ parts_of (keyring lead done)

-- what a state says of the items given, and of the parts so far
abbrev pub IsIn : Limits → State → List Item → List PartValue → Type 0
IsIn limits (Leading lead) given parts = IsLeading limits lead given parts
IsIn limits (Growing c) given parts = IsGrowing limits c given parts
IsIn limits (Disordered f) given parts = AreHandedOut limits given parts × IsFaultOf false limits given f
IsIn limits (Broken f) given parts = AreHandedOut limits given parts × IsFaultOf true limits given f
IsIn limits Spent given parts = ⊥

pub record Standing (limits : Limits) (c : Composer) (given : List Item) (taken : List PartValue) : Type 0 where
  pub limits_kept : c.limits ≡ limits
  pub state : IsIn limits c.state given (so_far c taken)
