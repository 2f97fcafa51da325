-- Signatures that say the same sort of thing, and which of them speak for a key at a time.
use Rattle.std.specs.Prelude.{ℕ, Bool, true, false, not, ◌&&◌, ◌||◌, ◌==◌}
use Rattle.std.specs.Prelude.{Option, Some, None, is_none, is_some}
use Rattle.opgp_octets.specs.declared.signature_type.SignatureType.{SignatureType}
use Rattle.opgp_octets.specs.declared.signature_type.SignatureType.TheVariants as types
use Rattle.opgp_valid.specs.declared.group.Group.{Group}
use Rattle.opgp_valid.specs.declared.group.Sort.{Sort}
use Rattle.opgp_valid.specs.declared.group.Sort.TheVariants.{Direct, UserIds, Certifications}
use Rattle.opgp_valid.specs.declared.group.Sort.TheVariants.{Main, Expiring, Identity, Bindings}
use Rattle.opgp_valid.specs.declared.statement.Author.{Author}
use Rattle.opgp_valid.specs.declared.statement.Author.TheVariants.{Primary, Revoker}
use Rattle.opgp_valid.specs.declared.statement.Statement.{Statement}
use Rattle.opgp_valid.specs.Statement.{is_alive, is_good}

-- a certification of a user ID or user attribute (RFC 9580, 5.2.1.4 to 5.2.1.7)
abbrev pub certifies : SignatureType → Bool
certifies types.GenericCertification = true
certifies types.PersonaCertification = true
certifies types.CasualCertification = true
certifies types.PositiveCertification = true
certifies other = false

abbrev pub is_direct : SignatureType → Bool
is_direct types.DirectKey = true
is_direct other = false

abbrev pub binds : SignatureType → Bool
binds types.SubkeyBinding = true
binds other = false

abbrev pub is_the : ℕ → Option ℕ → Bool
is_the n None = false
is_the n (Some m) = m == n

-- a direct key signature on the primary key (5.2.1.10), and a certification of any component
abbrev pub is_direct_on : Statement → Bool
is_direct_on s = is_direct s.kind && is_none s.component

abbrev pub is_certification_on : Statement → Bool
is_certification_on s = certifies s.kind && is_some s.component

-- direct key signatures; certifications of user IDs; certifications of any component; those that
-- say that their user ID is the primary one (5.2.3.27); those that let the key expire (5.2.3.13);
-- those of this component; bindings of this component (5.2.1.8)
abbrev pub is_in : Sort → Statement → Bool
is_in Direct s = is_direct_on s
is_in UserIds s = is_certification_on s && s.is_on_user_id
is_in Certifications s = is_certification_on s
is_in Main s = is_certification_on s && s.is_main
is_in Expiring s = is_certification_on s && not (s.key_lasts == 0)
is_in (Identity n) s = is_certification_on s && is_the n s.component
is_in (Bindings n) s = binds s.kind && is_the n s.component

-- those of a sort that are good, and all of them
abbrev pub good : Sort → Group
good sort = record { sort = sort; must_be_good = true; must_stand = false }

abbrev pub any : Sort → Group
any sort = record { sort = sort; must_be_good = false; must_stand = false }

-- of these, where that is asked for, those that the primary key hasn't revoked (5.2.1.13)
abbrev pub kept : Bool → Group → Group
kept stand group =
    record { sort = group.sort; must_be_good = group.must_be_good; must_stand = stand }

-- of these, the certifications of this component
abbrev pub on_component : ℕ → Group → Group
on_component n group = record {
  sort = Identity n;
  must_be_good = group.must_be_good;
  must_stand = group.must_stand;
}

abbrev pub is_primary : Author → Bool
is_primary Primary = true
is_primary Revoker = false

-- it is one of them by the primary key, nothing critical in it is unknown, and it counts at this
-- time
abbrev pub speaks : Group → ℕ → Statement → Bool
speaks group at s = is_in group.sort s && ((not group.must_be_good || is_good s)
    && ((not group.must_stand || not s.is_revoked)
    && (s.is_understood && (is_primary s.author && is_alive at s))))
