-- The lines of how the parts of a keyring stand, one for each part.
use Rattle.std.specs.Prelude.{ℕ, ◌+◌, nat_lt, Bool, true, false, if◌then◌else◌, List, [], ◌∷◌}
use Rattle.std.specs.Prelude.{◌++◌, codes, Option, Some, None}
use Rattle.std.specs.Fmt.{decimal}
use Rattle.std.specs.List.{join_with_byte}
use Rattle.std.specs.Option.{option_and_then, option_map}
use Rattle.hex.specs.Hex.{encode_upper}
use Rattle.opgp_octets.specs.declared.packet_type.PacketType.TheVariants as packet
use Rattle.opgp_frame.specs.Header.{is_type}
use Rattle.opgp_frame.specs.Packet.{PacketValue}
use Rattle.opgp_hash.specs.Fingerprint.{print_octets}
use Rattle.opgp_io.specs.Texts.{escaped}
use Rattle.opgp_report.specs.First.{print_of}
use Rattle.opgp_report.specs.declared.verifier.Verdict.{Verdict}
use Rattle.opgp_keyring.specs.Keyring.{CertificateValue, ComponentValue, KeyringValue}
use Rattle.opgp_valid.specs.Uses.{has_use}
use Rattle.opgp_valid.specs.Why.{why_text}
use Rattle.opgp_valid.specs.declared.cause.Cause.{Cause}
use Rattle.opgp_valid.specs.declared.cause.Spot.{Spot}
use Rattle.opgp_valid.specs.declared.doubt.Lack.{Lack}
use Rattle.opgp_valid.specs.declared.doubt.Lack.TheVariants.{Newer, Lapsed, Weak, Malformed}
use Rattle.opgp_valid.specs.declared.doubt.Lack.TheVariants.{Undated, Young, Critical}
use Rattle.opgp_valid.specs.declared.facts.Key as keys
use Rattle.opgp_valid.specs.declared.facts.Key.TheVariants as key
use Rattle.opgp_valid.specs.declared.policy.Policy.{Policy}
use Rattle.opgp_valid.specs.declared.state.IdentityState.{IdentityState}
use Rattle.opgp_valid.specs.declared.state.IdentityState.TheVariants.{Certified, Revoked, Unbound}
use Rattle.opgp_valid.specs.declared.state.KeyState.{KeyState}
use Rattle.opgp_valid.specs.declared.states.PartState.{PartState}
use Rattle.opgp_valid.specs.declared.states.PartState.TheVariants.{Key, Identity}
use Rattle.opgp_valid.specs.declared.uses.Uses.{Uses}
use Rattle.opgp_valid.specs.declared.why.Why.{Why}
use Rattle.opgp_state.specs.Date.{date_text, year_10000}
use Rattle.opgp_state.specs.KeyringStates.{keyring_causes, keyring_states}
use Rattle.opgp_state.specs.Report.{joined, number_or_none}
use Rattle.opgp_state.specs.declared.basis.Basis.{Basis}
use Rattle.opgp_state.specs.declared.basis.Basis.TheVariants.{Claims, Verdicts}

-- ---- words
-- what stands behind the colon, where signatures aren't verified
abbrev pub basis_text : Basis → List ℕ
basis_text Claims = codes " : unverified "
basis_text Verdicts = codes " : "

-- a key is revoked, early, unbound or expired; else usable, unless it may be used for nothing
abbrev pub key_name : Option Why → Uses → List ℕ
key_name None uses = if has_use uses then codes "usable" else codes "no-use"
key_name (Some why) uses = why_text why

abbrev pub identity_name : IdentityState → List ℕ
identity_name Certified = codes "certified"
identity_name Revoked = codes "revoked"
identity_name Unbound = codes "unbound"

-- the names of the uses that a key has, in this order (RFC 9580, 5.2.3.29)
abbrev pub name_if : Bool → List ℕ → List (List ℕ)
name_if is_use name = if is_use then name ∷ [] else []

abbrev pub use_names : Uses → List (List ℕ)
use_names u = name_if u.certify (codes "certify") ++ (name_if u.sign (codes "sign")
    ++ (name_if u.encrypt (codes "encrypt") ++ name_if u.authenticate (codes "authenticate")))

-- with commas between them, or `-` for none
abbrev pub names_text : List (List ℕ) → List ℕ
names_text [] = codes "-"
names_text (name ∷ names) = join_with_byte 44 (name ∷ names)

abbrev pub uses_text : Uses → List ℕ
uses_text u = names_text (use_names u)

-- the octets of the fingerprint of the key with this body (RFC 9580, 5.5.4)
abbrev pub print_in : List ℕ → List ℕ
print_in body = print_octets (print_of body)

-- a text, or `-` for none
abbrev pub text_or_none : Option (List ℕ) → List ℕ
text_or_none (Some text) = text
text_or_none None = codes "-"

-- the date of a time; there is none from the year 10000 on
abbrev pub date_of_time : Option ℕ → Option (List ℕ)
date_of_time (Some n) = if nat_lt n year_10000 then Some (date_text n) else None
date_of_time None = None

abbrev pub date_or_none : Option ℕ → List ℕ
date_or_none time = text_or_none (date_of_time time)

-- ---- lines
-- the word, then `<fingerprint> <usable, ..> uses <..> begin <n> end <n or -> reason <n or ->`
abbrev pub key_fields : List ℕ → List ℕ → KeyState → List (List ℕ)
key_fields word print s = word ∷ encode_upper print ∷ codes " "
    ∷ key_name s.why s.uses ∷ codes " uses " ∷ uses_text s.uses ∷ codes " begin " ∷ decimal s.begin
    ∷ codes " end " ∷ number_or_none s.end ∷ codes " reason " ∷ number_or_none s.reason ∷ []

-- ` <begin date> <end date or ->`
abbrev pub key_dates : KeyState → List (List ℕ)
key_dates s = codes " " ∷ date_text s.begin ∷ codes " " ∷ date_or_none s.end ∷ []

-- what the first signature lacks that could speak for a key, or `-`
abbrev pub lack_name : Option Lack → List ℕ
lack_name None = codes "-"
lack_name (Some Newer) = codes "newer"
lack_name (Some Lapsed) = codes "lapsed"
lack_name (Some Weak) = codes "weak"
lack_name (Some Malformed) = codes "malformed"
lack_name (Some Undated) = codes "undated"
lack_name (Some Young) = codes "young"
lack_name (Some Critical) = codes "critical"

-- of which key it holds
abbrev pub role_name : keys.Key → List ℕ
role_name key.Primary = codes "pub"
role_name (key.Subkey n created) = codes "sub"

-- where a signature is
abbrev pub part_of : Option Spot → Option ℕ
part_of spot = option_and_then (λ s. s.component) spot

abbrev pub hang_of : Option Spot → Option ℕ
hang_of spot = option_map (λ s. s.hang) spot

-- what makes a key of no use, if something does:
-- ` key <pub or sub> lack <word or -> date <n or -> part <n or -> hang <n or -> <date or ->`
abbrev pub cause_words : Option Cause → List (List ℕ)
cause_words None = []
cause_words (Some c) = codes " key " ∷ role_name c.key ∷ codes " lack " ∷ lack_name c.lack
    ∷ codes " date " ∷ number_or_none c.date ∷ codes " part " ∷ number_or_none (part_of c.spot)
    ∷ codes " hang " ∷ number_or_none (hang_of c.spot) ∷ codes " " ∷ date_or_none c.date ∷ []

-- behind the fields, where values are wanted
abbrev pub key_values : Bool → KeyState → Option Cause → List (List ℕ)
key_values values s cause = if values then key_dates s ++ cause_words cause else []

abbrev pub key_words : Bool → List ℕ → List ℕ → KeyState → Option Cause → List (List ℕ)
key_words values word print s cause = key_fields word print s ++ key_values values s cause

-- `uid <certified, ..> "<text>"`
abbrev pub user_id_words : List ℕ → IdentityState → List (List ℕ)
user_id_words body s = codes "uid " ∷ identity_name s ∷ codes " \"" ∷ escaped body ∷ codes "\"" ∷ []

-- `uat <certified, ..>`
abbrev pub attribute_words : IdentityState → List (List ℕ)
attribute_words s = codes "uat " ∷ identity_name s ∷ []

-- by the type of the packet that is the part
abbrev pub part_words : Bool → PacketValue → PartState → Option Cause → List (List ℕ)
part_words values p (Key s) cause =
    if is_type packet.PublicKey p.kind
    then key_words values (codes "pub ") (print_in p.body) s cause
    else (if is_type packet.PublicSubkey p.kind
    then key_words values (codes "sub ") (print_in p.body) s cause else [])
part_words values p (Identity s) cause =
    if is_type packet.UserId p.kind then user_id_words p.body s
    else (if is_type packet.UserAttribute p.kind then attribute_words s else [])

-- `cert <n> part <n or -> : <..>`
abbrev pub words_at : Basis → ℕ → Option ℕ → List (List ℕ) → List ℕ
words_at basis n part words = joined (codes "cert " ∷ decimal n ∷ codes " part "
    ∷ number_or_none part ∷ basis_text basis ∷ words)

abbrev pub words_line : Basis → ℕ → Option ℕ → List (List ℕ) → List ℕ
words_line basis n part words = words_at basis n part words ++ codes "\n"

-- ---- those of a keyring: with values, or without
-- the first of what is left, if there is one, and what is behind it
abbrev pub first_cause : List (Option Cause) → Option Cause
first_cause [] = None
first_cause (cause ∷ causes) = cause

abbrev pub first_causes : List (List (Option Cause)) → List (Option Cause)
first_causes [] = []
first_causes (causes ∷ rest) = causes

abbrev pub without_first : {A : Type 0} → List A → List A
without_first [] = []
without_first (x ∷ xs) = xs

module _ (basis : Basis) (values : Bool) where
  abbrev pub state_line : ℕ → Option ℕ → PacketValue → PartState → Option Cause → List ℕ
  state_line n part p s cause = words_line basis n part (part_words values p s cause)

  -- of components, numbered from here
  abbrev pub component_lines : ℕ → ℕ → List ComponentValue → List PartState
      → List (Option Cause) → List ℕ
  component_lines n part [] states causes = []
  component_lines n part (c ∷ cs) [] causes = []
  component_lines n part (c ∷ cs) (s ∷ states) causes =
      state_line n (Some part) c.head s (first_cause causes)
      ++ component_lines n (part + 1) cs states (without_first causes)

  -- of a certificate: of its primary key, and of each component in order
  abbrev pub certificate_lines : ℕ → CertificateValue → List PartState → List (Option Cause)
      → List ℕ
  certificate_lines n c [] causes = []
  certificate_lines n c (s ∷ states) causes =
      state_line n None c.primary s (first_cause causes)
      ++ component_lines n 0 c.components states (without_first causes)

  -- of certificates, numbered from here
  abbrev pub lines_from : ℕ → List CertificateValue → List (List PartState)
      → List (List (Option Cause)) → List ℕ
  lines_from n [] states causes = []
  lines_from n (c ∷ cs) [] causes = []
  lines_from n (c ∷ cs) (s ∷ states) causes = certificate_lines n c s (first_causes causes)
      ++ lines_from (n + 1) cs states (without_first causes)

  -- by the verdicts on its rows
  abbrev pub state_lines : KeyringValue → List Verdict → Policy → ℕ → List ℕ
  state_lines r founds policy at = lines_from 0 r.certificates
      (keyring_states r founds policy at) (keyring_causes values r founds policy at)
