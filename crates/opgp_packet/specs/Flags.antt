-- The names of flags: bits of the first octet of a subpacket's data, each as the octet in which it
-- alone is set.
use Rattle.std.specs.Prelude.{ℕ, List, [], ◌∷◌, codes}
use Rattle.opgp_packet.specs.declared.flags.Flag.{Flag}

abbrev pub flag_shown : Flag → ℕ × List ℕ
flag_shown f = (f.bit, f.name.now)

-- what a key is for (RFC 9580, 5.2.3.29)
abbrev pub key_flag_rows : List (ℕ × List ℕ)
key_flag_rows =
    (1, codes "certify") ∷ (2, codes "sign") ∷ (4, codes "encrypt-communications")
    ∷ (8, codes "encrypt-storage") ∷ (16, codes "split") ∷ (32, codes "authenticate")
    ∷ (128, codes "group") ∷ []

-- what an implementation supports (5.2.3.32)
abbrev pub feature_rows : List (ℕ × List ℕ)
feature_rows = (1, codes "seipd1") ∷ (8, codes "seipd2") ∷ []

-- what a key server is asked for (5.2.3.25)
abbrev pub server_rows : List (ℕ × List ℕ)
server_rows = (128, codes "no-modify") ∷ []
