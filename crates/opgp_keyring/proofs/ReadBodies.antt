-- Signatures that are read, one for each body of a signature.
use Rattle.std.proofs.Common.{◌≡◌, ℕ, ◌+◌, ◌<◌, List, [], ◌∷◌, ◌++◌, Result, length, take, get_or, sym, subst}
use Rattle.std.specs.List.{AllZip}
use Rattle.opgp_octets.specs.declared.fault.BodyFault.{BodyFault}
use Rattle.opgp_frame.specs.Packet.{PacketValue}
use Rattle.opgp_packet.specs.declared.sig_view.SigView.{SigView}
use Rattle.opgp_keyring.specs.Signed.{signature_bodies}
use Rattle.opgp_keyring.specs.SignedLiteral.{IsReadAs}
use Rattle.opgp_keyring.proofs.SignedBodies.{no_more, one_more}

-- each body as it is read
abbrev pub AreRead : List (Result SigView BodyFault) → List (List ℕ) → Type 0
AreRead reads bodies = AllZip (λ (read : Result SigView BodyFault) (body : List ℕ). IsReadAs body read) reads bodies

added : (reads : List (Result SigView BodyFault)) (bodies : List (List ℕ)) (read : Result SigView BodyFault) (body : List ℕ) → AreRead reads bodies → IsReadAs body read → AreRead (reads ++ read ∷ []) (bodies ++ body ∷ [])
added [] [] read body all is = (is, tt)
added [] (b ∷ bodies) read body all is = absurd all
added (r ∷ reads) [] read body all is = absurd all
added (r ∷ reads) (b ∷ bodies) read body all is = (all.0, added reads bodies read body all.1 is)

-- with one more packet, which is a signature
pub read_one : (i : ℕ) (ps : List PacketValue) (p : PacketValue) (reads more : List (Result SigView BodyFault)) (read : Result SigView BodyFault) → i < length ps → p ≡ get_or ps i p → p.kind ≡ 2 → IsReadAs p.body read → more ≡ reads ++ read ∷ []
    → AreRead reads (signature_bodies (take i ps)) → AreRead more (signature_bodies (take (i + 1) ps))
read_one i ps p reads more read h e kind is items all =
    subst (λ (l : List (Result SigView BodyFault)). AreRead l (signature_bodies (take (i + 1) ps))) (sym items)
    (subst (AreRead (reads ++ read ∷ [])) (sym (one_more 2 i ps p h e kind)) (added reads (signature_bodies (take i ps)) read p.body all is))

-- and which isn't
pub read_none : (i : ℕ) (ps : List PacketValue) (p : PacketValue) (reads : List (Result SigView BodyFault)) → i < length ps → p ≡ get_or ps i p → (p.kind ≡ 2 → ⊥) → AreRead reads (signature_bodies (take i ps)) → AreRead reads (signature_bodies (take (i + 1) ps))
read_none i ps p reads h e another all = subst (AreRead reads) (sym (no_more 2 i ps p h e another)) all
