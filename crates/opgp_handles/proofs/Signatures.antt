-- Detached signatures as they are read, and the fields that they hash.
use Rattle.std.proofs.Common.{◌≡◌, ◌∙◌, ℕ, List, [], ◌∷◌, map, Option, Result, Ok, Err, refl, sym, ap}
use Rattle.std.specs.List.{AllZip}
use Rattle.opgp_octets.specs.declared.fault.BodyFault.{BodyFault}
use Rattle.opgp_packet.specs.SignatureBody.{SignatureValue}
use Rattle.opgp_packet.specs.declared.sig_view.SigView.{SigView}
use Rattle.opgp_hash.specs.SignedValue.{SignedValue}
use Rattle.opgp_document.specs.Answer.{asked_of}
use Rattle.opgp_keyring.specs.SignedLiteral.{IsReadAs}
use Rattle.opgp_tables.proofs.Documents.{read_is}
use Rattle.opgp_handles.specs.Documents.{signed_at, signed_in, signed_read}
use Rattle.opgp_handles.specs.Standings.{value_at, value_of, value_read}

-- what a signature is read as says what it hashes
one_asked : (read : Result SigView BodyFault) (body : List ℕ) → IsReadAs body read → asked_of read ≡ signed_at body
one_asked (Ok view) body e = sym (ap (λ (r : Result SignatureValue BodyFault). signed_read r) (read_is body (Ok view) e))
one_asked (Err fault) body e = sym (ap (λ (r : Result SignatureValue BodyFault). signed_read r) (read_is body (Err fault) e))

pub all_asked : (reads : List (Result SigView BodyFault)) (bodies : List (List ℕ)) → AllZip (λ (read : Result SigView BodyFault) (body : List ℕ). IsReadAs body read) reads bodies → map asked_of reads ≡ signed_in bodies
all_asked [] [] h = refl
all_asked [] (body ∷ bodies) h = absurd h
all_asked (read ∷ reads) [] h = absurd h
all_asked (read ∷ reads) (body ∷ bodies) h =
    ap (λ (s : Option SignedValue). s ∷ map asked_of reads) (one_asked read body h.0)
    ∙ ap (λ (l : List (Option SignedValue)). signed_at body ∷ l) (all_asked reads bodies h.1)

-- what a signature is read as is what its body says
one_value : (read : Result SigView BodyFault) (body : List ℕ) → IsReadAs body read → value_read read ≡ value_at body
one_value (Ok view) body e = sym (ap (λ (r : Result SignatureValue BodyFault). value_of r) (read_is body (Ok view) e))
one_value (Err fault) body e = sym (ap (λ (r : Result SignatureValue BodyFault). value_of r) (read_is body (Err fault) e))

pub all_values : (reads : List (Result SigView BodyFault)) (bodies : List (List ℕ)) → AllZip (λ (read : Result SigView BodyFault) (body : List ℕ). IsReadAs body read) reads bodies → map value_read reads ≡ map value_at bodies
all_values [] [] h = refl
all_values [] (body ∷ bodies) h = absurd h
all_values (read ∷ reads) [] h = absurd h
all_values (read ∷ reads) (body ∷ bodies) h =
    ap (λ (s : Option SignatureValue). s ∷ map value_read reads) (one_value read body h.0)
    ∙ ap (λ (l : List (Option SignatureValue)). value_at body ∷ l) (all_values reads bodies h.1)
