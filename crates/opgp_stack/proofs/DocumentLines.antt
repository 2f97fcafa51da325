-- Detached signatures as they are read, and what is answered for them.
use Rattle.std.proofs.Common.{◌≡◌, ◌∙◌, ℕ, suc, ◌+◌, ◌<◌, ◌≤◌, Bool, false, List, [], ◌∷◌, ◌++◌, length, map, drop, get_or, zero, ◌⊎◌, inl, inr, arith, Option, Result, Ok, Err, refl, sym, ap, subst, append-nil}
use Rattle.std.specs.List.{AllZip}
use Rattle.opgp_octets.specs.Limits.{input_limit}
use Rattle.opgp_octets.specs.declared.fault.BodyFault.{BodyFault}
use Rattle.opgp_octets.specs.declared.limits.Limits.{Limits}
use Rattle.opgp_packet.specs.AreasValue.{areas_fields, areas_value}
use Rattle.opgp_packet.specs.SignatureBody.{SignatureValue, of_three, of_four, of_six, signature_at, version_three, version_four, version_six}
use Rattle.opgp_packet.specs.SigView.{sig_view_octets, sig_view_value}
use Rattle.opgp_packet.specs.Three.{three_fields, three_value}
use Rattle.opgp_packet.specs.declared.sig_view.SigView.{SigView}
use Rattle.opgp_packet.specs.declared.sig_view.SigView.TheVariants.{Three, Four, Six, Other}
use Rattle.opgp_packet.proofs.GrammarLaws.{body_found}
use Rattle.opgp_packet.proofs.SignatureLaws.{sig_only}
use Rattle.opgp_hash.specs.SignedValue.{SignedValue}
use Rattle.opgp_document.specs.Answer.{asked_of}
use Rattle.opgp_keyring.specs.SignedLiteral.{IsReadAs}
use Rattle.opgp_codec.specs.IncomingOctets.{OctetsCame, piece_of}
use Rattle.opgp_codec.specs.Pulled.{OfAll, Pulls}
use Rattle.opgp_codec.specs.declared.incoming_octets.IncomingOctets.{IncomingOctets}
use Rattle.opgp_codec.proofs.Pulling.{all_of, of_pulled}
use Rattle.opgp_stack.specs.Documents.{Answer, digest_line, digest_lines, read_shown, signed_in, signed_read}

-- ---- a body as it is read
read_view : (s : SigView) → signature_at (sig_view_octets s) ≡ Ok (sig_view_value s)
read_view (Three s) = let f = three_fields (three_value s) in sig_only s.body.now (of_three f) s.octets (body_found version_three s.body.now f s.octets s.parses)
read_view (Four s) = let f = areas_fields (areas_value s) in sig_only s.body.now (of_four f) s.octets (body_found version_four s.body.now f s.octets s.parses)
read_view (Six s) = let f = areas_fields (areas_value s) in sig_only s.body.now (of_six f) s.octets (body_found version_six s.body.now f s.octets s.parses)
read_view (Other s) = s.parses

pub read_is : (body : List ℕ) (read : Result SigView BodyFault) → IsReadAs body read → signature_at body ≡ read_shown read
read_is body (Ok view) e = ap signature_at (sym e) ∙ read_view view
read_is body (Err fault) e = e

abbrev pub AreRead : List (Result SigView BodyFault) → List (List ℕ) → Type 0
AreRead reads bodies = AllZip (λ (read : Result SigView BodyFault) (body : List ℕ). IsReadAs body read) reads bodies

pub reads_shown : (reads : List (Result SigView BodyFault)) (bodies : List (List ℕ)) → AreRead reads bodies → map read_shown reads ≡ map signature_at bodies
reads_shown [] [] h = refl
reads_shown [] (body ∷ bodies) h = absurd h
reads_shown (read ∷ reads) [] h = absurd h
reads_shown (read ∷ reads) (body ∷ bodies) h =
    ap (λ (r : Result SignatureValue BodyFault). r ∷ map read_shown reads) (sym (read_is body read h.0))
    ∙ ap (λ (l : List (Result SignatureValue BodyFault)). signature_at body ∷ l) (reads_shown reads bodies h.1)

one_asked : (read : Result SigView BodyFault) (body : List ℕ) → IsReadAs body read → asked_of read ≡ signed_in body
one_asked (Ok view) body e = sym (ap signed_read (read_is body (Ok view) e))
one_asked (Err fault) body e = sym (ap signed_read (read_is body (Err fault) e))

pub reads_asked : (reads : List (Result SigView BodyFault)) (bodies : List (List ℕ)) → AreRead reads bodies → map asked_of reads ≡ map signed_in bodies
reads_asked [] [] h = refl
reads_asked [] (body ∷ bodies) h = absurd h
reads_asked (read ∷ reads) [] h = absurd h
reads_asked (read ∷ reads) (body ∷ bodies) h =
    ap (λ (s : Option SignedValue). s ∷ map asked_of reads) (one_asked read body h.0)
    ∙ ap (λ (l : List (Option SignedValue)). signed_in body ∷ l) (reads_asked reads bodies h.1)

pub reads_long : (reads : List (Result SigView BodyFault)) (bodies : List (List ℕ)) → AreRead reads bodies → length reads ≡ length bodies
reads_long [] [] h = refl
reads_long [] (body ∷ bodies) h = absurd h
reads_long (read ∷ reads) [] h = absurd h
reads_long (read ∷ reads) (body ∷ bodies) h = ap (λ (n : ℕ). suc n) (reads_long reads bodies h.1)

-- ---- the octets of a source, all of them
pub ended_all : {R : Type 0} (left : R → Option (List ℕ)) (failed : R → Bool) (old new : R) (limits : Limits) (octets : List ℕ) (P : List ℕ → Type 0) → failed new ≡ false → Pulls (left old) (left new) (input_limit limits) octets
    → P octets → (input_limit limits < length octets → (more : List ℕ) → P (octets ++ more)) → OfAll left failed old new limits P
ended_all left failed old new limits octets P sound pulls h more = all_of left failed old new limits P sound (of_pulled (left old) (left new) limits octets P pulls h more)

-- no more came
pub came_no_more : (limits : Limits) (before now : Option (List ℕ)) (r : IncomingOctets) (octets : List ℕ) → piece_of r ≡ [] → OctetsCame limits before now r (octets ++ piece_of r) → OctetsCame limits before now r octets
came_no_more limits before now r octets none came =
    subst (OctetsCame limits before now r) (ap (λ (l : List ℕ). octets ++ l) none ∙ append-nil octets) came

-- ---- their lines
-- the next one
lines_from : (n m : ℕ) (reads : List (Result SigView BodyFault)) (answers : List Answer) (read : Result SigView BodyFault) (answer : Answer) → n < length reads → n < length answers → read ≡ get_or reads n read → answer ≡ get_or answers n answer
    → digest_lines m (drop n (map read_shown reads)) (drop n answers) ≡ digest_line m (read_shown read) answer ++ digest_lines (m + 1) (drop (suc n) (map read_shown reads)) (drop (suc n) answers)
lines_from n m [] answers read answer h k e f = absurd (omega arith)
lines_from n m (r ∷ reads) [] read answer h k e f = absurd (omega arith)
lines_from zero m (r ∷ reads) (a ∷ answers) read answer h k e f =
    ap (λ (x : Result SigView BodyFault). digest_line m (read_shown x) a ++ digest_lines (m + 1) (map read_shown reads) answers) (sym e)
    ∙ ap (λ (x : Answer). digest_line m (read_shown read) x ++ digest_lines (m + 1) (map read_shown reads) answers) (sym f)
lines_from (suc n) m (r ∷ reads) (a ∷ answers) read answer h k e f = lines_from n m reads answers read answer (omega arith) (omega arith) e f

lines_next : (n : ℕ) (reads : List (Result SigView BodyFault)) (answers : List Answer) (read : Result SigView BodyFault) (answer : Answer) → n < length reads → n < length answers → read ≡ get_or reads n read → answer ≡ get_or answers n answer
    → digest_lines n (drop n (map read_shown reads)) (drop n answers) ≡ digest_line n (read_shown read) answer ++ digest_lines (n + 1) (drop (n + 1) (map read_shown reads)) (drop (n + 1) answers)
lines_next n reads answers read answer h k e f =
    let one : suc n ≡ n + 1 = omega arith in
    lines_from n n reads answers read answer h k e f
    ∙ ap (λ (i : ℕ). digest_line n (read_shown read) answer ++ digest_lines (n + 1) (drop i (map read_shown reads)) (drop i answers)) one

-- an item is the same, whatever stands for none
or_any : {A : Type 0} (xs : List A) (n : ℕ) (d : A) → n < length xs → get_or xs n d ≡ get_or xs n (get_or xs n d)
or_any [] n d h = absurd (omega arith)
or_any (x ∷ xs) zero d h = refl
or_any (x ∷ xs) (suc n) d h = or_any xs n d (omega arith)

pub lines_next_or : (n : ℕ) (reads : List (Result SigView BodyFault)) (answers : List Answer) (read : Result SigView BodyFault) (d : Answer) → n < length reads → n < length answers → read ≡ get_or reads n read
    → digest_lines n (drop n (map read_shown reads)) (drop n answers) ≡ digest_line n (read_shown read) (get_or answers n d) ++ digest_lines (n + 1) (drop (n + 1) (map read_shown reads)) (drop (n + 1) answers)
lines_next_or n reads answers read d h k e = lines_next n reads answers read (get_or answers n d) h k e (or_any answers n d k)

no_answers : (m : ℕ) (reads : List (Result SignatureValue BodyFault)) → digest_lines m reads [] ≡ []
no_answers m [] = refl
no_answers m (r ∷ reads) = refl

-- there is none left
pub lines_none : (n m : ℕ) (reads : List (Result SigView BodyFault)) (answers : List Answer) → (length reads ≤ n) ⊎ (length answers ≤ n) → digest_lines m (drop n (map read_shown reads)) (drop n answers) ≡ []
lines_none zero m [] answers h = refl
lines_none zero m (r ∷ reads) [] h = refl
lines_none zero m (r ∷ reads) (a ∷ answers) (inl h) = absurd (omega arith)
lines_none zero m (r ∷ reads) (a ∷ answers) (inr h) = absurd (omega arith)
lines_none (suc n) m [] answers h = refl
lines_none (suc n) m (r ∷ reads) [] h = no_answers m (drop n (map read_shown reads))
lines_none (suc n) m (r ∷ reads) (a ∷ answers) (inl h) = lines_none n m reads answers (inl (omega arith))
lines_none (suc n) m (r ∷ reads) (a ∷ answers) (inr h) = lines_none n m reads answers (inr (omega arith))
