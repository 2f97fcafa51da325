-- The parts of a cleartext message.
use Rattle.std.proofs.Common.{◌≡◌, ◌∙◌, ℕ, Bool, true, false, List, ap, sym, subst, Option, Result, Ok, Err}
use Rattle.std.specs.Global.{Vec}
use Rattle.opgp_octets.specs.Limits.{line_limit}
use Rattle.opgp_octets.specs.declared.limits.Limits.{Limits}
use Rattle.opgp_cleartext.specs.Cleartext.{HasCleartext}
use Rattle.opgp_codec.specs.Cleartext.{CleartextAnswer, SignedLines}
use Rattle.opgp_codec.specs.Pulled.{OfAll}
use Rattle.opgp_codec.specs.Reading.{Outcome}
use Rattle.opgp_codec.proofs.Pulling.{of_all}
use Rattle.opgp_stack.specs.CleartextRun.{HasPart, IsPartOf, part_octets}
use Rattle.opgp_stack.specs.Octets.{AreOctets}
use Rattle.opgp_stack.specs.Running.{ReadsFor}
use Rattle.opgp_stack.specs.declared.cleartext.CleartextPart.{CleartextPart}
use Rattle.opgp_stack.specs.declared.run_fault.RunFault.{RunFault}
use Rattle.opgp_stack.specs.declared.run_fault.RunFault.TheVariants as run

-- ---- a part of a message with this behind its document
pub part_is : (limits : Limits) (text : List ℕ) (s : SignedLines) (rest : List ℕ) → CleartextAnswer limits text (Ok s) → HasCleartext (line_limit limits) text s.0 rest
    → (p q : CleartextPart) (octets : List ℕ) → p ≡ q → octets ≡ part_octets q s.0 rest → IsPartOf limits p text octets
part_is limits text s rest answer has p q octets same is =
    record { document = s.0; rest = rest; has = has; packets = s.1; answer = answer; is = is ∙ ap (λ (x : CleartextPart). part_octets x s.0 rest) (sym same) }

-- ---- of what was read
-- the part, or the fault
abbrev pub PartAnswer : Limits → CleartextPart → List ℕ → Outcome (Vec ℕ) → Type 0
PartAnswer limits p text (Ok octets) = IsPartOf limits p text octets.items
PartAnswer limits p text (Err fault) = CleartextAnswer limits text (Err fault)

pub part_read : {R : Type 0} (left : R → Option (List ℕ)) (failed : R → Bool) (old new : R) (limits : Limits) (p : CleartextPart) (text : Vec ℕ) (result : Result (Vec ℕ) RunFault)
    → OfAll left failed old new limits (λ octets. AreOctets limits octets (Ok text)) → HasPart limits p text.items result
    → ReadsFor (λ answer. OfAll left failed old new limits (λ octets. PartAnswer limits p octets answer)) (failed new ≡ true) (failed new ≡ false) result
part_read left failed old new limits p text (Ok octets) read has = of_all left failed old new limits _ _ (λ all h. subst (λ (t : List ℕ). IsPartOf limits p t octets.items) h.1 has) read
part_read left failed old new limits p text (Err (run.Refused fault)) read has = of_all left failed old new limits _ _ (λ all h. subst (λ (t : List ℕ). CleartextAnswer limits t (Err fault)) h.1 has) read
part_read left failed old new limits p text (Err run.Read) read has = absurd has
part_read left failed old new limits p text (Err run.Write) read has = absurd has
part_read left failed old new limits p text (Err run.Memory) read has = read.sound
part_read left failed old new limits p text (Err run.Spool) read has = absurd has
part_read left failed old new limits p text (Err run.NoSuchRow) read has = absurd has
part_read left failed old new limits p text (Err run.NoSuchCertificate) read has = absurd has
part_read left failed old new limits p text (Err (run.NoSuchKey n)) read has = absurd has
part_read left failed old new limits p text (Err run.TooManySignatures) read has = absurd has
part_read left failed old new limits p text (Err run.OtherVerdicts) read has = absurd has
