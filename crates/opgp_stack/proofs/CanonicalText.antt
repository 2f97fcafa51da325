-- The canonical text of a document, as its pieces come.
use Rattle.std.proofs.Common.{◌≡◌, ◌∙◌, ℕ, ◌^◌, ◌<◌, ◌≤◌, ◌⊎◌, inl, inr, Bool, true, false, List, [], ◌∷◌, ◌++◌, length, Option, Some, None, is_some, Result, Ok, Err, sym, ap, subst, arith, append_assoc, append-nil, length-append}
use Rattle.opgp_octets.specs.Limits.{input_limit}
use Rattle.opgp_octets.specs.declared.fault.Fault.{Fault}
use Rattle.opgp_octets.specs.declared.limits.Limits.{Limits}
use Rattle.opgp_document.specs.CanonicalText.{IsRead, TellsStray}
use Rattle.opgp_document.specs.Text.{IsStrayAt, ends_cr, to_text}
use Rattle.opgp_document.proofs.Text.{text_append}
use Rattle.opgp_codec.specs.Pulled.{OfAll}
use Rattle.opgp_codec.specs.Reading.{too_long}
use Rattle.opgp_codec.specs.declared.draft.Draft.{Draft}
use Rattle.opgp_document.specs.StrayReturn.{text_fault}
use Rattle.opgp_stack.specs.Canonical.{HasTextOf, IsEndOf, IsHeldOf, IsTextBy, IsTextOf, OfText}
use Rattle.opgp_stack.specs.Running.{ReadsFor, Refused}
use Rattle.opgp_stack.specs.declared.run_fault.RunFault.{RunFault}
use Rattle.opgp_stack.specs.declared.run_fault.RunFault.TheVariants as run
use Rattle.opgp_codec.proofs.Pulling.{of_all}
use Rattle.opgp_stack.specs.declared.canonical.TextDraft.{TextDraft}

-- a stray carriage return stays one, whatever comes
pub still_stray : {S : Type 0} (has : Draft S → List ℕ → Type 0) (t : TextDraft S) (stray : Option ℕ) (document piece : List ℕ) → is_some stray ≡ true → IsTextBy has t stray document → IsTextBy has t stray (document ++ piece)
still_stray has t None document piece some h = absurd cc
still_stray has t (Some pos) document piece some h = λ more. subst (λ (l : List ℕ). TellsStray l pos) (sym (append_assoc document piece more)) (h (piece ++ more))

-- in a document within the limits it is told where it is
pub told_place : (limits : Limits) (document : List ℕ) (pos : ℕ) → length document ≤ input_limit limits → input_limit limits < 2 ^ 63 → TellsStray document pos → IsStrayAt document pos
told_place limits document pos within small t =
    let long : length document ≡ length (t.is_stray.front ++ (13 ∷ t.is_stray.rest)) = ap (λ (l : List ℕ). length l) t.is_stray.whole in
    let same : t.place ≡ pos = omega (arith, within, small, long, length-append t.is_stray.front (13 ∷ t.is_stray.rest), t.is_stray.at, t.told) in
    subst (IsStrayAt document) same t.is_stray

-- ---- while the document comes
-- what is held, where none was stray
pub text_so_far : {S : Type 0} (has : Draft S → List ℕ → Type 0) (t : TextDraft S) (stray : Option ℕ) (document : List ℕ) → is_some stray ≡ false → IsTextBy has t stray document → IsRead t.canonical document × has t.draft (to_text false document)
text_so_far has t None document none h = h
text_so_far has t (Some pos) document none h = absurd cc

pub none_stray : {S : Type 0} (has : Draft S → List ℕ → Type 0) (t : TextDraft S) (stray : Option ℕ) (document : List ℕ) → is_some stray ≡ false → IsRead t.canonical document × has t.draft (to_text false document) → IsTextBy has t stray document
none_stray has t None document none h = h
none_stray has t (Some pos) document none h = absurd cc

-- the text of one more piece
pub text_of_more : (document piece items : List ℕ) → items ≡ [] ++ to_text (ends_cr false document) piece → to_text false document ++ items ≡ to_text false (document ++ piece)
text_of_more document piece items e = ap (λ (l : List ℕ). to_text false document ++ l) e ∙ sym (text_append false document piece)

-- where it is stray
pub stray_told : {S : Type 0} (has : Draft S → List ℕ → Type 0) (t : TextDraft S) (stray : Option ℕ) (pos : ℕ) (document : List ℕ) → stray ≡ Some pos → IsTextBy has t stray document → TellsStray document pos
stray_told has t None pos document e h = cc
stray_told has t (Some place) pos document e h =
    let same : place ≡ pos = cc in
    subst (TellsStray document) same (subst (λ (l : List ℕ). TellsStray l place) (append-nil document) (h []))

-- ---- the end
pub text_of_held : {R S : Type 0} (left : R → Option (List ℕ)) (failed : R → Bool) (old new : R) (limits : Limits) (has : Draft S → List ℕ → Type 0) (t : TextDraft S) (result : Result (Draft S) RunFault) → ((document : List ℕ) → HasTextOf has t document → IsEndOf has document result)
    → OfAll left failed old new limits (λ octets. IsHeldOf has limits t octets (Ok tt)) → ReadsFor (λ answer. OfAll left failed old new limits (λ octets. IsTextOf has limits octets answer)) (failed new ≡ true) (failed new ≡ false) result
text_of_held left failed old new limits has t (Ok draft) end all =
    of_all left failed old new limits _ _ (λ octets h. let e = end octets h.1 in (h.0, e.0, e.1, e.2)) all
text_of_held left failed old new limits has t (Err (run.Refused fault)) end all =
    of_all left failed old new limits _ _ (λ octets h. let e = end octets h.1 in inl (h.0, e.0, told_place limits octets e.0 h.0 h.2 e.1, e.2)) all
text_of_held left failed old new limits has t (Err run.Read) end all = absurd (end all.came.0 all.came.2.1)
text_of_held left failed old new limits has t (Err run.Write) end all = absurd (end all.came.0 all.came.2.1)
text_of_held left failed old new limits has t (Err run.Memory) end all = absurd (end all.came.0 all.came.2.1)
text_of_held left failed old new limits has t (Err run.Spool) end all = absurd (end all.came.0 all.came.2.1)
text_of_held left failed old new limits has t (Err run.NoSuchRow) end all = absurd (end all.came.0 all.came.2.1)
text_of_held left failed old new limits has t (Err run.NoSuchCertificate) end all = absurd (end all.came.0 all.came.2.1)
text_of_held left failed old new limits has t (Err (run.NoSuchKey n)) end all = absurd (end all.came.0 all.came.2.1)
text_of_held left failed old new limits has t (Err run.TooManySignatures) end all = absurd (end all.came.0 all.came.2.1)
text_of_held left failed old new limits has t (Err run.OtherVerdicts) end all = absurd (end all.came.0 all.came.2.1)

-- what is made of a document that is refused
pub refused_text : (limits : Limits) (document : List ℕ) (fault : Fault) → ((length document ≤ input_limit limits) × (pos : ℕ) × IsStrayAt document pos × (fault ≡ text_fault pos)) ⊎ ((input_limit limits < length document) × (fault ≡ too_long limits)) → OfText limits document (Refused fault)
refused_text limits document fault (inl h) = inr (inl (h.0, h.1, h.2, ap Refused h.3))
refused_text limits document fault (inr h) = inr (inr (h.0, ap Refused h.1))
