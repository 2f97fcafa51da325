use Rattle.std.proofs.Common.{◌≡◌, ◌∙◌, ℕ, List, Bool, Err, true, false, nat_eq, if◌then◌else◌, sym, ap}
use Rattle.std.specs.List.{starts_with}
use Rattle.std.specs.Str.{bytes_eq}
use Rattle.opgp_armor.specs.Text.{begin_mark}
use Rattle.opgp_octets.specs.declared.fault.Reason.TheVariants as reason
use Rattle.opgp_cleartext.specs.Cleartext.{message_line}
use Rattle.opgp_cleartext.specs.Machine.{front_end}
use Rattle.opgp_cleartext.proofs.Cutting.{front_other}
use Rattle.opgp_cleartext.proofs.reading.ends_front.Goals as goal

pub returns-then-starts_with : goal.returns-then-starts_with
returns-then-starts_with c =
    let l : List ℕ = c.args.line.now in
    let r : List ℕ = c.content_of-content.result.now in
    let no : bytes_eq r message_line ≡ false = ap (λ (x : List ℕ). bytes_eq r x) (sym c.as_slice.ensures) ∙ sym c.eq.ensures ∙ c.if-eq.false in
    let mark : starts_with nat_eq l begin_mark ≡ true = ap (λ (x : List ℕ). starts_with nat_eq l x) (sym c.as_slice-2.ensures) ∙ sym c.starts_with.ensures.value ∙ c.if-starts_with.true in
    sym (ap (λ (x : List ℕ). front_end l x) (sym c.content_of-content.ensures) ∙ front_other l r (λ z. c.if-content-eq0.false z) no
    ∙ ap (λ (b : Bool). Err (if b then reason.Label else reason.Outside)) mark)

pub returns-else-starts_with : goal.returns-else-starts_with
returns-else-starts_with c =
    let l : List ℕ = c.args.line.now in
    let r : List ℕ = c.content_of-content.result.now in
    let no : bytes_eq r message_line ≡ false = ap (λ (x : List ℕ). bytes_eq r x) (sym c.as_slice.ensures) ∙ sym c.eq.ensures ∙ c.if-eq.false in
    let mark : starts_with nat_eq l begin_mark ≡ false = ap (λ (x : List ℕ). starts_with nat_eq l x) (sym c.as_slice-2.ensures) ∙ sym c.starts_with.ensures.value ∙ c.if-starts_with.false in
    sym (ap (λ (x : List ℕ). front_end l x) (sym c.content_of-content.ensures) ∙ front_other l r (λ z. c.if-content-eq0.false z) no
    ∙ ap (λ (b : Bool). Err (if b then reason.Label else reason.Outside)) mark)
