use Rattle.std.proofs.Common.{◌≡◌, List, [], ℕ, ◌+◌, length, drop, Some, slice_index_or, arith, subst, is_some, sym, ap, ◌∙◌}
use Rattle.std.proofs.lemmas.Grind.{common_steps}
use Rattle.std.proofs.lemmas.List.{take_rest}
use Rattle.std.proofs.lemmas.Option.{some_pair_parts}
use Rattle.opgp_octets.specs.declared.fault.Reason.{Reason}
use Rattle.opgp_octets.specs.Octets.{IsOctets}
use Rattle.opgp_frame.specs.declared.spot.Spot.{Spot}
use Rattle.opgp_frame.specs.FormOf.{form_with}
use Rattle.opgp_frame.specs.Length.{LengthBegins, length_amount}
use Rattle.opgp_frame.specs.Whole.{LiesWhole}
use Rattle.opgp_frame.proofs.Wholes.{shows_whole, whole_lies}
use Rattle.opgp_frame.proofs.whole.whole_in.Goals as goal

pub returns-clause-whole : goal.returns-clause-whole
returns-clause-whole c =
    let octets = c.args.octets.now in
    let header = slice_index_or octets 0 0 in
    let begins : LengthBegins header (drop 1 octets) c.in_ok-last.last c.in_ok-last.size = subst (λ (o : List ℕ). LengthBegins header o c.in_ok-last.last c.in_ok-last.size) (take_rest octets 1) c.in_ok-last.ensures.found in
    let are : IsOctets octets = λ i. omega (arith, c.type_inv.octets i) in
    let none : c.new.result.items ≡ [] = grind (arith, common_steps) in
    let shape = c.form_of.ensures.exact (λ some. absurd (omega (arith, some, ap (length {A = ℕ}) none))) in
    let found : form_with [] c.in_ok-last.last ≡ Some c.in_ok-form.form = sym (subst (λ (ks : List ℕ). c.form_of.result ≡ form_with ks c.in_ok-last.last) none shape) ∙ c.in_ok-form.was in
    let spot : ℕ → Spot = λ kind. record { form = c.in_ok-form.form; kind = kind; from = 1 + c.in_ok-last.size; until = 1 + c.in_ok-last.size + c.amount-amount.result; block = c.args.block; pos = c.args.pos } in
    let lies = whole_lies c.args.limits octets c.in_ok-last.last c.in_ok-last.size c.amount-amount.result c.in_ok-form.form c.args.block c.args.pos (omega arith) are (grind (arith, common_steps)) begins (grind (arith, common_steps))
    c.amount-amount.ensures.value (omega arith) (omega arith) found in
    subst (λ (kind : ℕ). LiesWhole c.args.limits (spot kind) octets) (sym c.kind_in.ensures) lies

pub returns-then-is_some-clause-some : goal.returns-then-is_some-clause-some
returns-then-is_some-clause-some c h =
    let w = shows_whole c.args.limits c.args.octets.now h in
    sym (ap (is_some {T = Reason}) (c.header_fault.ensures ∙ w.read)) ∙ sym c.is_some.ensures ∙ c.if-is_some.true

pub returns-in_err-last-clause-some : goal.returns-in_err-last-clause-some
returns-in_err-last-clause-some c h =
    let w = shows_whole c.args.limits c.args.octets.now h in
    let none = c.in_err-last.was in
    let found = rw (take_rest c.args.octets.now 1) at c.read_length.ensures.exact in
    let there = w.found in
    absurd cc

pub returns-then-amount-octets-clause-some : goal.returns-then-amount-octets-clause-some
returns-then-amount-octets-clause-some c h =
    let w = shows_whole c.args.limits c.args.octets.now h in
    let found = rw (take_rest c.args.octets.now 1) at c.read_length.ensures.exact in
    let same = some_pair_parts c.in_ok-last.last w.last c.in_ok-last.size w.size (sym c.in_ok-last.was ∙ found ∙ w.found) in
    absurd (omega (arith, w.room, c.if-amount-octets.true, ap length_amount same.0, same.1, c.amount-amount.ensures.value))
