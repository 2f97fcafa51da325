use Rattle.std.proofs.Common.{ℕ, length, sym, ap, subst, refl, ◌∙◌, arith, inl, inr}
use Rattle.std.proofs.lemmas.Bool.{cases_lt, false≢true}
use Rattle.std.proofs.lemmas.List.{get_or_past}
use Rattle.opgp_octets.specs.Octets.{IsOctets}
use Rattle.opgp_frame.specs.Packet.{PacketValue, IsPacket}
use Rattle.opgp_frame.specs.Unfinished.{IsWhole}
use Rattle.opgp_frame.proofs.Made.{packet_whole, form_fits, begun_pieces}
use Rattle.opgp_frame.proofs.parts.placed.Goals as goal

pub returns-in_err-packet-clause-whole : goal.returns-in_err-packet-clause-whole
returns-in_err-packet-clause-whole c limits from until rest at full last =
    let body = c.args.body.items in
    let octets : IsOctets body = λ i. elim (cases_lt i (length body)) [ inl lt ↦ omega arith | inr le ↦ rw (get_or_past body i 0 le) (omega arith) ] in
    let shape = c.form_of.ensures.exact (begun_pieces limits c.args.header c.args.exponents.items at.begun) in
    let is = form_fits limits c.args.header c.args.exponents.items c.args.last c.in_ok-form.form at.begun at.under last (sym shape ∙ c.in_ok-form.was) in
    let whole = packet_whole limits c.args.header c.args.last from until c.args.exponents.items body rest c.in_ok-form.form at full octets is in
    let with_kind : ℕ → PacketValue = λ k. record { form = c.in_ok-form.form; kind = k; body = body } in
    absurd (false≢true (c.in_err-packet.ensures.some.1 (subst (λ (k : ℕ). IsPacket (with_kind k)) (sym c.kind_in.ensures) whole.allowed.packet)))

pub returns-clause-whole : goal.returns-clause-whole
returns-clause-whole c limits from until rest at full last =
    let body = c.args.body.items in
    let octets : IsOctets body = λ i. elim (cases_lt i (length body)) [ inl lt ↦ omega arith | inr le ↦ rw (get_or_past body i 0 le) (omega arith) ] in
    let shape = c.form_of.ensures.exact (begun_pieces limits c.args.header c.args.exponents.items at.begun) in
    let is = form_fits limits c.args.header c.args.exponents.items c.args.last c.in_ok-form.form at.begun at.under last (sym shape ∙ c.in_ok-form.was) in
    let whole = packet_whole limits c.args.header c.args.last from until c.args.exponents.items body rest c.in_ok-form.form at full octets is in
    let with_kind : ℕ → PacketValue = λ k. record { form = c.in_ok-form.form; kind = k; body = body } in
    (refl, refl, subst (IsWhole limits rest) (sym (c.in_ok-packet.ensures.value ∙ ap with_kind c.kind_in.ensures)) whole)
