use Rattle.std.proofs.Common.{◌∙◌, ◌+◌, ◌++◌, ℕ, List, [], Ok, ap, append-nil, length, map, subst}
use Rattle.std.specs.declared.alloc.AllocError.{AllocError}
use Rattle.opgp_frame.specs.Packet.{PacketValue}
use Rattle.opgp_keyring.specs.Keyring.{CertificateValue}
use Rattle.opgp_report.specs.Standing.{Standing, certificate_standing}
use Rattle.opgp_state.specs.Places.{placed}
use Rattle.opgp_state.specs.Placing.{AddsPlaces}
use Rattle.opgp_state.specs.declared.row_place.RowPlace.{RowPlace}
use Rattle.opgp_state.proofs.Placements.{certificate_more, none_added}
use Rattle.opgp_state.proofs.placing.Placing.with_certificate.Goals as goal

pub returns : goal.returns
returns c parts so =
    let whole : CertificateValue = c.args.certificate.now in
    let here : List Standing = certificate_standing 0 whole in
    let added : AddsPlaces {E = AllocError} c.in_ok-maker.maker here (Ok c.visit_certificate.new.visitor) =
    subst (λ (l : List Standing). AddsPlaces {E = AllocError} c.in_ok-maker.maker l (Ok c.visit_certificate.new.visitor)) (append-nil here)
    (c.in_ok-visit_certificate.ensures [] (Ok c.visit_certificate.new.visitor) (none_added AllocError c.visit_certificate.new.visitor)) in
    certificate_more c.args.self _ parts whole (c.in_ok-behind.ensures ∙ ap (λ (l : List PacketValue). c.args.self.packets + length l) c.packets.ensures.value)
    (added whole c.in_ok-maker.ensures.heads ∙ ap (λ (l : List RowPlace). l ++ map (λ s. placed c.in_ok-maker.maker.first whole s.place) here) c.in_ok-maker.ensures.places
    ∙ ap (λ (n : ℕ). c.args.self.places.items ++ map (λ s. placed n whole s.place) here) c.in_ok-maker.ensures.first) so
