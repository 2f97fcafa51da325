use Rattle.std.proofs.Common.{◌≡◌, ◌++◌, ◌∙◌, List, ℕ, sym, ap, append_assoc}
use Rattle.opgp_frame.specs.Spelling.{octets_left, octets_of_header}
use Rattle.opgp_io.proofs.Rows.{broken_at}
use Rattle.opgp_codec.proofs.Ways.{via_all_left, via_less_left, via_broken_left}
use Rattle.opgp_codec.proofs.via.add_packet.Goals as goal

-- a header, a piece and what is left
cut : (header slice piece left more : List ℕ) → slice ≡ header → left ≡ header ++ (piece ++ more) → left ≡ (slice ++ piece) ++ more
cut header slice piece left more e h = h ∙ sym (append_assoc header piece more) ∙ ap (λ (l : List ℕ). (l ++ piece) ++ more) (sym e)

pub parts-preserved : goal.parts-preserved
parts-preserved g c =
    via_less_left c.parts.invariant (cut (octets_of_header c.in-Some.header) _ c.in-Some.piece.now _ (octets_left c.next.new.self) c.as_slice.ensures.value c.in-Some.ensures.next) c.in_ok-add_part.ensures

pub returns-in_err-add_part : goal.returns-in_err-add_part
returns-in_err-add_part g c = broken_at _ c.from_residual.result c.from_residual.ensures.0
    (rw (c.new-spelling.ensures, c.form-form.ensures.value, c.kind.ensures, c.body.ensures) at (via_broken_left (octets_left c.next.new.self) c.parts.invariant (cut (octets_of_header c.in-Some.header) _ c.in-Some.piece.now _ (octets_left c.next.new.self) c.as_slice.ensures.value c.in-Some.ensures.next) c.in_err-add_part.ensures))

pub parts-init : goal.parts-init
parts-init g c = via_all_left c.requires
