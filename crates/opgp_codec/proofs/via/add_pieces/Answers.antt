use Rattle.std.proofs.Common.{◌≡◌, ◌∷◌, ◌++◌, ◌∙◌, List, ℕ, ap, sym}
use Rattle.std.specs.Global.{Vec}
use Rattle.std.proofs.lemmas.List.{nil_from_length}
use Rattle.opgp_io.specs.Held.{pieces_octets}
use Rattle.opgp_io.proofs.Rows.{broken_at}
use Rattle.opgp_codec.proofs.Ways.{via_all_left, via_less_left, via_broken_left, via_nothing_left}
use Rattle.opgp_codec.proofs.via.add_pieces.Goals as goal

-- a piece, and those that are left
cut : (pieces more : List (Vec ℕ)) (piece : Vec ℕ) (octets : List ℕ) → pieces ≡ piece ∷ more → octets ≡ piece.items → pieces_octets pieces ≡ octets ++ pieces_octets more
cut pieces more piece octets e d = ap pieces_octets e ∙ ap (λ (o : List ℕ). o ++ pieces_octets more) (sym d)

pub pieces-init : goal.pieces-init
pieces-init g c = via_all_left c.requires

pub pieces-preserved : goal.pieces-preserved
pieces-preserved g c = via_less_left c.pieces.invariant (cut _ _ _ _ c.in-Some.ensures.cases.0 c.deref.ensures.value) c.in_ok-add.ensures

pub returns-in_err-add : goal.returns-in_err-add
returns-in_err-add g c = broken_at _ c.from_residual.result c.from_residual.ensures.0 (via_broken_left (pieces_octets c.in-Some.more.now) c.pieces.invariant (cut _ _ _ _ c.in-Some.ensures.cases.0 c.deref.ensures.value) c.in_err-add.ensures)

pub returns : goal.returns
returns g c = via_nothing_left c.pieces.invariant (ap pieces_octets (nil_from_length c.pieces.rest.now c.in_default.ensures.cases))
