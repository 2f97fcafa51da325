use Rattle.std.proofs.Common.{◌≡◌, ◌∙◌, [], ap, arith, rules}
use Rattle.hex.specs.Hex.{encode_upper}
use Rattle.std.proofs.lemmas.List.{nil_from_length}
use Rattle.opgp_io.proofs.Added.{all_left, less_left, nothing_left, broken_left, stop}
use Rattle.opgp_io.proofs.Texts.{upper-nil, upper_split}
use Rattle.opgp_io.proofs.output.Output.add_hex.Goals as goal

pub pieces-init : goal.pieces-init
pieces-init g c = record { same = search rules; sound = c.requires; but = all_left _ _ c.requires }

pub pieces-preserved : goal.pieces-preserved
pieces-preserved g c =
    let cut = upper_split c.pieces.rest.now c.split_at.result.0.now c.split_at.result.1.now c.min.result c.split_at.ensures.front c.split_at.ensures.back in
    let more = c.in_ok-add_digits.ensures.written in
    record {
      same = c.in_ok-add_digits.ensures.same ∙ c.pieces.invariant.same;
      sound = more.sound;
      but = less_left _ _ _ _ _ _ _ c.pieces.invariant.but cut more;
    }

pub returns-in_err-add_digits : goal.returns-in_err-add_digits
returns-in_err-add_digits g c =
    let cut = upper_split c.pieces.rest.now c.split_at.result.0.now c.split_at.result.1.now c.min.result c.split_at.ensures.front c.split_at.ensures.back in
    record {
      same = c.in_err-add_digits.ensures.same ∙ c.pieces.invariant.same;
      written = stop _ _ c.from_residual.result _ c.from_residual.ensures.0 (broken_left _ _ _ _ _ _ _ c.pieces.invariant.but cut c.in_err-add_digits.ensures.written);
    }

pub returns : goal.returns
returns g c =
    let none : c.pieces.rest.now ≡ [] = nil_from_length c.pieces.rest.now (omega arith) in
    record {
      same = c.pieces.invariant.same;
      written = nothing_left _ _ _ _ c.pieces.invariant.but (ap encode_upper none ∙ upper-nil);
    }
