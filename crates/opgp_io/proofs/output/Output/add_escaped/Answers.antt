use Rattle.std.proofs.Common.{◌≡◌, ◌∙◌, ◌-◌, ℕ, List, [], ap, refl, arith, rules, length, take, drop, slice_index}
use Rattle.std.proofs.lemmas.List.{nil_from_length, take_rest}
use Rattle.opgp_io.specs.Texts.{escaped}
use Rattle.opgp_io.proofs.Added.{all_left, less_left, nothing_left, broken_left, stop}
use Rattle.opgp_io.proofs.Texts.{escaped-nil, run_split, escape_split}
use Rattle.opgp_io.proofs.output.Output.add_escaped.Goals as goal

pub runs-init : goal.runs-init
runs-init g c = record { same = search rules; sound = c.requires; but = all_left _ _ c.requires }

pub runs-preserved : goal.runs-preserved
runs-preserved g c =
    let cut = run_split c.runs.rest.now c.split_at.result.0.now c.split_at.result.1.now c.plain_len.result c.split_at.ensures.front c.split_at.ensures.back c.plain_len.ensures.plain in
    let run = c.in_ok-add.ensures.written in
    let other = c.in_ok-add_escape.ensures.written in
    let after : List ℕ = c.split_at.result.1.now in
    let cut2 = escape_split after (slice_index after 0) (take (length after - 1) (drop 1 after)) (omega arith) refl (take_rest after 1) in
    record {
      same = c.in_ok-add_escape.ensures.same ∙ c.in_ok-add.ensures.same ∙ c.runs.invariant.same;
      sound = other.sound;
      but = less_left _ _ _ _ _ _ _ (less_left _ _ _ _ _ _ _ c.runs.invariant.but cut run) cut2 other;
    }

pub returns-in_err-add : goal.returns-in_err-add
returns-in_err-add g c =
    let cut = run_split c.runs.rest.now c.split_at.result.0.now c.split_at.result.1.now c.plain_len.result c.split_at.ensures.front c.split_at.ensures.back c.plain_len.ensures.plain in
    record {
      same = c.in_err-add.ensures.same ∙ c.runs.invariant.same;
      written = stop _ _ c.from_residual.result _ c.from_residual.ensures.0 (broken_left _ _ _ _ _ _ _ c.runs.invariant.but cut c.in_err-add.ensures.written);
    }

pub returns-then-after-eq0 : goal.returns-then-after-eq0
returns-then-after-eq0 g c =
    let cut = run_split c.runs.rest.now c.split_at.result.0.now c.split_at.result.1.now c.plain_len.result c.split_at.ensures.front c.split_at.ensures.back c.plain_len.ensures.plain in
    let none : c.split_at.result.1.now ≡ [] = nil_from_length c.split_at.result.1.now (omega arith) in
    record {
      same = c.in_ok-add.ensures.same ∙ c.runs.invariant.same;
      written = nothing_left _ _ _ _ (less_left _ _ _ _ _ _ _ c.runs.invariant.but cut c.in_ok-add.ensures.written) (ap escaped none ∙ escaped-nil);
    }

pub returns-in_err-add_escape : goal.returns-in_err-add_escape
returns-in_err-add_escape g c =
    let cut = run_split c.runs.rest.now c.split_at.result.0.now c.split_at.result.1.now c.plain_len.result c.split_at.ensures.front c.split_at.ensures.back c.plain_len.ensures.plain in
    let run = c.in_ok-add.ensures.written in
    let other = c.in_err-add_escape.ensures.written in
    let after : List ℕ = c.split_at.result.1.now in
    let cut2 = escape_split after (slice_index after 0) (drop 1 after) (omega arith) refl refl in
    record {
      same = c.in_err-add_escape.ensures.same ∙ c.in_ok-add.ensures.same ∙ c.runs.invariant.same;
      written = stop _ _ c.from_residual-in_err-add_escape.result _ c.from_residual-in_err-add_escape.ensures.0 (broken_left _ _ _ _ _ _ _ (less_left _ _ _ _ _ _ _ c.runs.invariant.but cut run) cut2 other);
    }

pub returns : goal.returns
returns g c =
    let none : c.runs.rest.now ≡ [] = nil_from_length c.runs.rest.now (omega arith) in
    record {
      same = c.runs.invariant.same;
      written = nothing_left _ _ _ _ c.runs.invariant.but (ap escaped none ∙ escaped-nil);
    }
