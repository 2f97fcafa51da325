use Rattle.std.proofs.Common.{◌∙◌}
use Rattle.opgp_io.proofs.Added.{stop}
use Rattle.opgp_io.proofs.Loops.{more_of, broken_of}
use Rattle.opgp_explain.specs.Lines.{field_line}
use Rattle.opgp_explain.proofs.lines.add_fields.Goals as goal

pub returns-in_err-add_field : goal.returns-in_err-add_field
returns-in_err-add_field g c = record {
  same = c.in_err-add_field.ensures.same ∙ c.loop-field.invariant.same;
  written = stop _ _ c.from_residual.result _ c.from_residual.ensures.0 (broken_of (field_line c.args.octets.now) _ _ _ c.args.fields.now c.loop-field.field-index _ c.loop-field-test.true c.loop-field.invariant.added c.in_err-add_field.ensures.written);
}

pub loop-field-preserved : goal.loop-field-preserved
loop-field-preserved g c =
    let line = c.in_ok-add_field.ensures.written in
    record {
      same = c.in_ok-add_field.ensures.same ∙ c.loop-field.invariant.same;
      sound = line.sound;
      added = more_of (field_line c.args.octets.now) _ _ _ c.args.fields.now c.loop-field.field-index _ c.loop-field-test.true c.loop-field.invariant.added line;
    }
