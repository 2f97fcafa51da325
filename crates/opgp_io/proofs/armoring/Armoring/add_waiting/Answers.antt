use Rattle.std.proofs.Common.{refl, ap, length, arith}
use Rattle.std.proofs.lemmas.List.{nil_from_length}
use Rattle.opgp_io.specs.Armoring.{row_of}
use Rattle.opgp_io.proofs.Rows.{none_waited}
use Rattle.opgp_io.proofs.armoring.Armoring.add_waiting.Goals as goal

pub returns : goal.returns
returns g c =
    let e = ap length c.octets.ensures.value in
    record {
      same = refl;
      written = none_waited c.no_octets_have_no_data_lines.ensures _ _ c.requires (nil_from_length (row_of c.args.self.now) (omega arith));
    }
