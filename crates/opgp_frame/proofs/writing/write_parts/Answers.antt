use Rattle.std.proofs.Common.{refl, arith}
use Rattle.std.proofs.lemmas.Grind.{common_steps}
use Rattle.opgp_frame.proofs.writing.write_parts.Goals as goal

pub returns-in_err-reserve-clause-full : goal.returns-in_err-reserve-clause-full
returns-in_err-reserve-clause-full c =
    let size = c.spelled_len_of.ensures c.args.kind c.args.body.now refl in
    grind (arith, common_steps, size)

pub append-requires : goal.append-requires
append-requires c =
    let size = c.spelled_len_of.ensures c.args.kind c.args.body.now refl in
    grind (arith, common_steps, size)
