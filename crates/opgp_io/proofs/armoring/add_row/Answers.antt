use Rattle.std.proofs.Common.{◌∙◌, ◌++◌, ◌∷◌, [], ℕ, List, sym, ap}
use Rattle.opgp_io.proofs.Added.{writes_same}
use Rattle.opgp_io.proofs.armoring.add_row.Goals as goal

pub returns : goal.returns
returns g c =
    let line = c.a_row_has_one_data_line.ensures c.args.row.now c.requires.some c.requires.short in
    let letters = ap (λ (v : List ℕ). v ++ 10 ∷ []) c.encode_row-count.ensures.letters in
    record {
      same = c.add_line.ensures.same;
      written = writes_same _ _ c.add_line.result _ _ (letters ∙ sym line) c.add_line.ensures.written;
    }
