use Rattle.std.proofs.Common.{rules}
use Rattle.std.proofs.lemmas.Iterator.Search.{all_from_yields_List}
use Rattle.std.proofs.lemmas.Iterator.Splits.{YieldsList-from_slice_split}
use Rattle.opgp_handles.specs.UserIds.{is_atom, is_dot}
use Rattle.opgp_handles.proofs.user_ids.is_dot_atom.Goals as goal

pub returns : goal.returns
returns c =
    all_from_yields_List is_atom _ _ _ c.all.ensures.ran
    (YieldsList-from_slice_split _ is_dot c.args.octets.now c.split.ensures.rest c.split.ensures.done c.split.ensures.closure (λ x b q k. search rules)) (λ x b q k. search rules)
