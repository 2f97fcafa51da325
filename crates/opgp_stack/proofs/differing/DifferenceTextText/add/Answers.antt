use Rattle.std.proofs.Common.{List, ◌++◌, codes, sym, ap}
use Rattle.std.specs.List.{flat_map}
use Rattle.opgp_difference.specs.Entries.{PlacedValue}
use Rattle.opgp_io.proofs.Extended.{extends_stop, extends_then}
use Rattle.opgp_stack.specs.Differing.{changed_line}
use Rattle.opgp_stack.proofs.differing.DifferenceTextText.add.Goals as goal

pub returns-in_err-add_changes : goal.returns-in_err-add_changes
returns-in_err-add_changes g c =
    let d = c.args.self.difference.now in
    extends_stop (flat_map (changed_line (codes "new ") c.args.self.new.now) d.new.items)
    (ap (λ (l : List PlacedValue). flat_map (changed_line (codes "gone ") c.args.self.old.now) l ++ flat_map (changed_line (codes "new ") c.args.self.new.now) d.new.items) (sym c.deref.ensures.value))
    c.from_residual.ensures.0 c.in_err-add_changes.ensures

pub returns : goal.returns
returns g c =
    extends_then
    (λ i. flat_map (changed_line (codes "gone ") c.args.self.old.now) (sym c.deref.ensures.value i) ++ flat_map (changed_line (codes "new ") c.args.self.new.now) (sym c.deref-2.ensures.value i))
    c.in_ok-add_changes.ensures c.add_changes-2.ensures
