use Rattle.std.proofs.Common.{List, All, sym, ap, subst, ◌∙◌}
use Rattle.opgp_bound.specs.Judged.{JudgedComponentValue, JudgedValue}
use Rattle.opgp_bound.proofs.Kept.{Hung}
use Rattle.opgp_bound.proofs.keeping.add_if_staying.Goals as goal

pub add_kept-requires : goal.add_kept-requires
add_kept-requires c =
    let P : List JudgedValue → Type 0 = λ l. All Hung l in
    subst P (sym (c.deref.ensures.value ∙ ap (λ (d : JudgedComponentValue). d.hangs) c.component.view_is)) c.requires.hangs
