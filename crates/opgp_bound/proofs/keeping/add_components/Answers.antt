use Rattle.std.proofs.Common.{◌∙◌, ◌-◌, List, length, take, drop}
use Rattle.opgp_keyring.specs.Keyring.{certificate_packets}
use Rattle.opgp_bound.specs.Judged.{IsJudgedComponent, JudgedComponentValue}
use Rattle.opgp_bound.proofs.Kept.{components_more, first_rest, rest_are}
use Rattle.opgp_bound.proofs.keeping.add_components.Goals as goal

pub components-preserved : goal.components-preserved
components-preserved c =
    let rest : List JudgedComponentValue = c.components.rest.now in
    let more : List JudgedComponentValue = take (length rest - 1) (drop 1 rest) in
    let d : JudgedComponentValue = c.component-item.result in
    let e = first_rest rest d c.in-len1-up.len_at_least c.component-item.is in
    record {
      sound = rest_are IsJudgedComponent rest more d e c.components.invariant.sound;
      value = components_more rest more d (certificate_packets c.components.chosen) (certificate_packets c.add_if_staying.new.chosen) e c.in_ok-add_if_staying.ensures ∙ c.components.invariant.value;
    }
