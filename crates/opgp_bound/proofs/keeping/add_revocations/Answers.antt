use Rattle.std.proofs.Common.{◌∙◌, ◌-◌, ◌++◌, List, length, take, drop, ap}
use Rattle.std.specs.Prelude.{if◌then◌else◌, [], ◌∷◌}
use Rattle.opgp_keyring.specs.Keyring.{certificate_packets}
use Rattle.opgp_bound.specs.Bound.{revokes}
use Rattle.opgp_bound.specs.Judged.{JudgedValue}
use Rattle.opgp_bound.proofs.Kept.{Hung, first_rest, packets_more, rest_are}
use Rattle.opgp_bound.proofs.keeping.add_revocations.Goals as goal

pub hangs-preserved : goal.hangs-preserved
hangs-preserved c =
    let rest : List JudgedValue = c.hangs.rest.now in
    let more : List JudgedValue = take (length rest - 1) (drop 1 rest) in
    let j : JudgedValue = c.judged-item.result in
    let e = first_rest rest j c.in-len1-up.len_at_least c.judged-item.is in
    record {
      hung = rest_are Hung rest more j e c.hangs.invariant.hung;
      value = packets_more (λ k. revokes k.role) rest more j c.revokes.result (certificate_packets c.hangs.chosen) (certificate_packets c.add_if.new.chosen) e
          (c.revokes.ensures ∙ ap (λ (k : JudgedValue). revokes k.role) c.judged.view_is)
          (c.in_ok-add_if.ensures ∙ ap (λ (k : JudgedValue). certificate_packets c.hangs.chosen ++ (if c.revokes.result then k.packet ∷ [] else [])) c.judged.view_is)
          ∙ c.hangs.invariant.value;
    }
