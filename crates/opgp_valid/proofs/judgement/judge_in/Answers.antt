use Rattle.std.proofs.Common.{◌∙◌, ap}
use Rattle.opgp_valid.specs.Facts.{facts_value}
use Rattle.opgp_valid.specs.Judgement.{facts_by, judged}
use Rattle.opgp_valid.proofs.FoundKeys.{found_judgement}
use Rattle.opgp_valid.proofs.judgement.judge_in.Goals as goal

pub returns : goal.returns
returns c = λ r founds known here those.
    c.judged.ensures ∙ ap judged c.cause_of.ensures
    ∙ found_judgement r c.args.policy founds c.args.at c.args.made c.args.now c.args.certificate.now c.args.verdicts.now c.in-Some.key (facts_value c.facts.result) here those c.in-Some.ensures
    (c.facts.ensures ∙ c.in_ok-certified.ensures ∙ ap (λ l. facts_by l c.args.policy c.args.certificate.now c.args.verdicts.now) known)
