use Rattle.std.proofs.Common.{◌≡◌, ◌∙◌, List, ap, map}
use Rattle.opgp_packet.specs.SigView.{sig_view_value}
use Rattle.opgp_report.specs.declared.verifier.Verdict.{Verdict}
use Rattle.opgp_valid.specs.Believed.{belief_of}
use Rattle.opgp_handles.specs.Standings.{verdict_by}
use Rattle.opgp_handles.proofs.BeliefsAt.{believed_rows, ok_same}
use Rattle.opgp_handles.proofs.beliefs_at.believed_by.Goals as goal

pub returns : goal.returns
returns c =
    let verdicts : c.deref.result.now ≡ map verdict_by c.args.numbers.now = c.deref.ensures.value ∙ c.in_ok-verdicts.ensures in
    ok_same c.numbers_of.result _ _
    (believed_rows c.args.is_message c.args.keyring.now c.args.policy c.args.numbers.now c.args.now (sig_view_value c.args.signature) c.args.rows.now c.deref-2.result.now c.deref-3.result.now
    (c.deref-2.ensures.value ∙ c.in_ok-places.ensures)
    (c.deref-3.ensures.value ∙ c.in_ok-beliefs.ensures ∙ ap (λ (vs : List Verdict). map (λ at. belief_of c.args.keyring.now c.args.policy vs at c.args.now (sig_view_value c.args.signature)) c.deref-2.result.now) verdicts))
    c.numbers_of.ensures
