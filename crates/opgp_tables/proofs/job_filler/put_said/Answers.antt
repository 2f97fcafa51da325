use Rattle.std.proofs.Common.{◌∙◌, ◌+◌, ◌≤◌, ℕ, List, length, ap, sym, subst}
use Rattle.std.specs.List.{flat_map}
use Rattle.opgp_packet.specs.SigView.{sig_view_value}
use Rattle.opgp_tables.specs.Filling.{put}
use Rattle.opgp_report.specs.IssuerName.{name_value}
use Rattle.opgp_tables.specs.Jobs.{name_octets}
use Rattle.opgp_tables.proofs.FilledJobs.{three_said}
use Rattle.opgp_tables.proofs.job_filler.put_said.Goals as goal

pub put_three-requires : goal.put_three-requires
put_three-requires c =
    subst (λ (l : List (List ℕ)). c.args.at + length (flat_map (λ (o : List ℕ). o) l) ≤ length c.args.bytes.now)
    (sym (three_said (sig_view_value c.args.view) c.parts_of.result c.name_octets_of-third.result.now (name_octets (name_value c.name_in-name.result)) c.parts_of.ensures c.name_in-name.ensures c.name_octets_of-third.ensures)) c.requires

pub returns-clause-put : goal.returns-clause-put
returns-clause-put c = c.put_three.ensures.put ∙ ap (λ (l : List (List ℕ)). put c.args.at (flat_map (λ (o : List ℕ). o) l) c.args.bytes.now)
    (three_said (sig_view_value c.args.view) c.parts_of.result c.name_octets_of-third.result.now (name_octets (name_value c.name_in-name.result)) c.parts_of.ensures c.name_in-name.ensures c.name_octets_of-third.ensures)

pub returns-clause-end : goal.returns-clause-end
returns-clause-end c = c.put_three.ensures.end ∙ ap (λ (l : List (List ℕ)). c.args.at + length (flat_map (λ (o : List ℕ). o) l))
    (three_said (sig_view_value c.args.view) c.parts_of.result c.name_octets_of-third.result.now (name_octets (name_value c.name_in-name.result)) c.parts_of.ensures c.name_in-name.ensures c.name_octets_of-third.ensures)
