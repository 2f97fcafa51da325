use Rattle.std.proofs.Common.{◌∙◌}
use Rattle.opgp_report.proofs.NamedKeys.{one_more}
use Rattle.opgp_report.proofs.signers.Signers.with.Goals as goal

-- the fingerprints are those of the keys, with the new one
pub invariant_of-result : goal.invariant_of-result
invariant_of-result c = record {
  named = c.in_ok-names.ensures ∙ one_more c.args.self.keys.items c.push.new.self.items _ _ _ c.in_ok-push.ensures.items c.args.self.named c.print_of-print.ensures;
}
