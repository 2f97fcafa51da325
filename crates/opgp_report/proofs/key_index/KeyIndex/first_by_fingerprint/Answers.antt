use Rattle.std.proofs.Common.{rules, ◌∙◌}
use Rattle.opgp_report.proofs.FirstLaws.{print_found, no_four, no_six, no_other}
use Rattle.opgp_report.proofs.key_index.KeyIndex.first_by_fingerprint.Goals as goal

pub returns-in-Ok : goal.returns-in-Ok
returns-in-Ok c =
    print_found c.copied.result c.args.self.now.four c.args.self.now.prints.items c.args.version 4 c.args.octets.now c.in-Ok.four c.args.self.now.fours c.if-version-eq4.true c.in-Ok.ensures.1.same (c.copied.ensures ∙ c.get.ensures.value)

pub returns-in-Err : goal.returns-in-Err
returns-in-Err c = no_four c.args.version c.args.octets.now c.args.self.now.prints.items c.args.self.now.sized c.if-version-eq4.true c.in-Err.ensures.1

pub returns-in-Ok-try_from : goal.returns-in-Ok-try_from
returns-in-Ok-try_from c =
    print_found c.copied-in-Ok-try_from.result c.args.self.now.six c.args.self.now.prints.items c.args.version 6 c.args.octets.now c.in-Ok-try_from.six c.args.self.now.sixes c.if-version-eq6.true c.in-Ok-try_from.ensures.1.same (c.copied-in-Ok-try_from.ensures ∙ c.get-in-Ok-try_from.ensures.value)

pub returns-in-Err-try_from : goal.returns-in-Err-try_from
returns-in-Err-try_from c = no_six c.args.version c.args.octets.now c.args.self.now.prints.items c.args.self.now.sized c.if-version-eq6.true c.in-Err-try_from.ensures.1

pub returns-else-version-eq6 : goal.returns-else-version-eq6
returns-else-version-eq6 c = no_other c.args.version c.args.octets.now c.args.self.now.prints.items c.args.self.now.sized (search rules) (search rules)
