use Rattle.std.proofs.Common.{◌∙◌, ap}
use Rattle.opgp_report.specs.First.{print_of}
use Rattle.opgp_state.proofs.Heard.{all_serve, heard_serve}
use Rattle.opgp_state.proofs.claims.own_claims.Goals as goal

pub returns-then-not-own : goal.returns-then-not-own
returns-then-not-own c = heard_serve c.args.certificate.now c.print_of-primary.result c.in_ok-own.own.names_revokers c.in_ok-own.own.verdicts.items (c.print_of-primary.ensures ∙ ap print_of c.key.ensures) c.if-not-own.true c.in_ok-own.ensures.verdicts c.in_ok-own.ensures.revokers

pub returns : goal.returns
returns c = all_serve c.args.certificate.now c.in_ok-verdicts.field-0.verdicts.items c.in_ok-verdicts.ensures.verdicts
