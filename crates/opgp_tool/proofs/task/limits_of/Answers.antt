use Rattle.std.proofs.Common.{◌≡◌, rules, None}
use Rattle.clap.specs.Words.{found_of, rows_of}
use Rattle.opgp_octets.specs.declared.limits.Limits.{Limits}
use Rattle.opgp_octets.specs.Limits.{line_limit, body_limit, cert_limit, input_limit, pieces_limit}
use Rattle.opgp_tool.specs.Words.{HasLimits}
use Rattle.opgp_tool.proofs.Reading.{always, where_none}
use Rattle.opgp_tool.proofs.task.limits_of.Goals as goal

pub returns-in_err-line-clause-none : goal.returns-in_err-line-clause-none
returns-in_err-line-clause-none c =
    let none : c.number_of.result ≡ None = search rules in
    let no_limits : (limits : Limits) → HasLimits (rows_of (found_of c.args.matches.now)) limits → ⊥ =
    λ limits said. where_none _ none c.number_of.ensures.none (line_limit limits) said.line in
    always _ no_limits

pub returns-in_err-body-clause-none : goal.returns-in_err-body-clause-none
returns-in_err-body-clause-none c =
    let none : c.number_of-2.result ≡ None = search rules in
    let no_limits : (limits : Limits) → HasLimits (rows_of (found_of c.args.matches.now)) limits → ⊥ =
    λ limits said. where_none _ none c.number_of-2.ensures.none (body_limit limits) said.body in
    always _ no_limits

pub returns-in_err-cert-clause-none : goal.returns-in_err-cert-clause-none
returns-in_err-cert-clause-none c =
    let none : c.number_of-3.result ≡ None = search rules in
    let no_limits : (limits : Limits) → HasLimits (rows_of (found_of c.args.matches.now)) limits → ⊥ =
    λ limits said. where_none _ none c.number_of-3.ensures.none (cert_limit limits) said.cert in
    always _ no_limits

pub returns-in_err-input-clause-none : goal.returns-in_err-input-clause-none
returns-in_err-input-clause-none c =
    let none : c.number_of-4.result ≡ None = search rules in
    let no_limits : (limits : Limits) → HasLimits (rows_of (found_of c.args.matches.now)) limits → ⊥ =
    λ limits said. where_none _ none c.number_of-4.ensures.none (input_limit limits) said.input in
    always _ no_limits

pub returns-in_err-pieces-clause-none : goal.returns-in_err-pieces-clause-none
returns-in_err-pieces-clause-none c =
    let none : c.number_of-5.result ≡ None = search rules in
    let no_limits : (limits : Limits) → HasLimits (rows_of (found_of c.args.matches.now)) limits → ⊥ =
    λ limits said. where_none _ none c.number_of-5.ensures.none (pieces_limit limits) said.pieces in
    always _ no_limits
