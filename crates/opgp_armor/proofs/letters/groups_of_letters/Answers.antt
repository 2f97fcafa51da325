use Rattle.std.proofs.Common.{subst, arith}
use Rattle.base64.specs.Engines.{standard}
use Rattle.base64.specs.GeneralPurpose.{IsDecodeFailure}
use Rattle.base64.specs.declared.decode.DecodeAllocError.{DecodeAllocError}
use Rattle.opgp_armor.proofs.LetterLines.{line_spoilt, line_bad, line_good}
use Rattle.opgp_armor.proofs.letters.groups_of_letters.Goals as goal

pub returns-then-is_spoilt-clause-line : goal.returns-then-is_spoilt-clause-line
returns-then-is_spoilt-clause-line c = λ letters are joined.
    line_spoilt letters c.args.content.now c.args.all.now c.split_at.result.0.now c.split_at.result.1.now joined c.split_at.ensures.front c.split_at.ensures.back
    c.in-Ok.octets.items c.len.result c.is_spoilt.result c.refused.result are c.in-Ok.ensures.ok (let ok = c.in-Ok.octets.ok in omega (arith, c.len.ensures)) c.is_spoilt.ensures c.if-is_spoilt.true c.refused.ensures

pub returns-else-is_spoilt-clause-line : goal.returns-else-is_spoilt-clause-line
returns-else-is_spoilt-clause-line c = λ letters are joined.
    line_good letters c.args.content.now c.args.all.now c.split_at.result.0.now c.split_at.result.1.now joined c.split_at.ensures.front c.split_at.ensures.back
    c.in-Ok.octets.items c.len.result c.is_spoilt.result _ c.in-Ok.ensures.ok c.in-Ok.ensures.exact c.in-Ok.ensures.octets (let ok = c.in-Ok.octets.ok in omega (arith, c.len.ensures)) c.is_spoilt.ensures c.if-is_spoilt.false c.of-pending.ensures

pub returns-in-Err-DecodeError-clause-line : goal.returns-in-Err-DecodeError-clause-line
returns-in-Err-DecodeError-clause-line c = λ letters are joined.
    line_bad letters c.args.content.now c.args.all.now c.split_at.result.0.now c.split_at.result.1.now joined c.split_at.ensures.front c.split_at.ensures.back
    _ c.refused-in-Err-DecodeError.result
    (subst (λ (v : DecodeAllocError). IsDecodeFailure standard c.split_at.result.0.now v) c.in-Err-DecodeError.field-0-is c.in-Err-DecodeError.ensures.err) c.refused-in-Err-DecodeError.ensures
