use Rattle.std.proofs.Common.{refl, sym, ◌∙◌}
use Rattle.opgp_keyring.proofs.Sorting.{filler_left}
use Rattle.opgp_keyring.proofs.member.Member.content.Goals as goal

pub unreachable-requires : goal.unreachable-requires
unreachable-requires c = c.args.self.part.sound c.in-Err.field-0 (rw (sym c.from.ensures.0 ∙ c.in-PublicKey.is) c.in-Err.ensures.fault)

pub unreachable-requires-in-Err-parse_body : goal.unreachable-requires-in-Err-parse_body
unreachable-requires-in-Err-parse_body c = c.args.self.part.sound c.in-Err-parse_body.field-0 (rw (sym c.from.ensures.0 ∙ c.in-PublicSubkey.is) c.in-Err-parse_body.ensures.fault)

pub unreachable-requires-in-Err-parse_body-2 : goal.unreachable-requires-in-Err-parse_body-2
unreachable-requires-in-Err-parse_body-2 c = c.args.self.part.sound c.in-Err-parse_body-2.field-0 (rw (sym c.from.ensures.0 ∙ c.in-UserAttribute.is) c.in-Err-parse_body-2.ensures.fault)

pub returns-in_default : goal.returns-in_default
returns-in_default c =
    let n = c.in_default in
    record { kind = refl; octets = refl; kept = filler_left c.from.result c.args.self.header.kind c.from.ensures.0 n.not-Signature n.not-PublicKey n.not-UserId n.not-PublicSubkey n.not-UserAttribute c.args.self.part.stands }
