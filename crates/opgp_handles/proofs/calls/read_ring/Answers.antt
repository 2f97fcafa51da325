use Rattle.std.proofs.Common.{ℕ, List, Ok, Err, Bor, subst}
use Rattle.opgp_keyring.specs.Keyring.{KeyringValue}
use Rattle.opgp_codec.specs.Keyrings.{ComposesTo, key_label}
use Rattle.opgp_codec.specs.Reading.{AnswerOf}
use Rattle.opgp_handles.proofs.calls.read_ring.Goals as goal

-- the keyring, or the fault, is that of the octets that the source had
pub returns-in-Ok-Ring-clause-ring : goal.returns-in-Ok-Ring-clause-ring
returns-in-Ok-Ring-clause-ring c =
    let l = c.in-Some.limits in
    let all = rw (c.in-Ok-Ring.field-0-is, c.new-source.ensures) at c.in-Ok-Ring.ensures in
    (l, c.in-Some.ensures.these, subst (λ (s : Bor (List ℕ)). AnswerOf {A = KeyringValue} key_label (ComposesTo l) c.args.mode l s.now (Ok c.in-Ok-Ring.keyring)) c.new.ensures.inner all.known)

pub returns-in-Ok-Refused-clause-refused : goal.returns-in-Ok-Refused-clause-refused
returns-in-Ok-Refused-clause-refused c = λ _.
    let l = c.in-Some.limits in
    let all = rw (c.in-Ok-Refused.field-0-is, c.new-source.ensures) at c.in-Ok-Refused.ensures in
    (c.in-Ok-Refused.found, (l, c.in-Some.ensures.these, subst (λ (s : Bor (List ℕ)). AnswerOf {A = KeyringValue} key_label (ComposesTo l) c.args.mode l s.now (Err c.in-Ok-Refused.found)) c.new.ensures.inner all.known), c.of.ensures)
