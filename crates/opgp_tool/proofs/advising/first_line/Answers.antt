use Rattle.std.proofs.Common.{◌∙◌, ap, sym, List, ℕ, Option, Some, None, length, take}
use Rattle.std.proofs.Math.Seq.{take-length}
use Rattle.std.specs.Prelude.{unwrap_or}
use Rattle.memchr.specs.Find.{is_byte}
use Rattle.memchr.proofs.lemmas.ValueLemmas.{IsFirstByte-value}
use Rattle.opgp_tool.proofs.advising.first_line.Goals as goal

pub returns-in-Some : goal.returns-in-Some
returns-in-Some c =
    let octets : List ℕ = c.args.octets.now in
    ap (λ (end : Option ℕ). take (unwrap_or end (length octets)) octets)
    (IsFirstByte-value (is_byte 10) octets (Some c.in-Some.end) c.in-Some.ensures)

pub returns-in-None : goal.returns-in-None
returns-in-None c =
    let octets : List ℕ = c.args.octets.now in
    sym (take-length octets)
    ∙ ap (λ (end : Option ℕ). take (unwrap_or end (length octets)) octets)
    (IsFirstByte-value (is_byte 10) octets None c.in-None.ensures)
