use Rattle.std.proofs.Common.{◌-◌, ℕ, arith}
use Rattle.memchr.specs.Find.{is_byte}
use Rattle.opgp_document.proofs.Places.{passes_behind, passes_before}
use Rattle.opgp_document.proofs.octets_as_text.next_place.Goals as goal

pub returns-in-Some : goal.returns-in-Some
returns-in-Some c =
    let o = c.args.octets.now in
    let f : ℕ = c.args.from in
    let h = c.in-Some.ensures in (
      record {
        low = omega arith;
        high = omega (arith, h.0.high);
        before = λ k l u p. h.0.before (k - f) (omega arith) (omega arith) (passes_before (is_byte c.args.octet) o f k l p);
      },
      passes_behind (is_byte c.args.octet) o f c.in-Some.count h.1,
    )

pub returns-in-None : goal.returns-in-None
returns-in-None c = λ k l u p.
    c.in-None.ensures (k - c.args.from) (omega arith) (omega arith) (passes_before (is_byte c.args.octet) c.args.octets.now c.args.from k l p)
