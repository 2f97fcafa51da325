use Rattle.std.proofs.Common.{Option, subst, sym}
use Rattle.opgp_hash.specs.SignedValue.{SignedValue}
use Rattle.opgp_packet.specs.SigView.{sig_view_value}
use Rattle.opgp_io.specs.Output.{Extends}
use Rattle.opgp_stack.specs.Documents.{hashed_words, words_line}
use Rattle.opgp_stack.proofs.digest_lines.add_hashed.Goals as goal

pub returns : goal.returns
returns g c =
    subst (λ (s : Option SignedValue). Extends g.W.Sink.held g.W.Sink.has_failed c.args.output.now c.add_asked_line.new.output c.add_asked_line.result (words_line c.args.number (hashed_words (sig_view_value c.args.signature) s c.args.digest))) (sym c.in-Some.ensures.some)
    (rw (c.issuer_named-issuer.ensures, c.verify-verdict.ensures, c.kind.ensures, c.hash.ensures) at c.add_asked_line.ensures)
