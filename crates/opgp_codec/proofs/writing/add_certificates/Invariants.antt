use Rattle.std.proofs.Common.{◌≡◌, take}
use Rattle.opgp_io.specs.Added.{Adds}
use Rattle.opgp_io.specs.Output.{sink_name, state_of}
use Rattle.opgp_codec.specs.Writing.{certificates_text}
use Rattle.opgp_codec.proofs.writing.add_certificates.Given as goal

-- the certificates so far are added
abbrev pub invariant-loop-certificate : goal.invariant-loop-certificate
invariant-loop-certificate g l = record {
  same : sink_name l.output ≡ sink_name l.fn.output;
  added : Adds (state_of g.W.Sink.held g.W.Sink.has_failed l.fn.output) (state_of g.W.Sink.held g.W.Sink.has_failed l.output) (certificates_text l.out (take l.certificate-index l.certificates));
}
