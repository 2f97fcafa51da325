use Rattle.std.proofs.Common.{Err, Option, Some, refl, subst, sym}
use Rattle.opgp_document.specs.OwnOctets.{own_value}
use Rattle.opgp_hash.specs.SignedValue.{SignedValue}
use Rattle.opgp_codec.specs.declared.engine_error.EngineError.TheVariants as engine
use Rattle.opgp_stack.specs.Documents.{around_made}
use Rattle.opgp_stack.specs.Running.{IsMade}
use Rattle.opgp_stack.specs.declared.around.Around.{Around}
use Rattle.opgp_stack.proofs.around.write_own.Goals as goal

pub returns-in-Err : goal.returns-in-Err
returns-in-Err g c =
    subst (λ (s : Option SignedValue). IsMade g.W.Sink.held g.W.Sink.has_failed c.args.writer.now c.args.writer.now c.end-in-Err.result (around_made c.args.part (Some s))) (sym c.in-Some.ensures.some)
    (subst (λ (a : Around). IsMade g.W.Sink.held g.W.Sink.has_failed c.args.writer.now c.args.writer.now c.end-in-Err.result (around_made a (Some (Some (own_value c.in-Some.own))))) (sym c.in-Behind.is)
    (Err engine.Memory, c.end-in-Err.ensures, refl))
