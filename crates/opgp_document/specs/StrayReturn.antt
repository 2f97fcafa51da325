-- What is told of a stray carriage return.
use Rattle.std.specs.Prelude.{ℕ, List, ◌++◌, codes}
use Rattle.std.specs.Fmt.{decimal}
use Rattle.opgp_octets.specs.declared.fault.Fault.{Fault}
use Rattle.opgp_octets.specs.declared.fault.Layer.TheVariants as layer
use Rattle.opgp_octets.specs.declared.fault.Reason.TheVariants as reason
use Rattle.opgp_document.specs.declared.stray_return.StrayReturn.{StrayReturn}

abbrev pub stray_return_text : StrayReturn → List ℕ
stray_return_text stray =
    codes "no line feed follows the carriage return at " ++ decimal stray.pos

-- a carriage return at this place isn't followed by a line feed
abbrev pub text_fault : ℕ → Fault
text_fault pos = record {
  layer = layer.Text;
  reason = reason.StrayReturn;
  block = 0;
  pos = pos;
  inner = 0;
}
