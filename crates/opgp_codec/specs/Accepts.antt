-- Which labels the blocks of an input may have.
use Rattle.opgp_codec.specs.declared.accepts.Accepts.{Accepts}
use Rattle.opgp_codec.specs.declared.accepts.Accepts.TheVariants.{Any, Keys, Messages, Signatures}
use Rattle.opgp_codec.specs.Keyrings.{key_label}
use Rattle.opgp_codec.specs.Packets.{any_label}
use Rattle.opgp_codec.specs.Reading.{Wanted}
use Rattle.opgp_codec.specs.Signatures.{signature_label}
use Rattle.opgp_codec.specs.Signed.{message_label}

-- which labels are accepted
abbrev pub wanted_by : Accepts → Wanted
wanted_by Keys = key_label
wanted_by Messages = message_label
wanted_by Signatures = signature_label
wanted_by Any = any_label
