use Rattle.opgp_codec.proofs.OneMessage.{some_message}
use Rattle.opgp_codec.proofs.cleartext_laws.some_cleartext_message.Goals as goal

pub returns : goal.returns
returns c = some_message c.some_list_of_signatures.ensures
