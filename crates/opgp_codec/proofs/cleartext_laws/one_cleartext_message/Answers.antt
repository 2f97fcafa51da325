use Rattle.opgp_codec.proofs.OneMessage.{one_message}
use Rattle.opgp_codec.proofs.cleartext_laws.one_cleartext_message.Goals as goal

pub returns : goal.returns
returns c = one_message c.one_list_of_signatures.ensures
