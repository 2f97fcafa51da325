use Rattle.std.proofs.Common.{sym, ◌∙◌}
use Rattle.opgp_frame.proofs.Lists.{spelled-prefix}
use Rattle.opgp_frame.proofs.laws.others_are_prefixes.Goals as goal

pub returns : goal.returns
returns c limits block octets rest packets longest others more stand e =
    spelled-prefix limits block 0 packets others rest more longest.stand stand (sym longest.whole ∙ e) longest.no_more
