use Rattle.std.proofs.Math.ListN.{drop_of_length-le}
use Rattle.opgp_codec.proofs.TextLines.{ended_so, few_blocks, on_ok, taken_last}
use Rattle.opgp_codec.proofs.text.Text.finish.Goals as goal

pub settle-opening-requires : goal.settle-opening-requires
settle-opening-requires c =
    let r = c.requires.through in
    few_blocks r.0 r.1 c.args.self c.args.framer.now r.2 r.3 c.no_more_blocks_than_octets.ensures r.4

pub returns : goal.returns
returns c accepts limits input items x =
    let t = c.args.self in
    let d = c.requires.drained in
    let fed = taken_last accepts limits t c.args.framer.now c.last.new.self input items c.in-Ok.event x d.behind c.in-Ok.ensures.fed in
    ended_so accepts limits c.last.new.self t c.args.framer.now c.settle-opening.new.self input items c.in-Ok.event c.settle-opening.result c.finish.result x d.behind (drop_of_length-le t.octets.items d.octets) c.in-Ok.ensures.rule
    c.settle-opening.ensures.end c.settle-opening.ensures.other (c.finish.ensures.ok _ _ fed) (λ ok. on_ok c.finish.result _ c.finish.ensures.closed ok _ _ fed)
