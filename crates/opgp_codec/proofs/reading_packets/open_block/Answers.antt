use Rattle.std.proofs.Common.{◌++◌, ◌∷◌, [], List, ap, sym, ◌∙◌, map}
use Rattle.opgp_frame.specs.declared.packet.Placed.{Placed}
use Rattle.opgp_keyring.specs.declared.block_of.BlockOf.{BlockOf}
use Rattle.opgp_keyring.specs.Block.{items_of}
use Rattle.opgp_keyring.specs.Composition.{Item, of_label, of_packet}
use Rattle.opgp_codec.proofs.Labels.{from_label-label, items_push}
use Rattle.opgp_codec.proofs.reading_packets.open_block.Goals as goal

pub returns : goal.returns
returns c given f =
    let bs : List BlockOf = c.args.blocks.now.items in
    let o = c.in-Some.opening in
    rw c.in-Some.is
    (ap items_of c.in_ok-push.ensures.items ∙ items_push bs _ ∙ ap (λ (l : List Placed). items_of bs ++ of_label o.number o.fits ∷ map of_packet l) c.new.ensures.items
    ∙ ap (λ (l : List Item). l ++ of_label o.number o.fits ∷ []) f ∙ sym (from_label-label given o.number o.fits))
