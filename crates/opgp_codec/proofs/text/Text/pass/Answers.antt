use Rattle.std.proofs.Common.{◌++◌, [], List, drop, refl, sym, ap, subst, map, append-nil, Some}
use Rattle.std.proofs.lemmas.List.{map-append}
use Rattle.std.proofs.Math.ListN.{drop_of_length-le}
use Rattle.opgp_armor.specs.Events.{Begin, End}
use Rattle.opgp_keyring.specs.Composition.{Item}
use Rattle.opgp_codec.specs.Found.{IsFound, opened}
use Rattle.opgp_codec.specs.Blocks.{Finds, Framed}
use Rattle.opgp_codec.specs.Reading.{TextBlock, armored_block}
use Rattle.opgp_codec.specs.Text.{events_behind}
use Rattle.opgp_codec.proofs.Blocking.{finds_if, nothing_found}
use Rattle.opgp_codec.proofs.TextLines.{few_blocks, not_begun, through_passed}
use Rattle.opgp_codec.proofs.text.Text.pass.Goals as goal

pub begin-requires : goal.begin-requires
begin-requires c =
    let r = c.requires.through in
    not_begun r.0 r.1 c.args.self.now c.args.framer.now r.2 r.3 c.in-Begin.label c.events_are_in_order.ensures c.in-Begin.is (drop_of_length-le _ c.requires.all) r.4

pub end-requires : goal.end-requires
end-requires c =
    let r = c.requires.through in
    few_blocks r.0 r.1 c.args.self.now c.args.framer.now r.2 r.3 c.no_more_blocks_than_octets.ensures r.4

pub returns-in-Begin-clause-through : goal.returns-in-Begin-clause-through
returns-in-Begin-clause-through c =
    let empty = drop_of_length-le c.args.self.now.octets.items c.requires.all in (
      [],
      refl,
      λ accepts limits input items x.
          through_passed accepts limits c.args.self.now _ c.args.framer.now c.begin.new.self input items [] (Begin c.in-Begin.label) refl (ap events_behind c.in-Begin.is) refl empty empty c.begin.ensures.begun
          (λ b f. subst (λ (l : List Item). Framed accepts limits c.begin.new.self (map armored_block b.blocks) (Some c.in-Begin.label) [] l) (sym (append-nil items)) (c.begin.ensures.framed accepts limits _ _ b.octets items f)) x,
    )

pub returns-in-End-clause-through : goal.returns-in-End-clause-through
returns-in-End-clause-through c =
    let t = c.args.self.now in
    let h = c.end.new.self in
    let empty = drop_of_length-le t.octets.items c.requires.all in
    let none : IsFound h.found (drop t.lent t.octets.items) [] = nothing_found h.found (drop t.lent t.octets.items) c.end.ensures.found in
    let found : Finds h (drop t.lent t.octets.items) (opened h.opening) = ([], none, sym (append-nil (opened h.opening))) in (
      opened h.opening,
      finds_if h c.finds.result (drop t.lent t.octets.items) (opened h.opening) c.finds.ensures found,
      λ accepts limits input items x.
          through_passed accepts limits t _ c.args.framer.now h input items (opened h.opening) End refl (ap events_behind c.in-End.is) refl empty empty c.end.ensures.begun
          (λ b f. subst (λ (bs : List TextBlock). Framed accepts limits h bs (Some b.label) [] (items ++ opened h.opening)) (sym (map-append armored_block b.blocks _)) (c.end.ensures.framed accepts limits _ _ b.octets items f)) x,
    )
