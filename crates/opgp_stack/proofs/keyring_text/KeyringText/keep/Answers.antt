use Rattle.std.proofs.Common.{List, ℕ, subst}
use Rattle.std.specs.List.{flat_map}
use Rattle.std.proofs.lemmas.Result.{on_ok_weaker}
use Rattle.opgp_codec.specs.Draft.{DraftHas}
use Rattle.opgp_keyring.specs.State.{part_of}
use Rattle.opgp_stack.specs.PartText.{text_of_part}
use Rattle.opgp_stack.proofs.PartTexts.{text_push}
use Rattle.opgp_stack.proofs.keyring_text.KeyringText.keep.Goals as goal

pub returns-clause-draft : goal.returns-clause-draft
returns-clause-draft g c =
    let text = text_of_part c.args.self.now.text in
    on_ok_weaker c.add.result (λ adds parts h. subst (λ (o : List ℕ). DraftHas g.S.Spool.serves g.S.Spool.tells g.S.Spool.holds g.S.Spool.has_failed c.add.new.draft o) (text_push text parts (part_of c.args.part)) (adds (flat_map text parts) h)) c.add.ensures
