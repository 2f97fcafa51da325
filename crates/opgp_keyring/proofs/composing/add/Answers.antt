use Rattle.std.proofs.Common.{◌++◌, ◌∷◌, [], List, subst, ◌∙◌, append-nil}
use Rattle.opgp_keyring.specs.Composed.{PartValue}
use Rattle.opgp_keyring.specs.Composition.{of_packet}
use Rattle.opgp_keyring.specs.Fed.{Fed}
use Rattle.opgp_keyring.specs.State.{part_of}
use Rattle.opgp_keyring.proofs.Gathered.{are_parts}
use Rattle.opgp_keyring.proofs.Keeping.{handed_out, taken_one}
use Rattle.opgp_keyring.proofs.composing.add.Goals as goal

pub returns-in_ok-keep-clause-added : goal.returns-in_ok-keep-clause-added
returns-in_ok-keep-clause-added c limits given h =
    let all = given ++ of_packet c.args.placed ∷ [] in
    let fed = taken_one c.args.composer.now c.push.new.self (of_packet c.args.placed) c.in-Ok.ensures.fed limits given h.parts h.fed in
    let out = handed_out c.push.new.self c.take.new.self _ c.in-Some.ensures.fed limits all h.parts fed in
    record {
      parts = h.parts ++ part_of c.in-Some.part ∷ [];
      fed = out;
      has = c.in_ok-keep.ensures h.parts h.has (are_parts limits c.take.new.self all _ out c.in-Some.ensures.free);
      free = c.in-Some.ensures.free;
      sound = c.in-Some.ensures.spent ∙ c.in-Ok.ensures.sound;
    }

pub returns-in_default-clause-added : goal.returns-in_default-clause-added
returns-in_default-clause-added c limits given h =
    let all = given ++ of_packet c.args.placed ∷ [] in
    let fed = taken_one c.args.composer.now c.push.new.self (of_packet c.args.placed) c.in-Ok.ensures.fed limits given h.parts h.fed in
    record {
      parts = h.parts;
      fed = subst (λ (ps : List PartValue). Fed limits c.take.new.self all ps) (append-nil h.parts) (handed_out c.push.new.self c.take.new.self _ c.in_default.ensures.fed limits all h.parts fed);
      has = h.has;
      free = c.in_default.ensures.free;
      sound = c.in_default.ensures.spent ∙ c.in-Ok.ensures.sound;
    }
