use Rattle.std.proofs.Common.{◌++◌, ◌∷◌, [], append-nil, subst, sym}
use Rattle.opgp_keyring.specs.Parts.{HasParts}
use Rattle.opgp_keyring.specs.State.{part_of}
use Rattle.opgp_codec.proofs.Keyringed.{error_at_end, keyring_at_end, parts_at_end}
use Rattle.opgp_codec.proofs.reading_keyring.finish.Goals as goal

pub returns-in-Ok-None : goal.returns-in-Ok-None
returns-in-Ok-None c mode limits before now list came over has =
    keyring_at_end mode limits before now (list ++ []) c.args.ring (subst (HasParts c.args.ring) (sym (append-nil list)) has) (rw c.in-Ok-None.field-0-is at (c.in-Ok-None.ensures mode limits before now list came over))

pub returns-in_ok-keep-in-Ok-Some : goal.returns-in_ok-keep-in-Ok-Some
returns-in_ok-keep-in-Ok-Some c mode limits before now list came over has =
    let ended = rw c.in-Ok-Some.field-0-is at (c.in-Ok-Some.ensures mode limits before now list came over) in
    keyring_at_end mode limits before now (list ++ part_of c.in-Ok-Some.last ∷ []) _ (c.in_ok-keep-in-Ok-Some.ensures list has (parts_at_end mode limits before now _ ended)) ended

pub returns-in-Err : goal.returns-in-Err
returns-in-Err c mode limits before now list came over has = error_at_end mode limits before now list c.in-Err.error (c.in-Err.ensures mode limits before now list came over)
