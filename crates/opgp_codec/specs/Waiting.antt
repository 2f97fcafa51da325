-- The parts of a keyring that wait to be taken.
use Rattle.std.specs.Prelude.{◌≡◌, List, ◌++◌, map}
use Rattle.opgp_keyring.specs.Composed.{PartValue, parts_of}
use Rattle.opgp_keyring.specs.Keyring.{KeyringValue}
use Rattle.opgp_keyring.specs.State.{part_of}
use Rattle.opgp_codec.specs.declared.waiting.Waiting.{Waiting}

-- in order
abbrev pub parts_in : Waiting → List PartValue
parts_in w = map part_of w.parts.items

-- the keyring's parts are those that were taken, and behind them those that wait
abbrev pub EndsWith : List PartValue → KeyringValue → Waiting → Type 0
EndsWith taken ring waiting = parts_of ring ≡ taken ++ parts_in waiting
