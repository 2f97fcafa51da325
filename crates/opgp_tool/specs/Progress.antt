-- How much was read, as standard error shows it.
use Rattle.std.specs.Prelude.{List, ℕ, ◌++◌, codes}
use Rattle.std.specs.Fmt.{decimal}
use Rattle.opgp_tool.specs.declared.progress.Counts.{Counts}
use Rattle.opgp_tool.specs.declared.progress.Progress.{Progress}

-- the source that is read
abbrev pub read_of : {R W : Type 0} → Progress R W → R
read_of p = p.reader

-- the text, which is written over the one before
abbrev pub counts_text : Counts → List ℕ
counts_text c = codes "\ropgp: " ++ decimal c.octets ++ codes " octets, " ++ decimal c.packets
    ++ codes " packets"
