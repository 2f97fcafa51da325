-- The text of a table that is too short.
use Rattle.std.specs.Prelude.{ℕ, List, ◌++◌, codes}
use Rattle.std.specs.Fmt.{decimal}
use Rattle.opgp_document.specs.declared.short_table.ShortTable.{ShortTable}

abbrev pub short_table_text : ShortTable → List ℕ
short_table_text short = codes "the text has " ++ decimal short.wanted ++ codes " octets"
