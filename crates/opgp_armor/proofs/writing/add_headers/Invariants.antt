use Rattle.std.proofs.Common.{◌≡◌, ◌++◌, take, map}
use Rattle.opgp_armor.specs.Blocks.{headers_of}
use Rattle.opgp_armor.specs.Written.{header_line, text_of}
use Rattle.opgp_armor.proofs.writing.add_headers.Given as goal

abbrev pub invariant-loop-key : goal.invariant-loop-key
invariant-loop-key l = l.text.items ≡ l.fn.text.items ++ text_of (map header_line (headers_of (take l.key-index l.headers)))
