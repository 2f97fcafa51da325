-- What a message that was read shows.
use Rattle.std.specs.Prelude.{ℕ, List, map}
use Rattle.opgp_armor.specs.Text.{lines}
use Rattle.opgp_cleartext.specs.Line.{shown_of}
use Rattle.opgp_cleartext.specs.declared.cleartext.Cleartext.{Cleartext}

-- the lines of the document
abbrev pub document_of : Cleartext → List (List ℕ)
document_of c = map shown_of (lines c.said.now)

-- the octets behind the document
abbrev pub rest_of : Cleartext → List ℕ
rest_of c = c.rest.now

-- where these begin in the text
abbrev pub place_of : Cleartext → ℕ
place_of c = c.place
