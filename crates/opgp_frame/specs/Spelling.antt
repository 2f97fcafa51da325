-- The octets of a packet that are left to be written.
use Rattle.std.specs.Prelude.{ℕ, List, [], ◌++◌, take, option_to_list, if◌then◌else◌}
use Rattle.opgp_frame.specs.declared.spelling.HeaderOctets.{HeaderOctets}
use Rattle.opgp_frame.specs.declared.spelling.Spelling.{Spelling}
use Rattle.opgp_frame.specs.Packet.{cut_body}

-- the octets of a header
abbrev pub octets_of_header : HeaderOctets → List ℕ
octets_of_header h = take h.count h.octets

-- The octets that are left: the first one, if it is, and then the body in its pieces with their
-- lengths; none at the end.
abbrev pub octets_left : Spelling → List ℕ
octets_left s = if s.ended then [] else
    option_to_list s.first ++ cut_body s.exponents.now (octets_of_header s.last) s.body.now
