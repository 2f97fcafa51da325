-- The value of a user ID.
use Rattle.std.specs.Prelude.{List, ℕ}
use Rattle.opgp_packet.specs.declared.user_id.UserId.{UserId}

-- its octets, which are those of its body
abbrev pub user_id_octets : UserId → List ℕ
user_id_octets u = u.body.items
