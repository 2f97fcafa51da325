-- What a line may be: how long, and what may stand outside of blocks.
use Rattle.std.specs.Prelude.{ℕ}
use Rattle.opgp_octets.specs.Limits.{line_limit, outside_of}
use Rattle.opgp_octets.specs.declared.limits.Limits.{Limits}
use Rattle.opgp_octets.specs.declared.outside.Outside.{Outside}

pub record LineRule : Type 0 where
  -- the most octets of a line, without its line feed
  pub most : ℕ
  -- what becomes of a line outside of blocks that begins none
  pub outside : Outside

abbrev pub line_rule : Limits → LineRule
line_rule l = record { most = line_limit l; outside = outside_of l }
