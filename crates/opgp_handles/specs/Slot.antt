-- What the slots own: where one is full, the same as a `Box` of what it holds.
use base.Fml.{Fml, ftrue}
use base.Stored.{Coded}
use denote.RattleType.{RattleType}
use denote.RawPtr.{Ptr}
use Rattle.std.specs.Prelude.{Bool, true, false}
use Rattle.std.specs.Box.Ownership.{box_owns}
use Rattle.std.specs.declared.alloc.Global.{Global}
use Rattle.std.specs.contracts.impls.GlobalAllocator.TheImpl.{ghosts}
use Rattle.opgp_handles.specs.contracts.slot.Held as Held
use Rattle.opgp_handles.specs.contracts.slot.Reading as Reading
use Rattle.opgp_handles.specs.contracts.slot.Signed as Signed

-- by the row of what it holds
abbrev pub slot_owns : (X : RattleType) → Bool → Global → Ptr → X.Denot → Fml
slot_owns X true alloc p x = box_owns (ghosts.dealloc_token alloc) X p x
slot_owns X false alloc p x = ftrue

abbrev pub held_row : RattleType
held_row = Held.the_row

abbrev pub held_coded : Coded held_row.Denot
held_coded = held_row.coded

abbrev pub reading_row : RattleType
reading_row = Reading.the_row

abbrev pub reading_coded : Coded reading_row.Denot
reading_coded = reading_row.coded

abbrev pub signed_row : RattleType
signed_row = Signed.the_row

abbrev pub signed_coded : Coded signed_row.Denot
signed_coded = signed_row.coded
