-- The seals and their parts own what boxes at the same types own.
use mir.Syntax.{impl, tnil, dnil}
use mathlib.Core.List.{[]}
use denote.Param.Laws.{Laws}
use denote.RattleType.{RattleType}
use denote.Signature.{Slot, plain}
use Rattle.std.proofs.BoxSteps.Form.{Bx}
use Rattle.std.specs.contracts.alloc.Global as Heap
use Rattle.std.specs.contracts.impls.GlobalAllocator.TheImpl.{ghosts, dict}
use Rattle.std.proofs.alloc.Global.TheLaws as heap
use Rattle.opgp_handles.specs.contracts.slot.Held as Held
use Rattle.opgp_handles.proofs.slot.Held.TheLaws as held
use Rattle.opgp_handles.specs.contracts.slot.Reading as Reading
use Rattle.opgp_handles.proofs.slot.Reading.TheLaws as reading
use Rattle.opgp_handles.specs.contracts.slot.Signed as Signed
use Rattle.opgp_handles.proofs.slot.Signed.TheLaws as signed
use Rattle.opgp_handles.specs.contracts.parts.Parts as Parts
use Rattle.opgp_handles.specs.contracts.slot.Slot as Sealed
use Rattle.opgp_handles.specs.contracts.slot.ReadingSlot as SealedReading
use Rattle.opgp_handles.specs.contracts.slot.SignedSlot as SealedSigned

-- a box on the heap of what has this row
abbrev pub boxed : (X : RattleType) → Laws X → Bx
boxed X laws = record { row = X; laws = laws; al = record { row = Heap.the_row; laws = heap.the_row_laws; g = ghosts; d = dict; drops = impl [] tnil dnil } }

abbrev pub parts_of : RattleType → Slot 0
parts_of X = plain (λ _. Parts.the_row X Heap.the_row ghosts)

abbrev pub HeldBox : Bx
HeldBox = boxed Held.the_row held.the_row_laws

abbrev pub ReadingBox : Bx
ReadingBox = boxed Reading.the_row reading.the_row_laws

abbrev pub SignedBox : Bx
SignedBox = boxed Signed.the_row signed.the_row_laws

abbrev pub FromParts : Slot 0
FromParts = parts_of Held.the_row

abbrev pub FromReadingParts : Slot 0
FromReadingParts = parts_of Reading.the_row

abbrev pub FromSignedParts : Slot 0
FromSignedParts = parts_of Signed.the_row

abbrev pub FromSeal : Slot 0
FromSeal = plain (λ _. Sealed.the_row)

abbrev pub FromReadingSeal : Slot 0
FromReadingSeal = plain (λ _. SealedReading.the_row)

abbrev pub FromSignedSeal : Slot 0
FromSignedSeal = plain (λ _. SealedSigned.the_row)
