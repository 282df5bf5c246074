-- What each refusal says.
use Rattle.std.specs.Prelude.{ℕ, List, codes}
use Rattle.refusal.specs.declared.Refusal.{Refusal}
use Rattle.refusal.specs.declared.Refusal.TheVariants.{InputEnds, SizeDiffers, NotRwpk, NoPayload, Paired, ReservedBit, NoRows, EmptySide, PackingType, GuardBands, TurnCode, LeavesProjected, ClaimLeaves, ClaimMeets, BytesLeft, SheetFull, NoFreeSpot, NoSuchRow, PlaceOutside, NotCovered, UnfitSides, BufferShort, AllWritten, PartDue}

-- the refusal's sentence, byte by byte
abbrev pub sentence : Refusal → List ℕ
sentence InputEnds = codes "the input ends inside a field"
sentence SizeDiffers = codes "the size field is not the input's length"
sentence NotRwpk = codes "the type is not rwpk, or the version or a flag is not 0"
sentence NoPayload = codes "the box has no payload"
sentence Paired = codes "the paired flag is set"
sentence ReservedBit = codes "a reserved bit is set"
sentence NoRows = codes "there are no rows"
sentence EmptySide = codes "a width or height is 0"
sentence PackingType = codes "the packing type is not 0"
sentence GuardBands = codes "a guard band's kind is over 4, or all four sizes are 0"
sentence TurnCode = codes "the turn code is over 7"
sentence LeavesProjected = codes "the projected rectangle leaves its picture"
sentence ClaimLeaves = codes "the claim leaves the packed picture"
sentence ClaimMeets = codes "the claim meets another row's claim"
sentence BytesLeft = codes "bytes are left over after the last row"
sentence SheetFull = codes "the sheet has 255 rows already"
sentence NoFreeSpot = codes "there is no free spot for the claim"
sentence NoSuchRow = codes "the row number is too high"
sentence PlaceOutside = codes "the place is outside"
sentence NotCovered = codes "no row covers the place"
sentence UnfitSides = codes "the sides are too large or differ, or the run is too short"
sentence BufferShort = codes "the buffer is too short"
sentence AllWritten = codes "every part is written"
sentence PartDue = codes "a part is still due"
