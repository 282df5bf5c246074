-- The number of each refusal.
use Rattle.std.specs.Prelude.{◌≡◌, ℕ}
use Rattle.refusal.specs.declared.Refusal.{Refusal}
use Rattle.refusal.specs.declared.Refusal.TheVariants.{InputEnds, SizeDiffers, NotRwpk, NoPayload, Paired, ReservedBit, NoRows, EmptySide, PackingType, GuardBands, TurnCode, LeavesProjected, ClaimLeaves, ClaimMeets, BytesLeft, SheetFull, NoFreeSpot, NoSuchRow, PlaceOutside, NotCovered, UnfitSides, BufferShort, AllWritten, PartDue}

-- the number that a refusal returns
abbrev pub number : Refusal → ℕ
number InputEnds = 1
number SizeDiffers = 2
number NotRwpk = 3
number NoPayload = 4
number Paired = 5
number ReservedBit = 6
number NoRows = 7
number EmptySide = 8
number PackingType = 9
number GuardBands = 10
number TurnCode = 11
number LeavesProjected = 12
number ClaimLeaves = 13
number ClaimMeets = 14
number BytesLeft = 15
number SheetFull = 16
number NoFreeSpot = 17
number NoSuchRow = 18
number PlaceOutside = 19
number NotCovered = 20
number UnfitSides = 21
number BufferShort = 22
number AllWritten = 23
number PartDue = 24

-- a number tells the refusal
abbrev pub NumbersDiffer : Type 0
NumbersDiffer = (a b : Refusal) → number a ≡ number b → a ≡ b
