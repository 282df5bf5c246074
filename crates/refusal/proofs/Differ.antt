-- A number leads back to its refusal, so no two share one.
use Rattle.std.proofs.Common.{◌≡◌, ℕ, List, [], ◌∷◌, get_or, sym, refl, ap, ◌∙◌}
use Rattle.refusal.specs.declared.Refusal.{Refusal}
use Rattle.refusal.specs.declared.Refusal.TheVariants.{InputEnds, SizeDiffers, NotRwpk, NoPayload, Paired, ReservedBit, NoRows, EmptySide, PackingType, GuardBands, TurnCode, LeavesProjected, ClaimLeaves, ClaimMeets, BytesLeft, SheetFull, NoFreeSpot, NoSuchRow, PlaceOutside, NotCovered, UnfitSides, BufferShort, AllWritten, PartDue}
use Rattle.refusal.specs.Numbers.{number, NumbersDiffer}

-- the refusals at the places of their numbers; nothing has number 0
abbrev by_number : List Refusal
by_number =
    InputEnds ∷ InputEnds ∷ SizeDiffers ∷ NotRwpk ∷ NoPayload ∷ Paired ∷ ReservedBit ∷ NoRows ∷ EmptySide ∷ PackingType ∷ GuardBands ∷ TurnCode ∷ LeavesProjected ∷ ClaimLeaves ∷ ClaimMeets ∷ BytesLeft ∷ SheetFull ∷ NoFreeSpot ∷ NoSuchRow ∷ PlaceOutside ∷ NotCovered ∷ UnfitSides ∷ BufferShort ∷ AllWritten ∷ PartDue ∷ []

abbrev back : ℕ → Refusal
back n = get_or by_number n InputEnds

returns : (r : Refusal) → back (number r) ≡ r
returns InputEnds = refl
returns SizeDiffers = refl
returns NotRwpk = refl
returns NoPayload = refl
returns Paired = refl
returns ReservedBit = refl
returns NoRows = refl
returns EmptySide = refl
returns PackingType = refl
returns GuardBands = refl
returns TurnCode = refl
returns LeavesProjected = refl
returns ClaimLeaves = refl
returns ClaimMeets = refl
returns BytesLeft = refl
returns SheetFull = refl
returns NoFreeSpot = refl
returns NoSuchRow = refl
returns PlaceOutside = refl
returns NotCovered = refl
returns UnfitSides = refl
returns BufferShort = refl
returns AllWritten = refl
returns PartDue = refl

pub differ : NumbersDiffer
differ a b e = sym (returns a) ∙ ap back e ∙ returns b
