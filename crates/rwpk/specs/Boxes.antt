-- A whole box, in the order in which it is judged.
use Rattle.std.specs.Prelude.{ℕ, zero, suc, ◌+◌, ◌/◌, not, List, [], ◌∷◌, ◌++◌, length, Some, None, Ok, Option, Result, ◌==◌, nat_lt}
use Rattle.refusal.specs.declared.Refusal.TheVariants.{Paired, ReservedBit, NoRows, LeavesProjected, ClaimLeaves, ClaimMeets, BytesLeft}
use Rattle.sheet.specs.declared.row.GuardBands.{GuardBands}
use Rattle.sheet.specs.declared.row.Row.{Row}
use Rattle.sheet.specs.declared.row.SheetSides.{SheetSides}
use Rattle.sheet.specs.Claims.{claim, claim_inside, meets_any}
use Rattle.sheet.specs.Rules.{Content, sides_by, leaves_projected}
use Rattle.rwpk.specs.declared.fault.Fault.{Fault}
use Rattle.rwpk.specs.Fields.{field, refuse, ◌>>=◌, ◌>>◌}
use Rattle.rwpk.specs.Header.{header}
use Rattle.rwpk.specs.Rows.{side_at, row_at}

-- the paired flag with seven reserved bits, then the row count
abbrev pub count_of : List ℕ → Result ℕ Fault
count_of input = do
  flags ← field 1 input 12
  refuse (nat_lt 0 (flags / 128)) Paired 12
  refuse (nat_lt 0 flags) ReservedBit 12
  count ← field 1 input 13
  refuse (count == 0) NoRows 13
  Ok count

-- the sides of the projected picture, then of the packed one
abbrev pub sides_of : List ℕ → Result SheetSides Fault
sides_of input = do
  width ← side_at 4 input 14
  height ← side_at 4 input 18
  packed-width ← side_at 2 input 22
  packed-height ← side_at 2 input 24
  Ok (sides_by width height packed-width packed-height)

-- a row that begins at p, checked as a whole after the rows so far
abbrev pub judged : SheetSides → List Row → Row → ℕ → Result (Unit {0}) Fault
judged sides sofar row p = do
  refuse (leaves_projected sides.projected row.projected) LeavesProjected p
  refuse (not (claim_inside sides.packed row)) ClaimLeaves p
  refuse (meets_any (claim row) sofar) ClaimMeets p

-- how many bytes a row has
abbrev pub length_with : Option GuardBands → ℕ
length_with None = 26
length_with (Some bands) = 32

abbrev pub row_length : Row → ℕ
row_length row = length_with row.bands

-- so many more rows from p on, each judged before the next is read, and nothing after them
abbrev pub rows_from : SheetSides → ℕ → List Row → List ℕ → ℕ → Result (List Row) Fault
rows_from sides zero sofar input p = do
  refuse (nat_lt p (length input)) BytesLeft p
  Ok sofar
rows_from sides (suc count) sofar input p = do
  row ← row_at input p
  judged sides sofar row p
  rows_from sides count (sofar ++ row ∷ []) input (p + row_length row)

-- the content that a box holds, or why it is refused, and where
abbrev pub box_of_bytes : List ℕ → Result Content Fault
box_of_bytes input = do
  header input
  count ← count_of input
  sides ← sides_of input
  rows ← rows_from sides count [] input 26
  Ok (record { sides = sides; rows = rows })
