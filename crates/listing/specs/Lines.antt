-- The lines of a listing, by their bytes.
use Rattle.std.specs.Prelude.{ℕ, suc, cond, List, [], ◌∷◌, ◌++◌, length, Some, None, codes, decimal, Option}
use Rattle.std.specs.List.{flat_map}
use Rattle.refusal.specs.Numbers.{number}
use Rattle.sheet.specs.declared.row.FourSides.{FourSides}
use Rattle.sheet.specs.declared.row.GuardBands.{GuardBands}
use Rattle.sheet.specs.declared.row.Row.{Row}
use Rattle.sheet.specs.declared.row.SheetSides.{SheetSides}
use Rattle.rwpk.specs.declared.fault.Fault.{Fault}

-- each number after a space
abbrev pub items : List ℕ → List ℕ
items ns = flat_map (λ n. 32 ∷ decimal n) ns

-- four numbers in the order of the box
abbrev pub four_items : FourSides → List ℕ
four_items s = s.left ∷ s.right ∷ s.top ∷ s.bottom ∷ []

-- the nine numbers of the bands, or none
abbrev pub band_items : Option GuardBands → List ℕ
band_items None = []
band_items (Some b) = four_items b.sizes ++ cond b.prediction 1 0 ∷ four_items b.kinds

-- the nine numbers that every row has
abbrev pub plain_items : Row → List ℕ
plain_items r =
    r.projected.width ∷ r.projected.height ∷ r.projected.top ∷ r.projected.left ∷ r.turn
    ∷ r.body.width ∷ r.body.height ∷ r.body.top ∷ r.body.left ∷ []

-- the line of row i
abbrev pub row_line : ℕ → Row → List ℕ
row_line i r = decimal i ++ (items (plain_items r) ++ (items (band_items r.bands) ++ 10 ∷ []))

-- a line a row, the first of them row i
abbrev pub row_lines : ℕ → List Row → List ℕ
row_lines i [] = []
row_lines i (r ∷ rows) = row_line i r ++ row_lines (suc i) rows

-- the sides of both pictures and the row count
abbrev pub sheet_items : SheetSides → ℕ → List ℕ
sheet_items s n = s.projected.width ∷ s.projected.height ∷ s.packed.width ∷ s.packed.height ∷ n ∷ []

-- the first line of a box that is granted
abbrev pub sheet_line : SheetSides → ℕ → List ℕ
sheet_line s n = codes "sheet" ++ (items (sheet_items s n) ++ 10 ∷ [])

-- all lines of a box that is granted
abbrev pub sheet_lines : SheetSides → List Row → List ℕ
sheet_lines s rows = sheet_line s (length rows) ++ row_lines 0 rows

-- the only line of a box that is refused
abbrev pub refused_line : Fault → List ℕ
refused_line fault =
    codes "refused" ++ (items (number fault.refusal ∷ []) ++ (codes " at" ++ (items (fault.place ∷ []) ++ 10 ∷ [])))
