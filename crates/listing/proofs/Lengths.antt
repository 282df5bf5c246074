-- How long a listing may be.
use Rattle.std.proofs.Common.{◌≡◌, ℕ, suc, ◌+◌, ◌*◌, ◌^◌, ◌<◌, ◌≤◌, true, false, cond, not, ◌&&◌, ◌||◌, ltb, List, [], ◌∷◌, ◌++◌, length, Some, None, codes, decimal, Option, arith, length-append}
use Rattle.std.specs.List.{AllByRecursion}
use Rattle.std.proofs.lemmas.Fmt.{length-decimal-le}
use Rattle.std.proofs.lemmas.Bool.{and_parts, or_parts, ltb-false}
use Rattle.refusal.specs.declared.Refusal.{Refusal}
use Rattle.refusal.specs.declared.Refusal.TheVariants.{InputEnds, SizeDiffers, NotRwpk, NoPayload, Paired, ReservedBit, NoRows, EmptySide, PackingType, GuardBands as BandFault, TurnCode, LeavesProjected, ClaimLeaves, ClaimMeets, BytesLeft, SheetFull, NoFreeSpot, NoSuchRow, PlaceOutside, NotCovered, UnfitSides, BufferShort, AllWritten, PartDue}
use Rattle.refusal.specs.Numbers.{number}
use Rattle.sheet.specs.declared.row.FourSides.{FourSides}
use Rattle.sheet.specs.declared.row.GuardBands.{GuardBands}
use Rattle.sheet.specs.declared.row.Row.{Row}
use Rattle.sheet.specs.declared.row.SheetSides.{SheetSides}
use Rattle.sheet.specs.Claims.{claim, meets_any}
use Rattle.sheet.specs.Rules.{Content, empty_picture, bad_bands, all_zero, over_four}
use Rattle.sheet.specs.Sound.{sound_row, sound_rows}
use Rattle.sheet.proofs.Rows.{FreeOfFaults, faultless}
use Rattle.rwpk.specs.declared.fault.Fault.{Fault}
use Rattle.rwpk.specs.Laws.{SidesFit, SizesFit, RowFits, HasBox}
use Rattle.listing.specs.Lines.{items, band_items, plain_items, row_line, row_lines, sheet_items, sheet_line, sheet_lines, refused_line}

-- each number has at most ten digits
abbrev Small : List ℕ → Type 0
Small ns = AllByRecursion (λ n. n < 2 ^ 32) ns

items_short : (ns : List ℕ) → Small ns → length (items ns) ≤ 11 * length ns
items_short [] h = omega arith
items_short (n ∷ ns) h =
    omega (arith, items_short ns h.1, length-append (decimal n) (items ns), length-decimal-le 10 n (omega arith) (omega (arith, h.0)) (omega (arith, h.0)))

-- kinds that there are
kinds_low : (k : FourSides) → over_four k ≡ false → (k.left ≤ 4) × (k.right ≤ 4) × (k.top ≤ 4) × (k.bottom ≤ 4)
kinds_low k h =
    let l = ltb 4 k.left in
    let r = ltb 4 k.right in
    let t = ltb 4 k.top in
    let (three, bottom) = or_parts (l || r || t) (ltb 4 k.bottom) h in
    let (two, top) = or_parts (l || r) t three in
    let (left, right) = or_parts l r two in
    (ltb-false 4 k.left left, ltb-false 4 k.right right, ltb-false 4 k.top top, ltb-false 4 k.bottom bottom)

bands_short : (o : Option GuardBands) → SizesFit o → bad_bands o ≡ false → length (items (band_items o)) ≤ 99
bands_short None f h = omega arith
bands_short (Some b) f h =
    let flag : cond b.prediction 1 0 < 2 ^ 32 = elim b.prediction as (λ v. cond v 1 0 < 2 ^ 32) [ true ↦ omega arith | false ↦ omega arith ] in
    let (left, right, top, bottom) = f in
    let (lk, rk, tk, bk) = kinds_low b.kinds (or_parts (all_zero b.sizes) (over_four b.kinds) h).1 in
    items_short (band_items (Some b)) (
      omega (arith, left),
      (
        omega (arith, right),
        (
          omega (arith, top),
          (
            omega (arith, bottom),
            (
              flag,
              (omega (arith, lk), (omega (arith, rk), (omega (arith, tk), (omega (arith, bk), tt)))),
            ),
          ),
        ),
      ),
    )

row_short : (s : SheetSides) (i : ℕ) (r : Row) → i < 2 ^ 32 → RowFits r → FreeOfFaults s r → length (row_line i r) ≤ 209
row_short s i r lt (p, b, sizes) h =
    let (pw, ph, pt, pl) = p in
    let (bw, bh, bt, bl) = b in
    let plain : length (items (plain_items r)) ≤ 99 =
    items_short (plain_items r) (
      omega (arith, pw),
      (
        omega (arith, ph),
        (
          omega (arith, pt),
          (
            omega (arith, pl),
            (
              omega (arith, ltb-false 7 r.turn h.turn),
              (omega (arith, bw), (omega (arith, bh), (omega (arith, bt), (omega (arith, bl), tt)))),
            ),
          ),
        ),
      ),
    ) in
    omega (
      arith,
      length-decimal-le 10 i (omega arith) (omega arith) (omega arith),
      plain,
      bands_short r.bands sizes h.bands,
      length-append (decimal i) (items (plain_items r) ++ (items (band_items r.bands) ++ 10 ∷ [])),
      length-append (items (plain_items r)) (items (band_items r.bands) ++ 10 ∷ []),
      length-append (items (band_items r.bands)) (10 ∷ []),
    )

rows_short : (s : SheetSides) (rows : List Row) (i : ℕ) → i + length rows ≤ 2 ^ 31 → AllByRecursion RowFits rows → sound_rows s rows ≡ true →
    length (row_lines i rows) ≤ 209 * length rows
rows_short s [] i le f h = omega arith
rows_short s (r ∷ rows) i le f h =
    let (both, rest) = and_parts (sound_row s r && not (meets_any (claim r) rows)) (sound_rows s rows) h in
    let (one, apart) = and_parts (sound_row s r) (not (meets_any (claim r) rows)) both in
    omega (
      arith,
      row_short s i r (omega arith) f.0 (faultless s r one),
      rows_short s rows (suc i) (omega arith) f.1 rest,
      length-append (row_line i r) (row_lines (suc i) rows),
    )

sides_short : (s : SheetSides) (n : ℕ) → SidesFit s → n ≤ 255 → length (sheet_line s n) ≤ 61
sides_short s n (w, h, pw, ph) le =
    omega (
      arith,
      length-append (items (sheet_items s n)) (10 ∷ []),
      items_short (sheet_items s n) (omega (arith, w), (omega (arith, h), (omega (arith, pw), (omega (arith, ph), (omega arith, tt))))),
    )

-- what has a box has a listing that fits a text
pub sheet_short : (c : Content) → HasBox c → length (sheet_lines c.sides c.rows) ≤ 65536
sheet_short c h =
    let few : length c.rows ≤ 255 = omega (arith, h.few) in
    let ok = (and_parts (not (empty_picture c.sides)) (sound_rows c.sides c.rows) h.sound).1 in
    omega (
      arith,
      few,
      sides_short c.sides (length c.rows) h.sides few,
      rows_short c.sides c.rows 0 (omega (arith, few)) h.rows ok,
      length-append (sheet_line c.sides (length c.rows)) (row_lines 0 c.rows),
    )

number_small : (r : Refusal) → number r < 100
number_small InputEnds = omega arith
number_small SizeDiffers = omega arith
number_small NotRwpk = omega arith
number_small NoPayload = omega arith
number_small Paired = omega arith
number_small ReservedBit = omega arith
number_small NoRows = omega arith
number_small EmptySide = omega arith
number_small PackingType = omega arith
number_small BandFault = omega arith
number_small TurnCode = omega arith
number_small LeavesProjected = omega arith
number_small ClaimLeaves = omega arith
number_small ClaimMeets = omega arith
number_small BytesLeft = omega arith
number_small SheetFull = omega arith
number_small NoFreeSpot = omega arith
number_small NoSuchRow = omega arith
number_small PlaceOutside = omega arith
number_small NotCovered = omega arith
number_small UnfitSides = omega arith
number_small BufferShort = omega arith
number_small AllWritten = omega arith
number_small PartDue = omega arith

item_short : (n : ℕ) → n < 2 ^ 64 → length (items (n ∷ [])) ≤ 21
item_short n lt = omega (arith, length-append (decimal n) [], length-decimal-le 20 n (omega arith) (omega arith) lt)

-- so has every refusal
pub refused_short : (fault : Fault) → fault.place < 2 ^ 64 → length (refused_line fault) ≤ 65536
refused_short fault lt =
    let n : ℕ = number fault.refusal in
    let place : List ℕ = items (fault.place ∷ []) ++ 10 ∷ [] in
    omega (
      arith,
      item_short n (omega (arith, number_small fault.refusal)),
      item_short fault.place lt,
      length-append (items (n ∷ [])) (codes " at" ++ place),
      length-append (items (fault.place ∷ [])) (10 ∷ []),
    )
