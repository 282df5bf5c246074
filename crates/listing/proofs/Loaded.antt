-- The listing of a box, by what load answers and leaves.
use Rattle.std.proofs.Common.{◌≡◌, ℕ, ◌+◌, ◌^◌, ◌<◌, ◌≤◌, List, [], ◌++◌, length, Ok, Err, Result, sym, ap, ◌∙◌, ap₂, arith}
use Rattle.sheet.specs.declared.row.Row.{Row}
use Rattle.sheet.specs.declared.row.SheetSides.{SheetSides}
use Rattle.sheet.specs.Rules.{Content}
use Rattle.rwpk.specs.declared.fault.Fault.{Fault}
use Rattle.rwpk.specs.Boxes.{box_of_bytes}
use Rattle.rwpk.specs.Fields.{◌>>=◌}
use Rattle.rwpk.specs.Laws.{Bytes}
use Rattle.rwpk.specs.Loading.{load_answer, load_next, or_else}
use Rattle.rwpk.proofs.BoxBack.{box_back}
use Rattle.listing.specs.Lines.{sheet_lines, refused_line}
use Rattle.listing.specs.Listing.{listed, listing}
use Rattle.listing.proofs.Lengths.{sheet_short, refused_short}

-- what load answers, by what was read
abbrev answered : Result Content Fault → Result (Unit {0}) Fault
answered r = r >>= (λ _. Ok tt)

-- a box that is granted, on the sheet that load leaves, whose sides and rows are s and rows
module _
    (input : List ℕ) (m old : Content) (u : Unit {0}) (e : Ok u ≡ load_answer input) (after : m ≡ load_next input old)
    (s : SheetSides) (rows : List Row) (sides-are : s ≡ m.sides) (rows_are : rows ≡ m.rows) (t : List ℕ) (bare : t ≡ [])
  where
    was_read : box_of_bytes input ≡ Ok m
    was_read = go (box_of_bytes input) e after
      where
        go : (r : Result Content Fault) → Ok u ≡ answered r → m ≡ or_else r old → r ≡ Ok m
        go (Ok c) e a = ap Ok (sym a)
        go (Err f) e a = let z : ◌≡◌ {A = ℕ} 0 1 = cc in absurd (omega arith)

    lines : sheet_lines s rows ≡ sheet_lines m.sides m.rows
    lines = ap₂ sheet_lines sides-are rows_are

    pub granted_room : Bytes input → length t + length (sheet_lines s rows) ≤ 65536
    granted_room small = omega (arith, ap length bare, ap length lines, sheet_short m (box_back input small m (sym was_read)).0)

    pub granted_lines : (new : List ℕ) → new ≡ t ++ sheet_lines s rows → new ≡ listing input
    granted_lines new is = is ∙ ap (λ a. a ++ sheet_lines s rows) bare ∙ lines ∙ sym (ap listed was_read)

-- a box that is refused
pub refused_room : (fault : Fault) (t : List ℕ) → t ≡ [] → fault.place < 2 ^ 64 → length t + length (refused_line fault) ≤ 65536
refused_room fault t bare lt = omega (arith, ap length bare, refused_short fault lt)

pub refused_lines : (input : List ℕ) (fault : Fault) → Err fault ≡ load_answer input → (t new : List ℕ) → t ≡ [] → new ≡ t ++ refused_line fault →
    new ≡ listing input
refused_lines input fault e t new bare is = is ∙ ap (λ a. a ++ refused_line fault) bare ∙ go (box_of_bytes input) e
  where
    go : (r : Result Content Fault) → Err fault ≡ answered r → refused_line fault ≡ listed r
    go (Ok c) e = let z : ◌≡◌ {A = ℕ} 0 1 = cc in absurd (omega arith)
    go (Err f) e = let same : fault ≡ f = cc in ap refused_line same
