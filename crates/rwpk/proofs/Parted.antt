-- How long the parts of a box are, and the box that they make.
use Rattle.std.proofs.Common.{◌≡◌, ℕ, suc, ◌+◌, ◌-◌, ◌*◌, ◌≤◌, List, [], ◌∷◌, ◌++◌, map, length, get_or, drop, Some, None, Option, sym, refl, ap, ◌∙◌, arith, length-append}
use Rattle.std.specs.List.{flat_map}
use Rattle.std.proofs.lemmas.List.{length-map, take_all, get_or-map}
use Rattle.sheet.specs.declared.row.GuardBands.{GuardBands}
use Rattle.sheet.specs.declared.row.Row.{Row}
use Rattle.sheet.specs.Rules.{Content}
use Rattle.rwpk.specs.Boxes.{length_with, row_length}
use Rattle.rwpk.specs.Bytes.{word_bytes, bytes_if, row_bytes, rows_bytes, head_bytes, box_of}
use Rattle.rwpk.specs.Parts.{part_at, parts_before, place_of}
use Rattle.rwpk.proofs.Laying.{row_length_le}

bands_long : (o : Option GuardBands) → 26 + length (bytes_if o) ≡ length_with o
bands_long None = refl
bands_long (Some g) = refl

pub row_long : (r : Row) → length (row_bytes r) ≡ row_length r
row_long r = omega (arith, bands_long r.bands)

pub rows_long : (rows : List Row) → length (rows_bytes rows) ≤ 32 * length rows
rows_long [] = omega arith
rows_long (r ∷ rows) = simp length-append (omega (arith, rows_long rows, row_long r, row_length_le r))

joined_map : (rows : List Row) → flat_map (λ part. part) (map row_bytes rows) ≡ rows_bytes rows
joined_map [] = refl
joined_map (r ∷ rows) = ap (λ bs. row_bytes r ++ bs) (joined_map rows)

-- all the parts, end to end
pub all_parts : (c : Content) → parts_before c (suc (length c.rows)) ≡ head_bytes 0 (length c.rows) c.sides ++ rows_bytes c.rows
all_parts c =
    let head : List ℕ = head_bytes 0 (length c.rows) c.sides in
    let short : length (map row_bytes c.rows) ≤ length c.rows = simp length-map (omega arith) in
    ap (λ ps. head ++ flat_map (λ part. part) ps) (take_all (length c.rows) (map row_bytes c.rows) short)
    ∙ ap (λ bs. head ++ bs) (joined_map c.rows)

pub parts_end : (c : Content) → place_of c (suc (length c.rows)) ≡ length (box_of c)
parts_end c = ap length (all_parts c)

pub parts_box : (c : Content) → box_of c ≡ word_bytes 4 (length (box_of c)) ++ drop 4 (parts_before c (suc (length c.rows)))
parts_box c =
    let long : 26 + length (rows_bytes c.rows) ≡ length (box_of c) = omega arith in
    ap (λ k. head_bytes k (length c.rows) c.sides ++ rows_bytes c.rows) long
    ∙ ap (λ bs. word_bytes 4 (length (box_of c)) ++ drop 4 bs) (sym (all_parts c))

-- part k is the row with number k - 1
pub part_row : (c : Content) (rows : List Row) (k : ℕ) (d : Row) → rows ≡ c.rows → (k ≡ 0 → ⊥) → k ≤ length rows →
    row_bytes (get_or rows (k - 1) d) ≡ part_at c k
part_row c rows k d e some h =
    let before : k ≡ suc (k - 1) = omega arith in
    ap (λ rs. row_bytes (get_or rs (k - 1) d)) e
    ∙ sym (get_or-map row_bytes c.rows (k - 1) d [] (omega (arith, ap length e)))
    ∙ sym (ap (part_at c) before)
