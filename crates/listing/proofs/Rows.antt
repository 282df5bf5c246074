-- The lines of the rows, one by one.
use Rattle.std.proofs.Common.{◌≡◌, ℕ, ◌+◌, ◌<◌, ◌≤◌, List, ◌++◌, length, get_or, drop, sym, ap, ◌∙◌, add-one, arith, length-append}
use Rattle.std.proofs.lemmas.List.{at_drop_more}
use Rattle.sheet.specs.declared.row.Row.{Row}
use Rattle.listing.specs.Lines.{row_line, row_lines}
use Rattle.listing.proofs.Texts.{room_left}

-- one turn of the loop over the rows
module _ (a w : List ℕ) (rows : List Row) (i : ℕ) (d : Row) (h : i < length rows) (inv : a ++ row_lines i (drop i rows) ≡ w ++ row_lines 0 rows) where
  here : row_lines i (drop i rows) ≡ row_line i (get_or rows i d) ++ row_lines (i + 1) (drop (i + 1) rows)
  here = at_drop_more (row_lines i) rows i d h ∙ ap (λ k. row_line i (get_or rows i d) ++ row_lines k (drop (i + 1) rows)) (sym (add-one i))

  pub row_room : length w + length (row_lines 0 rows) ≤ 65536 → length a + length (row_line i (get_or rows i d)) ≤ 65536
  row_room le =
      omega (arith, room_left a (row_lines i (drop i rows)) w (row_lines 0 rows) inv, ap length here, length-append (row_line i (get_or rows i d)) (row_lines (i + 1) (drop (i + 1) rows)))
