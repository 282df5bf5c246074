-- The numbers of a sheet fit the fields of its box, row by row.
use Rattle.std.proofs.Common.{ℕ, ◌+◌, ◌<◌, ◌≤◌, List, length, get_or, drop, sym, subst, arith}
use Rattle.std.specs.List.{AllByRecursion}
use Rattle.std.proofs.lemmas.List.{at_drop_more, at_drop_all}
use Rattle.rwpk.specs.Laws.{SidesFit, RowFits, HasBox}
use Rattle.sheet.specs.Contents.{content}
use Rattle.sheet.specs.declared.row.Row.{Row}
use Rattle.sheet.specs.declared.sheet.Sheet.{Sheet}

pub one_more : (rows : List Row) (i : ℕ) (d : Row) → i < length rows → RowFits (get_or rows i d) → AllByRecursion RowFits (drop (i + 1) rows) →
    AllByRecursion RowFits (drop i rows)
one_more rows i d inside here rest = subst (λ l. AllByRecursion RowFits l) (sym (at_drop_more (λ l. l) rows i d inside)) (here, rest)

pub no_more : (rows : List Row) (i : ℕ) → length rows ≤ i → AllByRecursion RowFits (drop i rows)
no_more rows i h = subst (λ l. AllByRecursion RowFits l) (sym (at_drop_all (λ l. l) rows i h)) tt

pub has_box : (s : Sheet) → SidesFit (content s).sides → AllByRecursion RowFits (content s).rows → length (content s).rows ≤ 255 →
    0 < length (content s).rows → HasBox (content s)
has_box s sides rows few some =
    let small : length (content s).rows < 256 = omega (arith, few) in
    record { sound = s.sound; some = some; few = small; sides = sides; rows = rows }
