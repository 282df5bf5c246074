use Rattle.std.proofs.Common.{drop}
use Rattle.std.specs.List.{AllByRecursion}
use Rattle.rwpk.specs.Laws.{RowFits}
use Rattle.writer.proofs.fits.rows_fit.Given as goal

-- all rows fit if those do that are left
abbrev pub invariant-loop-row : goal.invariant-loop-row
invariant-loop-row l = AllByRecursion RowFits (drop l.row-index l.rows) → AllByRecursion RowFits l.rows
