use Rattle.std.proofs.Common.{◌≡◌}
use Rattle.picture.specs.Copies.{row_to}
use Rattle.picture.specs.Draws.{drawn}
use Rattle.picture.proofs.copying.copy_row.Given as goal

abbrev pub invariant-loop-x : goal.invariant-loop-x
invariant-loop-x g l =
    (g.Q.Store.shown l.to ≡ drawn (row_to l.y l.x) (g.P.Store.shown l.from) (g.Q.Store.shown l.initial.to))
    × g.Q.Store.kept l.initial.to l.to
