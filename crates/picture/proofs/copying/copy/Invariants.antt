use Rattle.std.proofs.Common.{◌≡◌}
use Rattle.picture.specs.Copies.{rows_to}
use Rattle.picture.specs.Draws.{drawn}
use Rattle.picture.proofs.copying.copy.Given as goal

abbrev pub invariant-loop-y : goal.invariant-loop-y
invariant-loop-y g l =
    (g.Q.Store.shown l.to ≡ drawn (rows_to (g.P.Store.shown l.from).sides.width l.y) (g.P.Store.shown l.from)
    (g.Q.Store.shown l.initial.to))
    × g.Q.Store.kept l.initial.to l.to
