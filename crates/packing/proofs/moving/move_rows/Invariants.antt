use Rattle.std.proofs.Common.{◌≡◌}
use Rattle.std.specs.List.{AllByRecursion}
use Rattle.picture.specs.Draws.{drawn}
use Rattle.packing.specs.Moves.{pulled}
use Rattle.packing.specs.Rows.{LiesIn}
use Rattle.packing.proofs.moving.move_rows.Given as goal

-- the rows that are left have yet to be drawn
abbrev pub invariant-loop-row : goal.invariant-loop-row
invariant-loop-row g l =
    let p = g.P.Store.shown l.from in
    let q = g.Q.Store.shown l.initial.to in
    let left = l.row-iterator.iter.rest.now in
    (drawn (pulled g.W.Way.has g.W.Way.origin left) p (g.Q.Store.shown l.to) ≡ drawn (pulled g.W.Way.has g.W.Way.origin l.rows) p q)
    × g.Q.Store.kept l.initial.to l.to
    × AllByRecursion (LiesIn (g.W.Way.projected p.sides q.sides) (g.W.Way.packed p.sides q.sides)) left
