use Rattle.std.proofs.Common.{◌≡◌, length}
use Rattle.picture.specs.Draws.{drawn}
use Rattle.packing.specs.Strips.{strip}
use Rattle.packing.proofs.carry.carry_strip.Given as goal

abbrev pub invariant-loop-j : goal.invariant-loop-j
invariant-loop-j g l =
    (g.Q.Store.shown l.to ≡ drawn (strip l.carry l.start (length l.steps) l.j) (g.P.Store.shown l.from)
    (g.Q.Store.shown l.initial.to))
    × g.Q.Store.kept l.initial.to l.to
