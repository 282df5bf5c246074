use Rattle.std.proofs.Common.{◌≡◌, ◌≤◌}
use Rattle.picture.specs.Draws.{drawn}
use Rattle.packing.specs.Strips.{strip}
use Rattle.packing.proofs.carry.carry_over.Given as goal

abbrev pub invariant-loop-start : goal.invariant-loop-start
invariant-loop-start g l =
    (g.Q.Store.shown l.to ≡ drawn (strip l.carry 0 l.start l.carry.down.parts) (g.P.Store.shown l.from)
    (g.Q.Store.shown l.initial.to))
    × g.Q.Store.kept l.initial.to l.to
    × (l.start ≤ l.carry.across.parts)
