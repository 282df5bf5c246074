use Rattle.std.proofs.Common.{◌≡◌, ◌+◌, ◌≤◌, max}
use Rattle.packing.specs.Maps.{filled}
use Rattle.packing.proofs.Filling.{box}
use Rattle.packing.proofs.claim_map.fill_line.Given as goal

abbrev pub invariant-loop-x : goal.invariant-loop-x
invariant-loop-x g l =
    (g.S.Store.shown l.map ≡ filled (g.S.Store.shown l.initial.map) (box l.y (l.y + 1) l.fn.area.left l.x) l.mark)
    × g.S.Store.kept l.initial.map l.map
    × (l.x ≤ max l.fn.area.left l.fn.area.right)
