use Rattle.std.proofs.Common.{◌≡◌, ◌≤◌, max}
use Rattle.packing.specs.Maps.{filled}
use Rattle.packing.proofs.Filling.{box}
use Rattle.packing.proofs.claim_map.fill.Given as goal

abbrev pub invariant-loop-y : goal.invariant-loop-y
invariant-loop-y g l =
    (g.S.Store.shown l.map ≡ filled (g.S.Store.shown l.initial.map) (box l.area.top l.y l.area.left l.area.right) l.mark)
    × g.S.Store.kept l.initial.map l.map
    × (l.y ≤ max l.area.top l.area.bottom)
