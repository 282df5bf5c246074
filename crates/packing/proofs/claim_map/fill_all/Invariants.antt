use Rattle.std.proofs.Common.{◌≡◌, drop}
use Rattle.packing.specs.Maps.{filled_all}
use Rattle.packing.proofs.claim_map.fill_all.Given as goal

abbrev pub invariant-loop-area : goal.invariant-loop-area
invariant-loop-area g l =
    (filled_all (g.S.Store.shown l.map) (drop l.area-index l.areas) l.mark ≡
    filled_all (g.S.Store.shown l.initial.map) l.areas l.mark)
    × g.S.Store.kept l.initial.map l.map
