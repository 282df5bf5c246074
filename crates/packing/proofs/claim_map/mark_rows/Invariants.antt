use Rattle.std.proofs.Common.{◌≡◌, ◌≤◌, length}
use Rattle.packing.specs.Maps.{marked}
use Rattle.packing.proofs.claim_map.mark_rows.Given as goal

-- the rows that are left have yet to be marked
abbrev pub invariant-loop-n : goal.invariant-loop-n
invariant-loop-n g l =
    let left = l.n-iterator.iter.iter.rest.now in
    (marked 0 left (g.S.Store.shown l.map) ≡ marked 0 l.rows (g.S.Store.shown l.initial.map))
    × g.S.Store.kept l.initial.map l.map
    × (l.n-iterator.iter.count ≡ 0)
    × (length left ≤ 255)
