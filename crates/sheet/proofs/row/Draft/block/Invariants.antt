use Rattle.std.proofs.Common.{◌≡◌, ◌+◌, ◌++◌, length, take}
use Rattle.std.specs.List.{flat_map}
use Rattle.sheet.specs.Blocked.{walls, against}
use Rattle.sheet.specs.Claims.{reaches}
use Rattle.sheet.proofs.row.Draft.block.Given as goal

abbrev pub invariant-loop-wall : goal.invariant-loop-wall
invariant-loop-wall l = l.boxes.items ≡ take l.wall-index l.wall-items

-- the walls, and the boxes against the rows so far
abbrev pub invariant-loop-row : goal.invariant-loop-row
invariant-loop-row l =
    (length l.boxes.items ≡ 4 + l.row-index)
    × (l.boxes.items ≡ flat_map (walls l.fn.packed l.self) (reaches l.self.bands) ++ flat_map (against l.self) (take l.row-index l.rows))
