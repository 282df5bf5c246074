use Rattle.std.proofs.Common.{◌≡◌, drop}
use Rattle.geometry.specs.Jumps.{past}
use Rattle.geometry.proofs.search.Search.past.Given as goal

-- what is left to look at decides
abbrev pub invariant-loop-b : goal.invariant-loop-b
invariant-loop-b l =
    past l.self.boxes.now l.spot.top l.spot.left ≡ past (drop l.b-index l.self.boxes.now) l.spot.top l.spot.left
