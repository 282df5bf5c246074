use Rattle.std.proofs.Common.{◌≡◌, ℕ, ◌-◌, ◌<◌, true}
use Rattle.geometry.specs.Boxes.{covers}
use Rattle.geometry.proofs.search.Search.leftmost_free.Given as goal

-- every spot so far is taken
abbrev pub invariant-loop-left : goal.invariant-loop-left
invariant-loop-left l = (k : ℕ) → k < l.left → covers l.self.boxes.now l.top k ≡ true

abbrev pub decreases-loop-left : goal.decreases-loop-left
decreases-loop-left l = l.self.lefts - l.left
