use Rattle.std.proofs.Common.{◌≡◌, ℕ, ◌-◌, ◌<◌, false, ltb}
use Rattle.geometry.specs.FirstFree.{first_left, clear}
use Rattle.geometry.proofs.search.Search.highest_free.Given as goal

-- no top so far has a free spot
abbrev pub invariant-loop-top : goal.invariant-loop-top
invariant-loop-top l = (k : ℕ) → k < l.top → ltb (first_left (clear l.self.boxes.now) l.self.lefts k) l.self.lefts ≡ false

abbrev pub decreases-loop-top : goal.decreases-loop-top
decreases-loop-top l = l.self.tops - l.top
