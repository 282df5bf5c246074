use Rattle.std.proofs.Common.{◌≡◌, ℕ, ◌+◌, ◌<◌, get_or}
use Rattle.packing.specs.Carries.{step}
use Rattle.packing.proofs.course.Course.fill.Given as goal

abbrev pub invariant-loop-i : goal.invariant-loop-i
invariant-loop-i l = (k : ℕ) → k < l.i → get_or l.steps k 0 ≡ step l.self (l.start + k)
