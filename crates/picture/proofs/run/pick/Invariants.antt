use Rattle.std.proofs.Common.{◌+◌, ◌*◌, get_or}
use Rattle.std.specs.List.{slice_get}
use Rattle.picture.specs.Lines.{Given}
use Rattle.picture.proofs.run.pick.Given as goal

abbrev pub invariant-loop-i : goal.invariant-loop-i
invariant-loop-i g l = Given l.i (λ i. slice_get l.samples (l.spot + get_or l.steps i 0 * l.stride)) l.out
