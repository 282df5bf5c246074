use Rattle.picture.specs.Lines.{Given, picked}
use Rattle.picture.specs.Runs.{laid}
use Rattle.picture.proofs.layout.RunLayout.gather.Given as goal

abbrev pub invariant-loop-i : goal.invariant-loop-i
invariant-loop-i g l = Given l.i (picked (laid g.Self.RunLayout.layout l.sides l.samples) l.track l.steps) l.out
