use Rattle.picture.specs.Lines.{Given, picked}
use Rattle.picture.proofs.store.Store.gather.Given as goal

abbrev pub invariant-loop-i : goal.invariant-loop-i
invariant-loop-i g l = Given l.i (picked (g.Self.Store.shown l.self) l.track l.steps) l.out
