use Rattle.picture.specs.Lines.{Given, picked}
use Rattle.picture.specs.Stores.{layer_shown}
use Rattle.picture.proofs.layer.Layer.gather_each.Given as goal

abbrev pub invariant-loop-i : goal.invariant-loop-i
invariant-loop-i g l = Given l.i (picked (layer_shown g.V.LayerView.view g.S.Store.shown l.self) l.track l.steps) l.out
