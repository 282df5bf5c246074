use Rattle.std.proofs.Common.{◌≡◌}
use Rattle.picture.specs.Lines.{lined}
use Rattle.picture.specs.Stores.{layer_shown, layer_kept}
use Rattle.picture.proofs.layer.Layer.put_each.Given as goal

abbrev pub invariant-loop-i : goal.invariant-loop-i
invariant-loop-i g l =
    let view = g.V.LayerView.view in
    let shown = g.S.Store.shown in
    (layer_shown view shown l.self ≡ lined (layer_shown view shown l.initial.self) l.place l.i (g.L.Line.held l.line))
    × layer_kept view shown g.S.Store.kept l.initial.self l.self
