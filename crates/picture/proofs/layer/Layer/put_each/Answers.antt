use Rattle.std.proofs.Common.{◌+◌, ◌<◌, ap, ◌∙◌, subst, arith}
use Rattle.geometry.specs.Places.{at}
use Rattle.picture.specs.KeptSteps.{layer_keeps}
use Rattle.picture.specs.Picture.{Sound, painted}
use Rattle.picture.specs.Soundness.{narrow_sound}
use Rattle.picture.specs.Stores.{layer_shown}
use Rattle.picture.proofs.Stretches.{lined_more}
use Rattle.picture.proofs.layer.Layer.put_each.Goals as goal

pub loop-i-preserved : goal.loop-i-preserved
loop-i-preserved g c =
    let view = g.V.LayerView.view in
    let shown = g.S.Store.shown in
    let p = layer_shown view shown c.args.self.now in
    let s = c.loop-i.self in
    let place = c.args.place in
    let i = c.loop-i.i in
    let v = c.sample.result in
    let across : place.x + i < p.sides.width = omega arith in
    let inv = c.loop-i.invariant.0 in
    let sound = subst Sound inv
    (narrow_sound (view s.view) (g.V.LayerView.inner s.view) (g.V.LayerView.narrow s.view) (shown s.below) (g.S.Store.sound s.below)) in (
      c.put_sample.ensures.after
          ∙ ap (λ a. painted a (at (place.x + i) place.y) v) inv
          ∙ lined_more p place i (g.L.Line.held c.args.line.now) v sound across c.requires.down c.sample.ensures,
      (layer_keeps view shown g.S.Store.kept g.S.Store.keeps).chain _ _ _ c.loop-i.invariant.1 c.put_sample.ensures.rest,
    )
