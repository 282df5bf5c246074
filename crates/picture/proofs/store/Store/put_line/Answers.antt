use Rattle.std.proofs.Common.{◌+◌, ◌<◌, ap, ◌∙◌, subst, arith}
use Rattle.geometry.specs.Places.{at}
use Rattle.picture.specs.Picture.{Sound, painted}
use Rattle.picture.proofs.Stretches.{lined_more}
use Rattle.picture.proofs.store.Store.put_line.Goals as goal

pub loop-i-preserved : goal.loop-i-preserved
loop-i-preserved g c =
    let p = g.Self.Store.shown c.args.self.now in
    let place = c.args.place in
    let i = c.loop-i.i in
    let v = c.sample.result in
    let across : place.x + i < p.sides.width = omega arith in
    let inv = c.loop-i.invariant.0 in
    let sound = subst Sound inv (g.Self.Store.sound c.loop-i.self) in (
      c.put.ensures.after
          ∙ ap (λ a. painted a (at (place.x + i) place.y) v) inv
          ∙ lined_more p place i (g.L.Line.held c.args.line.now) v sound across c.requires.down c.sample.ensures,
      g.Self.Store.keeps.chain _ _ _ c.loop-i.invariant.1 c.put.ensures.rest,
    )
