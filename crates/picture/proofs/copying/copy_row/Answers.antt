use Rattle.std.proofs.Common.{◌≡◌, ◌+◌, ◌<◌, true, sym, ap, ◌∙◌, subst, arith}
use Rattle.geometry.specs.Places.{at, inside}
use Rattle.geometry.proofs.Insides.{inside_from}
use Rattle.picture.specs.Picture.{Sound, painted}
use Rattle.picture.specs.Copies.{row_to}
use Rattle.picture.proofs.Drawing.{drawn_more}
use Rattle.picture.proofs.Pictures.{some_of}
use Rattle.picture.proofs.RowByRow.{row_more, sides_same}
use Rattle.picture.proofs.copying.copy_row.Goals as goal

pub loop-x-preserved : goal.loop-x-preserved
loop-x-preserved g c =
    let p = g.P.Store.shown c.args.from.now in
    let q = g.Q.Store.shown c.args.to.now in
    let x = c.loop-x.x in
    let y = c.args.y in
    let v = c.in_ok-sample.sample in
    let across : x < p.sides.width = omega arith in
    let here : inside q.sides (at x y) ≡ true =
    ap (λ s. inside s (at x y)) (sym (sides_same p q c.requires.same)) ∙ inside_from _ _ across c.requires.inside in
    let inv = c.loop-x.invariant.0 in (
      c.put.ensures.after
          ∙ ap (λ a. painted a (at x y) v) inv
          ∙ drawn_more (row_to y x) (row_to y (x + 1)) p q (at x y) (at x y) v (subst Sound inv (g.Q.Store.sound c.loop-x.to)) here
          (some_of _ v _ c.in_ok-sample.ensures) (row_more y x),
      g.Q.Store.keeps.chain _ _ _ c.loop-x.invariant.1 c.put.ensures.rest,
    )
