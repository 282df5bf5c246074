use Rattle.std.proofs.Common.{◌+◌, ap, ◌∙◌}
use Rattle.picture.specs.Copies.{row_to, rows_to}
use Rattle.picture.specs.Draws.{drawn}
use Rattle.picture.proofs.Drawing.{drawn_then}
use Rattle.picture.proofs.RowByRow.{rows_more}
use Rattle.picture.proofs.copying.copy.Goals as goal

pub loop-y-preserved : goal.loop-y-preserved
loop-y-preserved g c =
    let p = g.P.Store.shown c.args.from.now in
    let q = g.Q.Store.shown c.args.to.now in
    let y = c.loop-y.y in
    let w = p.sides.width in (
      c.copy_row.ensures.after ∙ ap (drawn (row_to y w) p) c.loop-y.invariant.0
          ∙ drawn_then (rows_to w y) (row_to y w) (rows_to w (y + 1)) p q (rows_more w y),
      g.Q.Store.keeps.chain _ _ _ c.loop-y.invariant.1 c.copy_row.ensures.rest,
    )
