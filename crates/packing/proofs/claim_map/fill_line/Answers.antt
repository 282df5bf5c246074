use Rattle.std.proofs.Common.{◌+◌, ap, ◌∙◌, arith}
use Rattle.geometry.specs.Places.{at}
use Rattle.picture.specs.Picture.{painted}
use Rattle.packing.proofs.Filling.{box, filled_none, filled_same, line_more, no_line, whole_line}
use Rattle.packing.proofs.claim_map.fill_line.Goals as goal

pub loop-x-init : goal.loop-x-init
loop-x-init g c =
    let left = c.args.area.left in
    let y = c.args.y in (
      filled_none c.args.mark (g.S.Store.shown c.args.map.now) (box y (y + 1) left left) (no_line y left),
      g.S.Store.keeps.same c.args.map.now,
      omega arith,
    )

pub loop-x-preserved : goal.loop-x-preserved
loop-x-preserved g c =
    let left = c.args.area.left in
    let x = c.loop-x.x in (
      c.put.ensures.after
          ∙ ap (λ a. painted a (at x c.args.y) c.args.mark) c.loop-x.invariant.0
          ∙ line_more c.args.mark (g.S.Store.shown c.args.map.now) c.args.y left x c.loop-x.auto.x,
      g.S.Store.keeps.chain _ _ _ c.loop-x.invariant.1 c.put.ensures.rest,
      omega arith,
    )

pub returns : goal.returns
returns g c =
    record {
      after =
          c.loop-x.invariant.0
          ∙ filled_same c.args.mark (g.S.Store.shown c.args.map.now) _ _
          (whole_line c.args.y c.args.area c.loop-x.x c.loop-x-test.false c.loop-x.invariant.2);
      rest = c.loop-x.invariant.1;
    }
