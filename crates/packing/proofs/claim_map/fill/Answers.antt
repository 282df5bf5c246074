use Rattle.std.proofs.Common.{ap, ◌∙◌, arith}
use Rattle.packing.specs.Maps.{filled, line_of}
use Rattle.packing.proofs.Filling.{box, filled_none, filled_same, box_more, no_box, whole_box}
use Rattle.packing.proofs.claim_map.fill.Goals as goal

pub loop-y-init : goal.loop-y-init
loop-y-init g c =
    let area = c.args.area in (
      filled_none c.args.mark (g.S.Store.shown c.args.map.now) (box area.top area.top area.left area.right)
          (no_box area.top area.left area.right),
      g.S.Store.keeps.same c.args.map.now,
      omega arith,
    )

pub loop-y-preserved : goal.loop-y-preserved
loop-y-preserved g c =
    let area = c.args.area in
    let y = c.loop-y.y in (
      c.fill_line.ensures.after
          ∙ ap (λ a. filled a (line_of area y) c.args.mark) c.loop-y.invariant.0
          ∙ box_more c.args.mark (g.S.Store.shown c.args.map.now) area y c.loop-y.auto.y,
      g.S.Store.keeps.chain _ _ _ c.loop-y.invariant.1 c.fill_line.ensures.rest,
      omega arith,
    )

pub returns : goal.returns
returns g c =
    record {
      after =
          c.loop-y.invariant.0
          ∙ filled_same c.args.mark (g.S.Store.shown c.args.map.now) _ _
          (whole_box c.args.area c.loop-y.y c.loop-y-test.false c.loop-y.invariant.2);
      rest = c.loop-y.invariant.1;
    }
