use Rattle.std.proofs.Common.{◌+◌, drop, sym, ap, ◌∙◌}
use Rattle.std.proofs.lemmas.List.{at_drop_more, at_drop_all}
use Rattle.packing.specs.Maps.{filled_all}
use Rattle.packing.proofs.Filling.{boxes_more}
use Rattle.packing.proofs.claim_map.fill_all.Goals as goal

pub loop-area-preserved : goal.loop-area-preserved
loop-area-preserved g c =
    let areas = c.args.areas.now in
    let mark = c.args.mark in
    let i = c.loop-area.area-index in
    let p = g.S.Store.shown c.loop-area.map in (
      ap (λ a. filled_all a (drop (i + 1) areas) mark) c.fill.ensures.after
          ∙ boxes_more mark p _ (drop (i + 1) areas)
          ∙ sym (at_drop_more (λ l. filled_all p l mark) areas i _ c.loop-area-test.true)
          ∙ c.loop-area.invariant.0,
      g.S.Store.keeps.chain _ _ _ c.loop-area.invariant.1 c.fill.ensures.rest,
    )

pub returns : goal.returns
returns g c =
    let areas = c.args.areas.now in
    let p = g.S.Store.shown c.loop-area.map in
    record {
      after = sym (at_drop_all (λ l. filled_all p l c.args.mark) areas c.loop-area.area-index c.loop-area-test.false) ∙ c.loop-area.invariant.0;
      rest = c.loop-area.invariant.1;
    }
