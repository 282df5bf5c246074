use Rattle.std.proofs.Common.{List, sym, ap, ◌∙◌, subst}
use Rattle.std.specs.List.{AllByRecursion}
use Rattle.std.proofs.lemmas.List.{nil_from_length}
use Rattle.picture.specs.Draws.{drawn}
use Rattle.sheet.specs.declared.row.Row.{Row}
use Rattle.packing.specs.Carries.{carried}
use Rattle.packing.specs.Moves.{pulled}
use Rattle.packing.proofs.Carrying.{all_last, drawn_none, drawn_last}
use Rattle.packing.proofs.moving.move_rows.Goals as goal

pub loop-row-preserved : goal.loop-row-preserved
loop-row-preserved g c =
    let has = g.W.Way.has in
    let origin = g.W.Way.origin in
    let p = g.P.Store.shown c.args.from.now in
    let q = g.Q.Store.shown c.loop-row.to in
    let steps = c.in-Some.ensures.steps in (
      drawn_last has origin p q _ _ _ (carried c.carry.result) c.carry.ensures.carries c.carry_over.ensures.after
          ∙ ap (λ (rows : List Row). drawn (pulled has origin rows) p q) (sym steps)
          ∙ c.loop-row.invariant.0,
      g.Q.Store.keeps.chain _ _ _ c.loop-row.invariant.1 c.carry_over.ensures.rest,
      (all_last _ _ _ (subst (AllByRecursion _) steps c.loop-row.invariant.2)).0,
    )

pub returns-clause-after : goal.returns-clause-after
returns-clause-after g c =
    let has = g.W.Way.has in
    let origin = g.W.Way.origin in
    let p = g.P.Store.shown c.args.from.now in
    let q = g.Q.Store.shown c.loop-row.to in
    let none = nil_from_length _ c.in-None.ensures.steps.0 in
    sym (drawn_none has origin p q) ∙ ap (λ (rows : List Row). drawn (pulled has origin rows) p q) (sym none) ∙ c.loop-row.invariant.0
