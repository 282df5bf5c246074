use Rattle.std.proofs.Common.{◌≡◌, ◌+◌, List, [], ◌∷◌, length, sym, ap, ◌∙◌, arith, length-append}
use Rattle.std.proofs.lemmas.List.{nil_from_length}
use Rattle.sheet.specs.declared.row.Row.{Row}
use Rattle.packing.specs.Maps.{marked}
use Rattle.packing.proofs.Marking.{marked_none, marked_last}
use Rattle.packing.proofs.claim_map.mark_rows.Goals as goal

pub loop-n-preserved : goal.loop-n-preserved
loop-n-preserved g c =
    let p = g.S.Store.shown c.loop-n.map in
    let steps = c.in-Some.ensures.steps in
    let left = c.next.new.self.iter.iter.rest.now in
    let inv = c.loop-n.invariant in
    let n : c.in-Some.n ≡ 0 + length left = omega (arith, steps.1.1, inv.2, steps.0) in (
      ap (marked 0 left) c.mark_row.ensures.after
          ∙ marked_last p 0 c.in-Some.n left _ n
          ∙ ap (λ (rows : List Row). marked 0 rows p) (sym steps.1.0)
          ∙ inv.0,
      g.S.Store.keeps.chain _ _ _ inv.1 c.mark_row.ensures.rest,
      steps.0 ∙ inv.2,
      omega (arith, ap length steps.1.0, length-append left (c.in-Some.row.now ∷ []), inv.3),
    )

pub returns-clause-after : goal.returns-clause-after
returns-clause-after g c =
    let p = g.S.Store.shown c.loop-n.map in
    let none = nil_from_length _ c.in-None.ensures.steps.1.0 in
    sym (marked_none p 0) ∙ ap (λ (rows : List Row). marked 0 rows p) (sym none) ∙ c.loop-n.invariant.0
