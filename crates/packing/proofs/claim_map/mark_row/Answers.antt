use Rattle.std.proofs.Common.{List, ap, ◌∙◌, ap₂}
use Rattle.geometry.specs.declared.bounds.Bounds.{Bounds}
use Rattle.picture.specs.declared.mark.Mark.TheVariants.{Body, Band}
use Rattle.packing.specs.Maps.{filled, filled_all}
use Rattle.packing.proofs.Marking.{row_marked}
use Rattle.packing.proofs.claim_map.mark_row.Goals as goal

pub returns : goal.returns
returns g c =
    let p = g.S.Store.shown c.args.map.now in
    let n = c.args.number in
    record {
      after =
          c.fill.ensures.after
          ∙ ap₂ (λ a (b : Bounds). filled a b (Body n))
          (c.fill_all.ensures.after ∙ ap (λ (l : List Bounds). filled_all p l (Band n)) c.claim.ensures.value) c.from.ensures
          ∙ row_marked p n c.args.row.now;
      rest = g.S.Store.keeps.chain _ _ _ c.fill_all.ensures.rest c.fill.ensures.rest;
    }
