use Rattle.std.proofs.lemmas.Bool.{and_parts}
use Rattle.sheet.specs.Contents.{content}
use Rattle.packing.proofs.Lying.{rows_lie}
use Rattle.packing.proofs.Returning.{granted}
use Rattle.packing.proofs.packing.pack.Goals as goal

pub move_rows-requires : goal.move_rows-requires
move_rows-requires g c =
    let fits = and_parts _ _ (granted _ c.in_ok-check_fit.ensures) in
    rows_lie (content c.args.sheet.now) _ (g.P.Store.shown c.args.from.now) (g.Q.Store.shown c.args.to.now)
    c.rows.ensures c.facts.ensures fits.0 fits.1
