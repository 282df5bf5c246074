use Rattle.std.proofs.Common.{refl, ap, ◌∙◌}
use Rattle.std.proofs.lemmas.Result.{err_from_is_err_and}
use Rattle.sheet.specs.Contents.{content}
use Rattle.sheet.specs.declared.row.SheetSides.{SheetSides}
use Rattle.packing.specs.Moves.{has_sides, fitted}
use Rattle.packing.proofs.Returning.{granted}
use Rattle.packing.proofs.Promised.{unmoved, moved, both, not_refused}
use Rattle.packing.proofs.rehearsing.there_and_back.Goals as goal

pub returns-in_err-pack : goal.returns-in_err-pack
returns-in_err-pack g c =
    let p = err_from_is_err_and c.from_residual-in_err-pack.result c.from_residual-in_err-pack.ensures.1 in
    let told = c.in_err-pack.ensures in
    rw (p.1, p.2)
    (record {
      stores = unmoved (content c.args.sheet.now) _ _ _ _ _ _ told.picture;
      rest = (told.rest, g.R.Store.keeps.same c.args.restored.now);
      untouched = (told.untouched, refl);
    })

pub returns : goal.returns
returns g c =
    let there = c.in_ok-pack.ensures in
    let back = c.unpack.ensures in
    let restored = g.R.Store.shown c.args.restored.now in
    let projected = granted _ (c.in_ok-check_sides.ensures
    ∙ ap (λ (s : SheetSides). fitted (has_sides restored s.projected.width s.projected.height)) c.sides.ensures) in
    let sheet = content c.args.sheet.now in
    record {
      stores = moved sheet _ _ _ _ _ c.unpack.result there.picture back.picture projected c.facts.ensures;
      rest = (there.rest, back.rest);
      untouched = not_refused c.unpack.result tt _ (both sheet _ _ _ _ _ c.unpack.result there.picture back.picture projected);
    }
