use Rattle.std.proofs.Common.{◌≡◌, ℕ, List, length, sym, ap, ◌∙◌, subst, ap₂, arith}
use Rattle.geometry.specs.declared.place.Sides.{Sides}
use Rattle.picture.specs.Picture.{Picture}
use Rattle.picture.specs.declared.mark.Mark.{Mark}
use Rattle.sheet.specs.declared.row.Row.{Row}
use Rattle.picture.specs.declared.mark.Mark.TheVariants.{Nobody}
use Rattle.sheet.specs.declared.row.SheetSides.{SheetSides}
use Rattle.sheet.specs.Contents.{content}
use Rattle.packing.specs.Maps.{claim_map, Marked, filled, marked}
use Rattle.packing.proofs.Filling.{box}
use Rattle.packing.proofs.Marking.{map_is, map_words}
use Rattle.packing.proofs.claim_map.map_fitting.Goals as goal

pub mark_rows-requires : goal.mark_rows-requires
mark_rows-requires g c = omega (arith, ap length c.rows.ensures, c.facts.ensures.few)

pub returns : goal.returns
returns g c =
    let sheet = content c.args.sheet.now in
    let p = g.S.Store.shown c.args.map.now in
    let packed = c.from-width.ensures ∙ ap (λ (s : SheetSides). s.packed) c.sides.ensures in
    let map : g.S.Store.shown c.mark_rows.new.map ≡ claim_map sheet =
    c.mark_rows.ensures.after
    ∙ ap₂ (λ (l : List Row) (a : Picture Mark). marked 0 l a) c.rows.ensures
    (c.fill.ensures.after
    ∙ ap (λ (s : Sides ℕ). filled p (box 0 s.height 0 s.width) Nobody) packed)
    ∙ map_is sheet p (g.S.Store.sound c.args.map.now) c.requires in
    record {
      after = map;
      words = subst (Marked sheet) (sym map) (map_words sheet c.facts.ensures);
      rest = g.S.Store.keeps.chain _ _ _ c.fill.ensures.rest c.mark_rows.ensures.rest;
    }
