use Rattle.std.specs.Prelude.{ℕ}
use Rattle.std.proofs.Common.{◌≡◌, ◌-◌, ap, ◌∙◌}
use Rattle.geometry.specs.declared.place.Sides.{Sides}
use Rattle.geometry.specs.Centre.{centred}
use Rattle.geometry.specs.Places.{at, sides_of}
use Rattle.geometry.specs.Turns.{field, unturned}
use Rattle.sheet.proofs.Serves.{served_steps}
use Rattle.sheet.proofs.row.Row.place_in_body.Goals as goal

pub returns : goal.returns
returns c =
    let r = c.args.self.now in
    let p = c.args.place in
    let t = c.in_ok-turn.turn in
    let f : c.field-field.result ≡ field t (sides_of r.body) = c.field-field.ensures ∙ ap (field t) c.sides-body.ensures in
    c.backwards.ensures
    ∙ ap (λ (b : Sides ℕ). unturned t b (at c.in_ok-x.x c.in_ok-y.y)) c.sides-body.ensures
    ∙ served_steps r p t c.in_ok-x.x c.in_ok-y.y c.requires.sided c.requires.covered c.in_ok-turn.ensures
    (c.in_ok-x.ensures ∙ ap (λ (z : Sides ℕ). centred z.width r.projected.width (p.x - r.projected.left)) f)
    (c.in_ok-y.ensures ∙ ap (λ (z : Sides ℕ). centred z.height r.projected.height (p.y - r.projected.top)) f)
