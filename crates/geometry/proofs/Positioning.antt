-- The laws of the positions.
use Rattle.std.proofs.Common.{◌≡◌, ℕ, ◌+◌, ◌-◌, ◌*◌, ◌<◌, true, refl, ap, arith}
use Rattle.geometry.specs.declared.place.Place.{Place}
use Rattle.geometry.specs.declared.place.Rectangle.{Rectangle}
use Rattle.geometry.specs.declared.place.Sides.{Sides}
use Rattle.geometry.specs.declared.turn.Turn.{Turn}
use Rattle.geometry.specs.Places.{inside, at, by}
use Rattle.geometry.specs.Positions.{coordinate}
use Rattle.geometry.specs.Standard.{Ratio, Formula, Standard, Whole, PositionLaws}
use Rattle.geometry.specs.Turns.{turn_of, field, forwards}
use Rattle.geometry.proofs.Centres as centres
use Rattle.geometry.proofs.Insides.{Within, within}
use Rattle.geometry.proofs.Turning as turning

-- a coordinate is the ratio times the distance of the middle that it counts to
ratio : (edge q a k distance : ℕ) → 2 * k + 1 ≡ distance → Ratio (coordinate edge q a k) edge q a distance
ratio edge q a k distance e =
    let inner : 2 * a * edge + (2 * k + 1) * q ≡ edge * (2 * a) + q * distance = omega (arith, ap (λ (n : ℕ). n * q) e) in
    ap (λ (n : ℕ). n * (2 * a)) inner

standard : (r : Rectangle ℕ) (w h x y : ℕ) → x < w → y < h → Standard r w h x y
standard r w h x y xw yh =
    record {
      code_0 = formula refl refl;
      code_1 = formula far_x refl;
      code_2 = formula far_x far_y;
      code_3 = formula refl far_y;
      code_4 = formula refl refl;
      code_5 = formula refl far_x;
      code_6 = formula far_y far_x;
      code_7 = formula far_y refl;
    }
  where
    far_x : 2 * (w - 1 - x) + 1 ≡ 2 * w - 2 * x - 1
    far_x = omega arith

    far_y : 2 * (h - 1 - y) + 1 ≡ 2 * h - 2 * y - 1
    far_y = omega arith

    formula : {code distance distance' : ℕ} →
        let p : Place = forwards (turn_of code) (by w h) (at x y) in
        let f : Sides ℕ = field (turn_of code) (by w h) in
        2 * p.x + 1 ≡ distance → 2 * p.y + 1 ≡ distance' → Formula r code w h x y f.width distance f.height distance'
    formula e e' = record { across = ratio _ _ _ _ _ e; down = ratio _ _ _ _ _ e' }

whole : (r : Rectangle ℕ) (t : Turn) (body : Sides ℕ) (p : Place) → inside body p ≡ true → Whole r t body p
whole r t body p h =
    let i : Within (field t body) (forwards t body p) = within (field t body) (forwards t body p) (turning.there t body p h).within in
    record {
      across = centres.whole r.width (field t body).width (forwards t body p).x r.left (omega arith);
      down = centres.whole r.height (field t body).height (forwards t body p).y r.top (omega arith);
    }

pub laws : PositionLaws
laws = record { standard = standard; whole = whole }
