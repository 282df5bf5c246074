-- The places that a copy has taken after some samples of a row, and after some rows.
use Rattle.std.proofs.Common.{◌≡◌, ℕ, ◌+◌, Bool, true, false, cond, ◌&&◌, ◌||◌, eqb, ltb, Some, Option, refl, ap, ◌∙◌, ap₂, arith}
use Rattle.std.specs.Bool.{then_some}
use Rattle.std.specs.Option.{option_or}
use Rattle.std.proofs.lemmas.Bool.{and_parts, and_from, eqb-true, lt-ltb}
use Rattle.std.proofs.lemmas.Bool.Decides.{nat_tests}
use Rattle.geometry.specs.declared.place.Place.{Place}
use Rattle.geometry.specs.Places.{at, by}
use Rattle.picture.specs.Picture.{Picture, same_place}
use Rattle.picture.specs.Draws.{taken}
use Rattle.picture.specs.Copies.{same_sides, row_to, rows_to}
use Rattle.picture.proofs.Pictures.{one_place}

when_cases : (b c e : Bool) (u w : Place) → (e ≡ true → (b ≡ true) × (u ≡ w)) → (e ≡ false → b ≡ c) →
    then_some b u ≡ cond e (Some w) (then_some c u)
when_cases b c true u w h k = ap (λ a. then_some a u) (h refl).0 ∙ ap Some (h refl).1
when_cases b c false u w h k = ap (λ a. then_some a u) (k refl)

-- one place more of a row
pub row_more : (y x : ℕ) (q : Place) → row_to y (x + 1) q ≡ cond (same_place q (at x y)) (Some (at x y)) (row_to y x q)
row_more y x q =
    when_cases (eqb q.y y && ltb q.x (x + 1)) (eqb q.y y && ltb q.x x) (same_place q (at x y)) q (at x y)
    (λ t.
    let (a, d) = and_parts (eqb q.x x) (eqb q.y y) t in
    let e : q.x ≡ x = eqb-true q.x x a in
    (and_from _ _ d (lt-ltb _ _ (omega arith)), one_place q (at x y) t))
    (λ f. grind (arith, nat_tests))

pub or_when : (b c e : Bool) (u : Place) → b ≡ (c || e) → then_some b u ≡ option_or (then_some c u) (then_some e u)
or_when b true e u h = ap (λ a. then_some a u) h
or_when b false e u h = ap (λ a. then_some a u) h

-- one row more
pub rows_more : (w y : ℕ) (q : Place) → rows_to w (y + 1) q ≡ option_or (row_to y w q) (rows_to w y q)
rows_more w y q =
    or_when (ltb q.x w && ltb q.y (y + 1)) (eqb q.y y && ltb q.x w) (ltb q.x w && ltb q.y y) q (grind (arith, nat_tests))

module _ {A : Type 0} where
  all_at : (b : Bool) (from : Place) (p : Picture A) (o n : Option A) → p.at from ≡ n → (b ≡ false → o ≡ n) →
      taken p (then_some b from) o ≡ n
  all_at true from p o n h k = h
  all_at false from p o n h k = k refl

  pub sides_same : (p q : Picture A) → same_sides p q ≡ true → p.sides ≡ q.sides
  sides_same p q h =
      let (w, d) = and_parts (eqb p.sides.width q.sides.width) (eqb p.sides.height q.sides.height) h in
      ap₂ by (eqb-true p.sides.width q.sides.width w) (eqb-true p.sides.height q.sides.height d)
