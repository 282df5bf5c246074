-- The rows of a sheet lie inside pictures of its sides, and so do their carries.
use Rattle.std.proofs.Common.{◌≡◌, ℕ, zero, suc, ◌+◌, ◌-◌, ◌≤◌, true, eqb, List, [], ◌∷◌, Some, arith}
use Rattle.std.specs.List.{AllByRecursion, slice_get}
use Rattle.std.proofs.lemmas.Bool.{and_parts, eqb-true}
use Rattle.geometry.specs.declared.place.Sides.{Sides}
use Rattle.picture.specs.Picture.{Picture}
use Rattle.sheet.specs.declared.row.Row.{Row}
use Rattle.sheet.specs.declared.row.SheetSides.{SheetSides}
use Rattle.sheet.specs.Rules.{Content}
use Rattle.sheet.specs.Serving.{Sided}
use Rattle.sheet.specs.Words.{InBody, Bodies, Shaped, Facts}
use Rattle.packing.specs.Moves.{is_projected, is_packed}
use Rattle.packing.specs.Rows.{LiesIn}
use Rattle.packing.proofs.Holding.{in_body}

-- the last sample of a body lies inside, so the body does
body_lies : (packed : Sides ℕ) (rows : List Row) (n : ℕ) (r : Row) → Bodies packed rows → slice_get rows n ≡ Some r → Sided r →
    (r.body.left + r.body.width ≤ packed.width) × (r.body.top + r.body.height ≤ packed.height)
body_lies packed rows n r bodies here sided =
    let x : ℕ = r.body.left + r.body.width - 1 in
    let y : ℕ = r.body.top + r.body.height - 1 in
    let last : InBody rows n y x = in_body rows n r y x here (omega arith) (omega (arith, sided.wide)) (omega arith) (omega (arith, sided.high)) in
    let (a, d) = bodies.inside n y x last in
    (omega (arith, a, sided.wide), omega (arith, d, sided.high))

module _ (s : SheetSides) (projected packed : Sides ℕ) where
  -- what is known of each row, by its number, is known of all
  lie_all : (rows : List Row) → projected ≡ s.projected → packed.width ≡ s.packed.width → packed.height ≡ s.packed.height →
      AllByRecursion (Shaped s) rows →
      ((n : ℕ) (r : Row) → slice_get rows n ≡ Some r → Sided r →
      (r.body.left + r.body.width ≤ s.packed.width) × (r.body.top + r.body.height ≤ s.packed.height)) →
      AllByRecursion (LiesIn projected packed) rows
  lie_all [] p w h shaped bodies = tt
  lie_all (r ∷ rows) p w h (here, rest) bodies =
      let (a, d) = bodies zero r (λ _. Some r) here.sided in
      let pw : projected.width ≡ s.projected.width = λ i. (p i).width in
      let ph : projected.height ≡ s.projected.height = λ i. (p i).height in (
        record {
          turn = here.turn;
          sided = here.sided;
          right = omega (arith, here.across);
          bottom = omega (arith, here.down);
          body_right = omega (arith, a);
          body_bottom = omega (arith, d);
        },
        lie_all rows p w h rest (λ n t e. bodies (suc n) t e),
      )

-- the rows of a sheet, in pictures that have its sides
pub rows_lie : {A B : Type 0} (c : Content) (rows : List Row) (p : Picture A) (k : Picture B) → rows ≡ c.rows → Facts c →
    is_projected c p ≡ true → is_packed c k ≡ true → AllByRecursion (LiesIn p.sides k.sides) rows
rows_lie c rows p k same facts projected packed =
    let (pw, ph) = and_parts (eqb p.sides.width c.sides.projected.width) (eqb p.sides.height c.sides.projected.height) projected in
    let (kw, kh) = and_parts (eqb k.sides.width c.sides.packed.width) (eqb k.sides.height c.sides.packed.height) packed in
    let w : p.sides.width ≡ c.sides.projected.width = eqb-true _ _ pw in
    let h : p.sides.height ≡ c.sides.projected.height = eqb-true _ _ ph in
    rw same
    (lie_all c.sides p.sides k.sides c.rows (λ i. record { width = w i; height = h i }) (eqb-true _ _ kw) (eqb-true _ _ kh)
    facts.shaped (λ n r e sided. body_lies c.sides.packed c.rows n r facts.bodies e sided))
