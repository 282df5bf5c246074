-- Any layout: a put inside changes one sample of the run, and a run is fixed by its picture and its rest.
use Rattle.std.proofs.Common.{◌≡◌, ℕ, zero, suc, ◌<◌, ◌≤◌, Bool, true, false, cond, List, [], ◌∷◌, length, set, Some, sym, refl, ap, ◌∙◌, subst, ap₂, arith, length-set}
use Rattle.std.specs.List.{slice_get}
use Rattle.geometry.specs.declared.place.Place.{Place}
use Rattle.geometry.specs.declared.place.Sides.{Sides}
use Rattle.geometry.specs.Places.{by, inside}
use Rattle.picture.specs.Picture.{painted, shown_by}
use Rattle.picture.specs.Runs.{Layout, fitting, laid}
use Rattle.picture.specs.Kept.{KeptRun}
use Rattle.picture.specs.Laws.{Inverse, Lawful, Reversible}
use Rattle.picture.specs.Soundness.{laid_room, nth_in}
use Rattle.picture.proofs.Shown.{Changed, shown_painted, shown_rest, source_fixed}

pub fitting_inverse : (layout : Layout) → Reversible layout → (sides : Sides ℕ) (n : ℕ) →
    Inverse (fitting layout sides n) (layout.spot sides.width)
fitting_inverse layout reversible sides n = reversible sides.width (fitting layout sides n) (narrow (layout.takes sides n))
  where
    narrow : (b : Bool) → (cond b sides (by 0 0)).width ≤ sides.width
    narrow true = omega arith
    narrow false = omega arith

module _ {A : Type 0} where
  pub nth_set_same : (xs : List A) (i : ℕ) (v : A) → i < length xs → slice_get (set xs i v) i ≡ Some v
  nth_set_same [] i v h = absurd (omega arith)
  nth_set_same (x ∷ xs) zero v h = refl
  nth_set_same (x ∷ xs) (suc i) v h = nth_set_same xs i v (omega arith)

  pub nth_set_other : (xs : List A) (i j : ℕ) (v : A) → (j ≡ i → ⊥) → slice_get (set xs i v) j ≡ slice_get xs j
  nth_set_other [] i j v h = refl
  nth_set_other (x ∷ xs) zero zero v h = absurd (h refl)
  nth_set_other (x ∷ xs) zero (suc j) v h = refl
  nth_set_other (x ∷ xs) (suc i) zero v h = refl
  nth_set_other (x ∷ xs) (suc i) (suc j) v h = nth_set_other xs i j v (λ e. h (ap suc e))

  nth_same : (xs ys : List A) → ((k : ℕ) → slice_get ys k ≡ slice_get xs k) → ys ≡ xs
  nth_same [] [] h = refl
  nth_same [] (y ∷ ys) h = let e = h 0 in let z : ◌≡◌ {A = ℕ} 0 1 = cc in absurd (omega arith)
  nth_same (x ∷ xs) [] h = let e = h 0 in let z : ◌≡◌ {A = ℕ} 0 1 = cc in absurd (omega arith)
  nth_same (x ∷ xs) (y ∷ ys) h = let e = h 0 in let f : y ≡ x = cc in ap₂ ◌∷◌ f (nth_same xs ys (λ k. h (suc k)))

  -- a put inside leaves the picture painted, and the rest of the run
  module _ (layout : Layout) (lawful : Lawful layout) (reversible : Reversible layout) (sides : Sides ℕ) (run : List A)
      (place : Place) (v : A) (h : inside (fitting layout sides (length run)) place ≡ true) where
    changed : Changed (slice_get run) (slice_get (set run (layout.spot sides.width place) v)) (layout.spot sides.width place) v
    changed =
        let k : ℕ = layout.spot sides.width place in
        let room : k < length run = laid_room layout lawful sides (length run) place h in
        record { was = nth_in run k room; is = nth_set_same run k v room; others = λ j other. nth_set_other run k j v other }

    pub laid_painted : laid layout sides (set run (layout.spot sides.width place) v) ≡ painted (laid layout sides run) place v
    laid_painted =
        let k : ℕ = layout.spot sides.width place in
        ap (λ n. shown_by (fitting layout sides n) (layout.spot sides.width) (slice_get (set run k v))) (length-set run k v)
        ∙ shown_painted _ _ _ _ (fitting_inverse layout reversible sides (length run)) place v h changed

    pub laid_rest : KeptRun layout sides run sides (set run (layout.spot sides.width place) v)
    laid_rest =
        record {
          same_sides = refl;
          same_length = length-set run (layout.spot sides.width place) v;
          rest = shown_rest _ _ _ _ place v h changed;
        }

    -- so it is at the spot that the place was found at
    pub laid_put : (spot : ℕ) → spot ≡ layout.spot sides.width place →
        (laid layout sides (set run spot v) ≡ painted (laid layout sides run) place v) × KeptRun layout sides run sides (set run spot v)
    laid_put spot e = (
      ap (λ k. laid layout sides (set run k v)) e ∙ laid_painted,
      subst (λ k. KeptRun layout sides run sides (set run k v)) (sym e) laid_rest,
    )

  -- two runs that keep the same and show the same are the same
  pub run_fixed : (layout : Layout) → Reversible layout → (s t : Sides ℕ) (xs ys : List A) → KeptRun layout s xs t ys →
      laid layout s xs ≡ laid layout t ys → (t ≡ s) × (ys ≡ xs)
  run_fixed layout reversible s t xs ys kept same =
      let moved : laid layout t ys ≡ shown_by (fitting layout s (length xs)) (layout.spot s.width) (slice_get ys) =
      ap (λ u. shown_by (fitting layout u (length ys)) (layout.spot u.width) (slice_get ys)) kept.same_sides
      ∙ ap (λ n. shown_by (fitting layout s n) (layout.spot s.width) (slice_get ys)) kept.same_length in
      let inverse = fitting_inverse layout reversible s (length xs) in
      (kept.same_sides, nth_same xs ys (source_fixed _ _ (slice_get xs) (slice_get ys) inverse kept.rest (same ∙ moved)))
