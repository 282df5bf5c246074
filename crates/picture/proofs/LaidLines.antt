-- Lines and columns of a picture that a run keeps: where their samples lie, and what is left once a stretch is written.
use Rattle.std.proofs.Common.{◌≡◌, ℕ, ◌+◌, ◌-◌, ◌*◌, ◌<◌, ◌≤◌, Bool, true, false, cond, List, length, get_or, Option, sym, refl, ap, ◌∙◌, add-mul, arith}
use Rattle.std.specs.List.{slice_get}
use Rattle.std.proofs.lemmas.Bool.{cond-true}
use Rattle.geometry.specs.declared.place.Place.{Place}
use Rattle.geometry.specs.declared.place.Sides.{Sides}
use Rattle.geometry.specs.Places.{at, inside}
use Rattle.geometry.proofs.Insides.{inside_from}
use Rattle.picture.specs.declared.track.Track.{Track}
use Rattle.picture.specs.Kept.{KeptRun}
use Rattle.picture.specs.LayoutLaws.{rows_lawful}
use Rattle.picture.specs.Laws.{Lawful, Reversible, Together}
use Rattle.picture.specs.Lines.{StepsInside, along, stepped, picked, lined}
use Rattle.picture.specs.Picture.{shown_by}
use Rattle.picture.specs.Runs.{Layout, fitting, laid, row_layout, row_spot}
use Rattle.picture.specs.Soundness.{laid_room}
use Rattle.picture.proofs.Layouts.{fitting_inverse}
use Rattle.picture.proofs.RunParts.{Written}
use Rattle.picture.proofs.Stretches.{shown_lined, shown_line_rest}

-- a run in which a stretch that it keeps together was written
module _ {A : Type 0} (layout : Layout) (reversible : Reversible layout) (sides : Sides ℕ) (run run' : List A) (place : Place) (n : ℕ)
    (held : ℕ → Option A) (long : length run' ≡ length run) (written : Written (layout.spot sides.width place) n held run run')
    (together : Together (layout.spot sides.width) place n) (across : place.x + n ≤ (fitting layout sides (length run)).width)
    (down : place.y < (fitting layout sides (length run)).height) where
  pub laid_lined : laid layout sides run' ≡ lined (laid layout sides run) place n held
  laid_lined =
      ap (λ m. shown_by (fitting layout sides m) (layout.spot sides.width) (slice_get run')) long
      ∙ shown_lined _ _ (fitting_inverse layout reversible sides (length run)) place n together across down (slice_get run) (slice_get run') held written

  pub laid_line_rest : KeptRun layout sides run sides run'
  laid_line_rest =
      record {
        same_sides = refl;
        same_length = long;
        rest = shown_line_rest _ _ (fitting_inverse layout reversible sides (length run)) place n together across down
            (slice_get run) (slice_get run') held written;
      }

-- a place inside has its sample in the run
pub laid_at : {A : Type 0} (layout : Layout) → Lawful layout → (sides : Sides ℕ) (run : List A) (q : Place) (k : ℕ) →
    inside (fitting layout sides (length run)) q ≡ true → layout.spot sides.width q ≡ k →
    (k < length run) × ((laid layout sides run).at q ≡ slice_get run k)
laid_at layout lawful sides run q k h e =
    (rw e at (laid_room layout lawful sides (length run) q h), cond-true _ _ _ h ∙ ap (slice_get run) e)

-- where rows keep the place k steps on
pub row_along : (w : ℕ) (t : Track) (k : ℕ) (d : Bool) → t.down ≡ d →
    row_spot w (along t k) ≡ row_spot w t.start + k * cond d w 1
row_along w t k d e = go t.down t.start.x t.start.y ∙ ap (λ b. row_spot w t.start + k * cond b w 1) e
  where
    go : (b : Bool) (x y : ℕ) → row_spot w (cond b (at x (y + k)) (at (x + k) y)) ≡ y * w + x + k * cond b w 1
    go true x y = let apart : (y + k) * w ≡ y * w + k * w = add-mul y k w in omega arith
    go false x y = omega arith

-- where rows keep the samples of the steps
pub rows_picked : {A : Type 0} (sides : Sides ℕ) (run : List A) (t : Track) (steps : List ℕ) (spot : ℕ) (d : Bool) →
    spot ≡ row_spot sides.width t.start → t.down ≡ d → StepsInside (fitting row_layout sides (length run)) t steps →
    (i : ℕ) → i < length steps →
    let k : ℕ = spot + get_or steps i 0 * cond d sides.width 1 in
    (k < length run) × (picked (laid row_layout sides run) t steps i ≡ slice_get run k)
rows_picked sides run t steps spot d here e within i h =
    laid_at row_layout rows_lawful sides run (stepped t steps i) _ (within i h)
    (row_along sides.width t (get_or steps i 0) d e ∙ ap (λ a. a + get_or steps i 0 * cond d sides.width 1) (sym here))

-- a stretch of at least one place that lies together and inside lies inside the run
pub together_room : (layout : Layout) → Lawful layout → (sides : Sides ℕ) (place : Place) (n long : ℕ) → 0 < n →
    Together (layout.spot sides.width) place n → place.x + n ≤ (fitting layout sides long).width →
    place.y < (fitting layout sides long).height → layout.spot sides.width place + n ≤ long
together_room layout lawful sides place n long some together across down =
    let last : Place = at (place.x + (n - 1)) place.y in
    let column : place.x + (n - 1) < (fitting layout sides long).width = omega arith in
    let spot : layout.spot sides.width (at (place.x + (n - 1)) place.y) ≡ layout.spot sides.width place + (n - 1) =
    together (n - 1) (omega arith) in
    let below : layout.spot sides.width (at (place.x + (n - 1)) place.y) < long =
    laid_room layout lawful sides long last (inside_from (fitting layout sides long) last column down) in
    omega arith
