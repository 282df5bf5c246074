-- Any view: a put through it is a put below, and what it shows and what it leaves out fix the picture below.
use Rattle.std.proofs.Common.{◌≡◌, true, Ok, sym, refl, ap, ◌∙◌}
use Rattle.std.proofs.lemmas.Bool.{cond-true, cond-false}
use Rattle.geometry.specs.declared.place.Place.{Place}
use Rattle.geometry.specs.Places.{inside}
use Rattle.picture.specs.Picture.{Picture, Sound, painted, putting, shown_by}
use Rattle.picture.specs.Views.{View, viewed, seen}
use Rattle.picture.specs.Kept.{KeptBelow}
use Rattle.picture.specs.Laws.{Inner, Backed}
use Rattle.picture.proofs.Pictures.{granted, same_picture, place_same, places_differ, some_mapped}
use Rattle.picture.proofs.Shown.{Changed, shown_painted, shown_rest, source_fixed}

module _ {A : Type 0} where
  paint_changed : (p : Picture A) → Sound p → (place : Place) (v : A) → inside p.sides place ≡ true →
      Changed p.at (painted p place v).at place v
  paint_changed p sound place v h =
      record {
        was = sound.full place ∙ h;
        is = cond-true _ _ _ (place_same place place refl) ∙ some_mapped (p.at place) v (sound.full place ∙ h);
        others = λ j other. cond-false _ _ _ (places_differ j place other);
      }

  -- what a put at the spot below does at the place shown
  pub record Through (view : View) (p : Picture A) (place spot : Place) (v : A) : Type 0 where
    pub shown : inside (view.sides p.sides) place ≡ true
    pub answer : putting p spot ≡ putting (viewed view p) place
    pub after : viewed view (painted p spot v) ≡ painted (viewed view p) place v
    pub rest : KeptBelow view p (painted p spot v)

  pub through : (view : View) → Inner view → Backed view → (p : Picture A) → Sound p → (place spot : Place) (v : A) →
      Ok spot ≡ seen view p.sides place → Through view p place spot v
  through view inner backed p sound place spot v found =
      let (h, e) = granted (inside (view.sides p.sides) place) spot (view.spot p.sides place) _ found in
      let there : inside p.sides (view.spot p.sides place) ≡ true = inner p.sides place h in
      let changed = paint_changed p sound (view.spot p.sides place) v there in
      let moved : painted p spot v ≡ painted p (view.spot p.sides place) v = ap (λ k. painted p k v) e in
      record {
        shown = h;
        answer = ap (putting p) e ∙ cond-true _ _ _ there ∙ sym (cond-true _ _ _ h);
        after = ap (viewed view) moved ∙ shown_painted _ _ _ _ (backed p.sides) place v h changed;
        rest = rw moved (record { same_sides = refl; rest = shown_rest _ _ _ _ place v h changed });
      }

  -- two pictures below an equal view that keep the same and show the same are the same
  pub below_fixed : {L : Type 0} (view : L → View) → ((l : L) → Backed (view l)) → (l m : L) (p q : Picture A) → m ≡ l →
      KeptBelow (view l) p q → viewed (view l) p ≡ viewed (view m) q → q ≡ p
  below_fixed view backed l m p q e kept same =
      same_picture q p kept.same_sides
      (source_fixed _ _ p.at q.at (backed l p.sides) kept.rest
      (same ∙ ap (λ n. viewed (view n) q) e ∙ ap (λ s. shown_by ((view l).sides s) ((view l).spot s) q.at) kept.same_sides))
