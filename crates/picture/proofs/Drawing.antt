-- How a picture is drawn place after place, for any map from places to the places that they take their sample from.
use Rattle.std.proofs.Common.{◌≡◌, Bool, true, false, cond, is_some, Some, None, Option, sym, refl, ap, ◌∙◌}
use Rattle.std.specs.Option.{option_map, option_or}
use Rattle.geometry.specs.declared.place.Place.{Place}
use Rattle.geometry.specs.Places.{inside}
use Rattle.picture.specs.Picture.{Picture, Sound, same_place, painted}
use Rattle.picture.specs.Draws.{Sources, taken, drawn}
use Rattle.picture.proofs.Pictures.{same_picture, one_place, some_mapped}

module _ {A : Type 0} where
  step_at : (p : Picture A) (b : Bool) (s t : Option Place) (from : Place) (o : Option A) (v : A) →
      t ≡ cond b (Some from) s → (b ≡ true → is_some (taken p s o) ≡ true) → p.at from ≡ Some v →
      cond b (option_map (λ _. v) (taken p s o)) (taken p s o) ≡ taken p t o
  step_at p true s t from o v e there here = some_mapped (taken p s o) v (there refl) ∙ sym here ∙ ap (λ a. taken p a o) (sym e)
  step_at p false s t from o v e there here = ap (λ a. taken p a o) (sym e)

  -- one place more
  pub drawn_more : (s t : Sources) (p q : Picture A) (place from : Place) (v : A) → Sound (drawn s p q) → inside q.sides place ≡ true →
      p.at from ≡ Some v → ((i : Place) → t i ≡ cond (same_place i place) (Some from) (s i)) →
      painted (drawn s p q) place v ≡ drawn t p q
  drawn_more s t p q place from v sound h here step =
      same_picture _ _ refl
      (λ i. step_at p (same_place i place) (s i) (t i) from (q.at i) v (step i)
      (λ b. sound.full i ∙ ap (inside q.sides) (one_place i place b) ∙ h)
      here)

  then_at : (p : Picture A) (t s : Option Place) (o : Option A) → taken p t (taken p s o) ≡ taken p (option_or t s) o
  then_at p None s o = refl
  then_at p (Some a) s o = refl

  -- some places, and then others
  pub drawn_then : (s t u : Sources) (p q : Picture A) → ((i : Place) → u i ≡ option_or (t i) (s i)) → drawn t p (drawn s p q) ≡ drawn u p q
  drawn_then s t u p q h =
      same_picture _ _ refl (λ i. then_at p (t i) (s i) (q.at i) ∙ ap (λ a. taken p a (q.at i)) (sym (h i)))
