-- Pictures shown from a source: what one change of the source does to them, and that picture and remainder fix the source.
use Rattle.std.specs.Prelude.{ℕ}
use Rattle.std.proofs.Common.{◌≡◌, Bool, true, false, cond, is_some, Some, None, Option, sym, refl, ap, ◌∙◌}
use Rattle.std.specs.Option.{option_map}
use Rattle.std.proofs.lemmas.Bool.{both_ways, cond-true}
use Rattle.geometry.specs.declared.place.Place.{Place}
use Rattle.geometry.specs.declared.place.Sides.{Sides}
use Rattle.geometry.specs.Places.{inside}
use Rattle.picture.specs.Picture.{Picture, same_place, painted, shown_by}
use Rattle.picture.specs.Kept.{UnshownSame}
use Rattle.picture.specs.Laws.{Inverse}
use Rattle.picture.proofs.Pictures.{same_picture, one_place, place_same, some_mapped}

-- a source in which one spot took another sample
pub record Changed {A X : Type 0} (from to : X → Option A) (k : X) (v : A) : Type 0 where
  pub was : is_some (from k) ≡ true
  pub is : to k ≡ Some v
  pub others : (j : X) → (j ≡ k → ⊥) → to j ≡ from j

at_step : {A : Type 0} (b e : Bool) (from to : Option A) (v : A) →
    (b ≡ true → e ≡ true → to ≡ option_map (λ _. v) from) → (b ≡ true → e ≡ false → to ≡ from) →
    cond b to None ≡ cond e (option_map (λ _. v) (cond b from None)) (cond b from None)
at_step true true from to v h k = h refl refl
at_step true false from to v h k = k refl refl
at_step false true from to v h k = refl
at_step false false from to v h k = refl

module _ {A X : Type 0} (sides : Sides ℕ) (spot : Place → X) (from to : X → Option A) where
  -- a put through what is shown
  pub shown_painted : Inverse sides spot → (place : Place) (v : A) → inside sides place ≡ true → Changed from to (spot place) v →
      shown_by sides spot to ≡ painted (shown_by sides spot from) place v
  shown_painted inverse place v h changed =
      same_picture _ _ refl
      (λ q. at_step (inside sides q) (same_place q place) (from (spot q)) (to (spot q)) v
      (λ b e.
      let here : q ≡ place = one_place q place e in
      ap (λ a. to (spot a)) here ∙ changed.is
      ∙ sym (ap (λ a. option_map (λ _. v) (from (spot a))) here ∙ some_mapped (from (spot place)) v changed.was))
      (λ b e. changed.others (spot q)
      (λ same.
      let one : q ≡ place = sym (inverse.again q b).1 ∙ ap inverse.back same ∙ (inverse.again place h).1 in
      both_ways (same_place q place) e (place_same q place one))))

  -- and what is not shown stays
  pub shown_rest : (place : Place) (v : A) → inside sides place ≡ true → Changed from to (spot place) v → UnshownSame sides spot from to
  shown_rest place v h changed = λ k free. changed.others k (λ e. free place h (sym e))

  -- what is shown and what is not fix the source
  pub source_fixed : Inverse sides spot → UnshownSame sides spot from to →
      shown_by sides spot from ≡ shown_by sides spot to → (k : X) → to k ≡ from k
  source_fixed inverse rest same k = go (inverse.has k) refl
    where
      go : (b : Bool) → inverse.has k ≡ b → to k ≡ from k
      go true e =
          let (h, here) = inverse.there k e in
          let q : Place = inverse.back k in
          let shown : from (spot q) ≡ to (spot q) =
          sym (cond-true _ _ _ h) ∙ ap (λ (p : Picture A). p.at q) same ∙ cond-true _ _ _ h in
          ap to (sym here) ∙ sym shown ∙ ap from here
      go false e =
          rest k (λ q h at.
          both_ways (inverse.has k) e (ap inverse.has (sym at) ∙ (inverse.again q h).0))
