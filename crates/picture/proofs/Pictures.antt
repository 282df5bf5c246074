-- When pictures are equal, and what the tests of places say.
use Rattle.std.proofs.Common.{◌≡◌, ℕ, Bool, true, false, cond, eqb, is_some, Some, None, Ok, Err, Option, refl, ap, ap₂, arith}
use Rattle.std.specs.Option.{option_map, ok_or}
use Rattle.std.proofs.lemmas.Bool.{false_from_ne_true, and_parts, and_from, eqb-true, eq-eqb, both_ways}
use Rattle.geometry.specs.declared.place.Place.{Place}
use Rattle.geometry.specs.Places.{at}
use Rattle.picture.specs.Picture.{Picture, same_place}

-- pictures that agree everywhere are equal
pub same_picture : {A : Type 0} (p q : Picture A) → p.sides ≡ q.sides → ((place : Place) → p.at place ≡ q.at place) → p ≡ q
same_picture p q s a = λ i. record { sides = s i; at = λ place. a place i }

pub one_place : (a b : Place) → same_place a b ≡ true → a ≡ b
one_place a b h =
    let (x, y) = and_parts (eqb a.x b.x) (eqb a.y b.y) h in
    ap₂ at (eqb-true a.x b.x x) (eqb-true a.y b.y y)

pub place_same : (a b : Place) → a ≡ b → same_place a b ≡ true
place_same a b e =
    and_from (eqb a.x b.x) (eqb a.y b.y) (eq-eqb a.x b.x (ap (λ p. p.x) e)) (eq-eqb a.y b.y (ap (λ p. p.y) e))

pub places_differ : (a b : Place) → (a ≡ b → ⊥) → same_place a b ≡ false
places_differ a b other = false_from_ne_true _ (λ t. other (one_place a b t))

-- what an answer tells that was granted by a test, or refused
pub granted : {X E : Type 0} (b : Bool) (x y : X) (e : E) → Ok x ≡ cond b (Ok y) (Err e) → (b ≡ true) × (x ≡ y)
granted true x y e h = (refl, cc)
granted false x y e h = let z : ◌≡◌ {A = ℕ} 0 1 = cc in absurd (omega arith)

module _ {A : Type 0} where
  pub some_mapped : (o : Option A) (v : A) → is_some o ≡ true → option_map (λ _. v) o ≡ Some v
  some_mapped (Some x) v e = refl
  some_mapped None v e = absurd (both_ways false refl e)

  -- an answer that was granted tells what was there
  pub some_of : {E : Type 0} (o : Option A) (v : A) (e : E) → Ok v ≡ ok_or o e → o ≡ Some v
  some_of None v e h = let z : ◌≡◌ {A = ℕ} 0 1 = cc in absurd (omega arith)
  some_of (Some w) v e h = cc
