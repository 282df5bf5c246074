-- Rows carried from the last to the first.
use Rattle.std.proofs.Common.{◌≡◌, Bool, true, false, cond, List, [], ◌∷◌, ◌++◌, Some, None, sym, refl, ap, ◌∙◌}
use Rattle.std.specs.Option.{option_map, option_or}
use Rattle.std.specs.Bool.{then_some}
use Rattle.std.specs.List.{AllByRecursion}
use Rattle.geometry.specs.declared.place.Place.{Place}
use Rattle.picture.specs.Picture.{Picture}
use Rattle.picture.specs.Draws.{Sources, drawn}
use Rattle.picture.proofs.Drawing.{drawn_then}
use Rattle.picture.proofs.Pictures.{same_picture}
use Rattle.sheet.specs.declared.row.Row.{Row}
use Rattle.packing.specs.Moves.{lowest, pulled}

-- what holds of all holds of the last, and of those before it
pub all_last : {X : Type 0} (P : X → Type 0) (xs : List X) (x : X) → AllByRecursion P (xs ++ x ∷ []) → AllByRecursion P xs × P x
all_last P [] x (here, rest) = (tt, here)
all_last P (y ∷ ys) x (here, rest) = let (before, last) = all_last P ys x rest in ((here, before), last)

module _ (has : Row → Place → Bool) (origin : Row → Place → Place) where
  -- the last row decides only where no other has the place
  pulled_last : (rows : List Row) (r : Row) (p : Place) →
      pulled has origin (rows ++ r ∷ []) p ≡ option_or (pulled has origin rows p) (then_some (has r p) (origin r p))
  pulled_last [] r p = alone (has r p)
    where
      alone : (b : Bool) → option_map (λ s. origin s p) (cond b (Some r) None) ≡ then_some b (origin r p)
      alone true = refl
      alone false = refl
  pulled_last (s ∷ rows) r p = first (has s p) (pulled_last rows r p)
    where
      first : (b : Bool) →
          pulled has origin (rows ++ r ∷ []) p ≡ option_or (pulled has origin rows p) (then_some (has r p) (origin r p)) →
          option_map (λ t. origin t p) (cond b (Some s) (lowest (λ t. has t p) (rows ++ r ∷ []))) ≡
          option_or (option_map (λ t. origin t p) (cond b (Some s) (lowest (λ t. has t p) rows))) (then_some (has r p) (origin r p))
      first true rest = refl
      first false rest = rest

  module _ {A : Type 0} (from to : Picture A) where
    -- no row draws nothing
    pub drawn_none : drawn (pulled has origin []) from to ≡ to
    drawn_none = same_picture _ _ refl (λ p. refl)

    -- the last row first, and then those before it
    pub drawn_last : (left : Picture A) (rows : List Row) (r : Row) (carried : Sources) →
        ((p : Place) → carried p ≡ then_some (has r p) (origin r p)) → left ≡ drawn carried from to →
        drawn (pulled has origin rows) from left ≡ drawn (pulled has origin (rows ++ r ∷ [])) from to
    drawn_last left rows r carried is last =
        ap (drawn (pulled has origin rows) from) last
        ∙ drawn_then carried (pulled has origin rows) (pulled has origin (rows ++ r ∷ [])) from to
        (λ p. pulled_last rows r p ∙ ap (option_or (pulled has origin rows p)) (sym (is p)))
