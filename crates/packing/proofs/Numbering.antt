-- Rows by their numbers.
use Rattle.std.proofs.Common.{◌≡◌, ℕ, zero, suc, ◌+◌, ◌<◌, Bool, true, List, [], ◌∷◌, Some, None, Ok, refl, ap, ◌∙◌, subst, arith}
use Rattle.std.specs.List.{AllByRecursion, slice_get}
use Rattle.std.proofs.lemmas.Option.{none-some, same_Some, slice_get_within, get_or_from_slice_get}
use Rattle.std.proofs.ByRecursion.{All-get_or}
use Rattle.std.proofs.lemmas.Bool.{cond-true, cond-false, false_from_ne_true}
use Rattle.geometry.specs.declared.place.Place.{Place}
use Rattle.sheet.specs.declared.row.Row.{Row}
use Rattle.sheet.specs.Serving.{covers_place, served_place, serving}
use Rattle.packing.specs.Moves.{lowest}

pub all_at : {X : Type 0} (P : X → Type 0) (xs : List X) (n : ℕ) (x : X) → AllByRecursion P xs → slice_get xs n ≡ Some x → P x
all_at P xs n x all e = subst P (get_or_from_slice_get xs n x x e) (All-get_or P xs n x (slice_get_within xs n x e) all)

-- the lowest-numbered row that passes, by what makes it so
pub lowest_is : (passes : Row → Bool) (rows : List Row) (n : ℕ) (r : Row) → slice_get rows n ≡ Some r → passes r ≡ true →
    ((k : ℕ) (s : Row) → k < n → slice_get rows k ≡ Some s → passes s ≡ true → ⊥) → lowest passes rows ≡ Some r
lowest_is passes [] n r e h first = absurd (none-some r e)
lowest_is passes (s ∷ rows) zero r e h first = cond-true _ _ _ (ap passes (same_Some s r e) ∙ h) ∙ e
lowest_is passes (s ∷ rows) (suc n) r e h first =
    cond-false _ _ _ (false_from_ne_true (passes s) (first zero s (omega arith) refl))
    ∙ lowest_is passes rows n r e h (λ k t lt. first (suc k) t (omega arith))

pub lowest_none : (passes : Row → Bool) (rows : List Row) → ((n : ℕ) (r : Row) → slice_get rows n ≡ Some r → passes r ≡ true → ⊥) →
    lowest passes rows ≡ None
lowest_none passes [] none = refl
lowest_none passes (s ∷ rows) none =
    cond-false _ _ _ (false_from_ne_true (passes s) (none zero s refl)) ∙ lowest_none passes rows (λ n r e. none (suc n) r e)

-- the same row answers a call of serve
pub serving_is : (m : ℕ) (rows : List Row) (n : ℕ) (r : Row) (p : Place) → slice_get rows n ≡ Some r → covers_place r p ≡ true →
    ((k : ℕ) (s : Row) → k < n → slice_get rows k ≡ Some s → covers_place s p ≡ true → ⊥) →
    serving m rows p ≡ Ok (record { row = m + n; place = record { 0 = served_place r p } })
serving_is m [] n r p e h first = absurd (none-some r e)
serving_is m (s ∷ rows) zero r p e h first =
    let same : s ≡ r = same_Some s r e in
    let here : m ≡ m + 0 = omega arith in
    cond-true _ _ _ (ap (λ (t : Row). covers_place t p) same ∙ h)
    ∙ (λ i. Ok (record { row = here i; place = record { 0 = served_place (same i) p } }))
serving_is m (s ∷ rows) (suc n) r p e h first =
    let on : m + 1 + n ≡ m + suc n = omega arith in
    cond-false _ _ _ (false_from_ne_true (covers_place s p) (first zero s (omega arith) refl))
    ∙ serving_is (m + 1) rows n r p e h (λ k t lt. first (suc k) t (omega arith))
    ∙ (λ i. Ok (record { row = on i; place = record { 0 = served_place r p } }))
