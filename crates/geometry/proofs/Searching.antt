-- The first free spot is free, and every other one comes later.
use Rattle.std.proofs.Common.{◌≡◌, ℕ, ◌<◌, Bool, cond, ltb, ◌⊎◌, Some, None, Option, sym, ap, ◌∙◌, ap₂, inl, inr, arith}
use Rattle.std.proofs.lemmas.Bool.{both_ways, ltb-true, ltb-false, cases_order, cond_both}
use Rattle.geometry.specs.declared.search.Spot.{Spot}
use Rattle.geometry.specs.FirstFree.{first_left, first_top, spot, first_spot, Free, Later, First, SearchLaw}
use Rattle.geometry.specs.Least.{IsLeast}
use Rattle.geometry.proofs.Leasts as leasts

pub is_first : SearchLaw
is_first free H W =
    cond_both (ltb top H) (Some (spot top left)) None (First free H W)
    (λ e. (is_free (ltb-true top H e), λ t f ne. later t f ne))
    (λ e s f. above s f (omega (arith, f.high, ltb-false top H e)))
  where
    top : ℕ
    top = first_top free H W

    left : ℕ
    left = first_left free W top

    tops : IsLeast H (λ t. ltb (first_left free W t) W) top
    tops = leasts.is_least H (λ t. ltb (first_left free W t) W)

    lefts : (t : ℕ) → IsLeast W (λ l. free t l) (first_left free W t)
    lefts t = leasts.is_least W (λ l. free t l)

    inside : top < H → left < W
    inside lt = ltb-true left W (tops.passes lt)

    is_free : top < H → Free free H W (spot top left)
    is_free lt = record { high = lt; near = inside lt; passes = (lefts top).passes (inside lt) }

    -- no free spot is higher
    above : (s : Spot) → Free free H W s → s.top < top → ⊥
    above s f lt =
        both_ways (free s.top s.left)
        ((lefts s.top).first s.left (omega (arith, f.near, ltb-false (first_left free W s.top) W (tops.first s.top lt))))
        f.passes

    later : (t : Spot) → Free free H W t → (t ≡ spot top left → ⊥) → Later (spot top left) t
    later t f ne = by_top (cases_order top t.top)
      where
        level : top ≡ t.top → ((left ≡ t.left) ⊎ ((left < t.left) ⊎ (t.left < left))) → Later (spot top left) t
        level e (inl same) = absurd (ne (ap₂ spot (sym e) (sym same)))
        level e (inr (inl further)) = inr (e, further)
        level e (inr (inr nearer)) =
            absurd (both_ways (free top t.left) ((lefts top).first t.left nearer) (ap (λ (y : ℕ). free y t.left) e ∙ f.passes))

        by_top : ((top ≡ t.top) ⊎ ((top < t.top) ⊎ (t.top < top))) → Later (spot top left) t
        by_top (inl e) = level e (cases_order left t.left)
        by_top (inr (inl lower)) = inl lower
        by_top (inr (inr higher)) = absurd (above t f higher)

-- what makes a spot free counts only among the tops and lefts
pub same_first : (free free' : ℕ → ℕ → Bool) (H W : ℕ) → ((t l : ℕ) → t < H → l < W → free t l ≡ free' t l) →
    first_spot free H W ≡ first_spot free' H W
same_first free free' H W agree =
    cond_both (ltb (first_top free H W) H) (Some (spot (first_top free H W) (first_left free W (first_top free H W)))) None
    (λ r. r ≡ first_spot free' H W)
    (λ e. some (ltb-true _ _ e) ∙ sym (ap (λ b. answer b) (sym (ap (λ (t : ℕ). ltb t H) tops) ∙ e)))
    (λ e. sym (ap (λ b. answer b) (sym (ap (λ (t : ℕ). ltb t H) tops) ∙ e)))
  where
    lefts : (t : ℕ) → t < H → first_left free W t ≡ first_left free' W t
    lefts t lt = leasts.same W (λ l. free t l) (λ l. free' t l) (λ l near. agree t l lt near)

    tops : first_top free H W ≡ first_top free' H W
    tops = leasts.same H _ _ (λ t lt. ap (λ (l : ℕ). ltb l W) (lefts t lt))

    answer : Bool → Option Spot
    answer b = cond b (Some (spot (first_top free' H W) (first_left free' W (first_top free' H W)))) None

    some : first_top free H W < H →
        Some (spot (first_top free H W) (first_left free W (first_top free H W)))
        ≡ Some (spot (first_top free' H W) (first_left free' W (first_top free' H W)))
    some lt =
        ap₂ (λ (t l : ℕ). Some (spot t l)) tops (lefts (first_top free H W) lt ∙ ap (first_left free' W) tops)
