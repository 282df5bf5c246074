-- On a sound sheet no sample is claimed twice, and bodies lie inside and apart.
use Rattle.std.proofs.Common.{◌≡◌, ℕ, zero, suc, ◌+◌, ◌<◌, ◌≤◌, true, false, ◌⊎◌, List, [], ◌∷◌, map, length, get_or, Some, None, Option, sym, ap, ◌∙◌, inl, inr, arith}
use Rattle.std.specs.List.{slice_get, list_all}
use Rattle.std.proofs.lemmas.Option.{none-some, same_Some, slice_get-get_or}
use Rattle.std.proofs.lemmas.Bool.{and_parts, or_parts, or_left, both_ways, cases_order}
use Rattle.std.proofs.lemmas.Bool.Decides.{nat_tests}
use Rattle.geometry.specs.declared.bounds.Bounds.{Bounds}
use Rattle.geometry.specs.declared.place.Rectangle.{Rectangle}
use Rattle.geometry.specs.Boxes.{has, covers}
use Rattle.sheet.specs.declared.row.FourSides.{FourSides}
use Rattle.sheet.specs.declared.row.GuardBands.{GuardBands}
use Rattle.geometry.specs.declared.place.Sides.{Sides}
use Rattle.sheet.specs.declared.row.Row.{Row}
use Rattle.sheet.specs.declared.row.SheetSides.{SheetSides}
use Rattle.sheet.specs.Claims.{no_reach, reaches, widened, claim, fits, claim_inside, meets, meets_any}
use Rattle.sheet.specs.Sound.{sound_row, sound_rows}
use Rattle.sheet.specs.Words.{Claims, InBody, ClaimedOnce, Bodies}
use Rattle.sheet.proofs.Meeting.{In, in_from, has_from, shared_meets}
use Rattle.sheet.proofs.Rows.{FreeOfFaults, head_parts, faultless}

-- a claim that meets none of the rows does not meet the one with number n
pub meets_none_at : (c : List Bounds) (rows : List Row) (n : ℕ) (r : Row) → meets_any c rows ≡ false → slice_get rows n ≡ Some r →
    meets c (claim r) ≡ false
meets_none_at c [] n r h e = absurd (none-some r e)
meets_none_at c (x ∷ rows) zero r h e =
    ap (λ (z : Row). meets c (claim z)) (sym (same_Some x r e)) ∙ (or_parts (meets c (claim x)) (meets_any c rows) h).0
meets_none_at c (x ∷ rows) (suc n) r h e = meets_none_at c rows n r (or_parts (meets c (claim x)) (meets_any c rows) h).1 e

-- the row with number n of a sound list is sound
pub row_sound : (s : SheetSides) (rows : List Row) (n : ℕ) (r : Row) → sound_rows s rows ≡ true → slice_get rows n ≡ Some r →
    sound_row s r ≡ true
row_sound s [] n r h e = absurd (none-some r e)
row_sound s (x ∷ rows) zero r h e = ap (sound_row s) (sym (same_Some x r e)) ∙ (head_parts s x rows h).0
row_sound s (x ∷ rows) (suc n) r h e = row_sound s rows n r (head_parts s x rows h).2 e

-- so is the row at a place of it
pub row_at : (s : SheetSides) (rows : List Row) (i : ℕ) (d : Row) → sound_rows s rows ≡ true → i < length rows →
    FreeOfFaults s (get_or rows i d)
row_at s rows i d h lt = faultless s (get_or rows i d) (row_sound s rows i (get_or rows i d) h (slice_get-get_or rows i d lt))

-- a sample that a row claims is claimed by no later one
later_clear : (s : SheetSides) (rows : List Row) (m n y x : ℕ) (r r' : Row) → sound_rows s rows ≡ true → m < n →
    slice_get rows m ≡ Some r → slice_get rows n ≡ Some r' → covers (claim r) y x ≡ true → covers (claim r') y x ≡ true → ⊥
later_clear s [] m n y x r r' h lt e e' c c' = none-some r e
later_clear s (z ∷ rows) m zero y x r r' h lt e e' c c' = omega arith
later_clear s (z ∷ rows) zero (suc n) y x r r' h lt e e' c c' =
    let here : covers (claim z) y x ≡ true = ap (λ (q : Row). covers (claim q) y x) (same_Some z r e) ∙ c in
    both_ways (meets (claim z) (claim r')) (meets_none_at (claim z) rows n r' (head_parts s z rows h).1 e')
    (shared_meets (claim z) (claim r') y x here c')
later_clear s (z ∷ rows) (suc m) (suc n) y x r r' h lt e e' c c' =
    later_clear s rows m n y x r r' (head_parts s z rows h).2 (omega arith) e e' c c'

pub claimed_once : (s : SheetSides) (rows : List Row) → sound_rows s rows ≡ true → ClaimedOnce rows
claimed_once s rows h m n y x a b = go (cases_order m n)
  where
    go : ((m ≡ n) ⊎ ((m < n) ⊎ (n < m))) → m ≡ n
    go (inl e) = e
    go (inr (inl lt)) = absurd (later_clear s rows m n y x a.row b.row h lt a.numbered b.numbered a.within b.within)
    go (inr (inr lt)) = absurd (later_clear s rows n m y x b.row a.row h lt b.numbered a.numbered b.within a.within)

-- a body that fits, by its far edges
pub record BodyFits (p : Sides ℕ) (b : Rectangle ℕ) : Type 0 where
  pub across : b.left + b.width ≤ p.width
  pub down : b.top + b.height ≤ p.height

reach_fits : (p : Sides ℕ) (b : Rectangle ℕ) (s : FourSides) → fits p b s ≡ true → BodyFits p b
reach_fits p b s h = record { across = grind (arith, nat_tests); down = grind (arith, nat_tests) }

pub body_fits : (p : Sides ℕ) (r : Row) → claim_inside p r ≡ true → BodyFits p r.body
body_fits p r h = go r.bands h
  where
    go : (bands : Option GuardBands) → list_all (fits p r.body) (reaches bands) ≡ true → BodyFits p r.body
    go None k = reach_fits p r.body no_reach (and_parts (fits p r.body no_reach) true k).0
    go (Some x) k = reach_fits p r.body x.sizes (and_parts (fits p r.body x.sizes) true k).0

-- a body's samples belong to the row's claim
pub body_claimed : (r : Row) (y x : ℕ) → has (widened r.body no_reach) y x ≡ true → covers (claim r) y x ≡ true
body_claimed r y x h = go r.bands
  where
    i : In (widened r.body no_reach) y x
    i = in_from (widened r.body no_reach) y x h

    go : (bands : Option GuardBands) → covers (map (widened r.body) (reaches bands)) y x ≡ true
    go None = or_left (has (widened r.body no_reach) y x) false h
    go (Some z) =
        or_left (has (widened r.body z.sizes) y x) false
        (has_from (widened r.body z.sizes) y x
        (record { top = omega (arith, i.top); bottom = omega (arith, i.bottom); left = omega (arith, i.left); right = omega (arith, i.right) }))

in_claim : (rows : List Row) (n y x : ℕ) → InBody rows n y x → Claims rows n y x
in_claim rows n y x b = record { row = b.row; numbered = b.numbered; within = body_claimed b.row y x b.within }

pub bodies : (s : SheetSides) (rows : List Row) → sound_rows s rows ≡ true → Bodies s.packed rows
bodies s rows h =
    record {
      inside = λ n y x b.
          let f : BodyFits s.packed b.row.body =
          body_fits s.packed b.row (faultless s b.row (row_sound s rows n b.row h b.numbered)).packed in
          let i : In (widened b.row.body no_reach) y x = in_from (widened b.row.body no_reach) y x b.within in
          (omega (arith, f.across, i.right), omega (arith, f.down, i.bottom));
      apart = λ m n y x a b. claimed_once s rows h m n y x (in_claim rows m y x a) (in_claim rows n y x b);
    }
