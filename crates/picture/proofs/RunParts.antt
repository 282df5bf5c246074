-- A run of samples of which a part is written.
use Rattle.std.proofs.Common.{◌≡◌, ℕ, zero, suc, ◌+◌, ◌-◌, ◌<◌, ◌≤◌, Bool, true, false, cond, ltb, List, [], ◌∷◌, ◌++◌, length, take, drop, Some, Option, sym, refl, ap, ◌∙◌, arith}
use Rattle.std.specs.List.{slice_get}
use Rattle.std.proofs.lemmas.Bool.{lt-ltb, le-ltb, both_ways, cond-true, cond-false}
use Rattle.std.proofs.lemmas.Bool.Decides.{nat_tests}
use Rattle.geometry.specs.Boxes.{lies}
use Rattle.picture.specs.Lines.{Given}
use Rattle.picture.proofs.Stretches.{lies_on}

-- a run is another of which the n samples from spot k on were written
abbrev pub Written : {A : Type 0} → ℕ → ℕ → (ℕ → Option A) → List A → List A → Type 0
Written k n held from to = (j : ℕ) → slice_get to j ≡ cond (lies k (k + n) j) (held (j - k)) (slice_get from j)

module _ {A : Type 0} where
  same_ways : (b c : Bool) (u w o : Option A) → b ≡ c → (b ≡ true → u ≡ w) → cond b u o ≡ cond c w o
  same_ways true true u w o e h = h refl
  same_ways true false u w o e h = absurd (both_ways true e refl)
  same_ways false true u w o e h = absurd (both_ways false refl e)
  same_ways false false u w o e h = refl

  front : (ys xs : List A) (j : ℕ) → length ys ≤ length xs →
      slice_get (ys ++ drop (length ys) xs) j ≡ cond (ltb j (length ys)) (slice_get ys j) (slice_get xs j)
  front [] xs j h = sym (cond-false (ltb j 0) (slice_get [] j) (slice_get xs j) (le-ltb j 0 (omega arith)))
  front (y ∷ ys) [] j h = absurd (omega arith)
  front (y ∷ ys) (x ∷ xs) zero h =
      sym (cond-true (ltb 0 (length (y ∷ ys))) (Some y) (Some x) (lt-ltb 0 (length (y ∷ ys)) (omega arith)))
  front (y ∷ ys) (x ∷ xs) (suc j) h =
      front ys xs j (omega arith)
      ∙ same_ways (ltb j (length ys)) (ltb (suc j) (length (y ∷ ys))) (slice_get ys j) (slice_get ys j) (slice_get xs j) (grind (arith, nat_tests)) (λ _. refl)

  -- a run whose part from spot k on was written over by ys
  nth_part : (k : ℕ) (xs ys : List A) (j : ℕ) → k + length ys ≤ length xs →
      slice_get (take k xs ++ (ys ++ drop (length ys) (drop k xs))) j ≡ cond (lies k (k + length ys) j) (slice_get ys (j - k)) (slice_get xs j)
  nth_part zero xs ys j h =
      let whole : j ≡ j - 0 = omega arith in
      front ys xs j (omega arith)
      ∙ same_ways (ltb j (length ys)) (lies 0 (0 + length ys) j) (slice_get ys j) (slice_get ys (j - 0)) (slice_get xs j) (grind (arith, nat_tests))
      (λ _. ap (slice_get ys) whole)
  nth_part (suc k) [] ys j h = absurd (omega arith)
  nth_part (suc k) (x ∷ xs) ys zero h =
      sym (cond-false (lies (suc k) (suc k + length ys) 0) (slice_get ys (0 - suc k)) (Some x) (grind (arith, nat_tests)))
  nth_part (suc k) (x ∷ xs) ys (suc j) h =
      let down : j - k ≡ suc j - suc k = omega arith in
      nth_part k xs ys j (omega arith)
      ∙ same_ways (lies k (k + length ys) j) (lies (suc k) (suc k + length ys) (suc j)) (slice_get ys (j - k)) (slice_get ys (suc j - suc k)) (slice_get xs j)
      (grind (arith, nat_tests)) (λ _. ap (slice_get ys) down)

  -- the same, by what the part holds
  pub part_holds : (k n : ℕ) (xs ys : List A) (held : ℕ → Option A) (j : ℕ) → length ys ≡ n → k + n ≤ length xs → Given n held ys →
      slice_get (take k xs ++ (ys ++ drop n (drop k xs))) j ≡ cond (lies k (k + n) j) (held (j - k)) (slice_get xs j)
  part_holds k n xs ys held j long room given =
      ap (λ m. slice_get (take k xs ++ (ys ++ drop m (drop k xs))) j) (sym long)
      ∙ nth_part k xs ys j (rw long room)
      ∙ same_ways (lies k (k + length ys) j) (lies k (k + n) j) (slice_get ys (j - k)) (held (j - k)) (slice_get xs j)
      (ap (λ m. lies k (k + m) j) long)
      (λ t.
      let on = lies_on k (length ys) j t in
      let lo : k ≤ j = on.from in
      let hi : j < k + length ys = on.before in
      given (j - k) (omega arith))
