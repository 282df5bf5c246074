-- `least` is the least number that passes, and how a loop that counts up shows it.
use Rattle.std.proofs.Common.{◌≡◌, ℕ, zero, suc, ◌<◌, ◌≤◌, Bool, true, false, ◌⊎◌, ◌∙◌, inl, inr, suc-le-suc, zero-le, le_of_suc-le-suc, not-suc-le-zero, arith}
use Rattle.std.proofs.lemmas.Bool.{both_ways, cases_order, cond_both}
use Rattle.geometry.specs.Least.{least, IsLeast}

one_more : (n : ℕ) (p : ℕ → Bool) (r : ℕ) → p zero ≡ false → IsLeast n (λ k. p (suc k)) r → IsLeast (suc n) p (suc r)
one_more n p r z h = record { bounded = suc-le-suc h.bounded; passes = λ lt. h.passes (le_of_suc-le-suc lt); first = before }
  where
    before : (k : ℕ) → k < suc r → p k ≡ false
    before zero lt = z
    before (suc k) lt = h.first k (le_of_suc-le-suc lt)

pub is_least : (n : ℕ) (p : ℕ → Bool) → IsLeast n p (least n p)
is_least zero p =
    record { bounded = zero-le; passes = λ lt. absurd (not-suc-le-zero lt); first = λ k lt. absurd (not-suc-le-zero lt) }
is_least (suc n) p =
    cond_both (p zero) zero (suc (least n (λ k. p (suc k)))) (λ r. IsLeast (suc n) p r)
    (λ e. record { bounded = zero-le; passes = λ _. e; first = λ k lt. absurd (not-suc-le-zero lt) })
    (λ e. one_more n p (least n (λ k. p (suc k))) e (is_least n (λ k. p (suc k))))

-- two numbers that are least are one
pub one : (n : ℕ) (p : ℕ → Bool) (r s : ℕ) → IsLeast n p r → IsLeast n p s → r ≡ s
one n p r s hr hs = go (cases_order r s)
  where
    below : (a b : ℕ) → IsLeast n p a → IsLeast n p b → a < b → ⊥
    below a b ha hb lt = let m : a < n = omega (arith, hb.bounded) in both_ways (p a) (hb.first a lt) (ha.passes m)

    go : ((r ≡ s) ⊎ ((r < s) ⊎ (s < r))) → r ≡ s
    go (inl e) = e
    go (inr (inl lt)) = absurd (below r s hr hs lt)
    go (inr (inr lt)) = absurd (below s r hs hr lt)

-- a count that stops at k, since k passes
pub found : (n : ℕ) (p : ℕ → Bool) (k : ℕ) → k < n → p k ≡ true → ((j : ℕ) → j < k → p j ≡ false) → k ≡ least n p
found n p k lt here all =
    one n p k (least n p) (record { bounded = omega arith; passes = λ _. here; first = all }) (is_least n p)

-- a count that came to the end
pub none : (n : ℕ) (p : ℕ → Bool) (k : ℕ) → n ≤ k → ((j : ℕ) → j < k → p j ≡ false) → n ≡ least n p
none n p k le all =
    one n p n (least n p)
    (record { bounded = omega arith; passes = λ lt. absurd (omega arith); first = λ j lt. all j (omega arith) })
    (is_least n p)

-- two tests that agree below the bound have one least number
pub same : (n : ℕ) (p q : ℕ → Bool) → ((k : ℕ) → k < n → p k ≡ q k) → least n p ≡ least n q
same n p q agree =
    let s : IsLeast n q (least n q) = is_least n q in
    one n p (least n p) (least n q) (is_least n p)
    (record {
      bounded = s.bounded;
      passes = λ lt. agree (least n q) lt ∙ s.passes lt;
      first = λ k lt. agree k (omega (arith, s.bounded)) ∙ s.first k lt;
    })
