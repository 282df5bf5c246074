-- The least number below a bound that passes a test.
use Rattle.std.specs.Prelude.{◌≡◌, ℕ, zero, suc, ◌<◌, ◌≤◌, Bool, true, false, cond}

-- the least k below n with p k, or n where there is none
abbrev pub least : ℕ → (ℕ → Bool) → ℕ
least zero p = zero
least (suc n) p = cond (p zero) zero (suc (least n (λ k. p (suc k))))

-- r is that number
pub record IsLeast (n : ℕ) (p : ℕ → Bool) (r : ℕ) : Type 0 where
  pub bounded : r ≤ n
  pub passes : r < n → p r ≡ true
  pub first : (k : ℕ) → k < r → p k ≡ false
