-- The laws of the centre.
use Rattle.std.proofs.Common.{◌≡◌, ℕ, ◌+◌, ◌*◌, ◌/◌, ◌<◌, ◌≤◌, ◌⊎◌, ap, ◌∙◌, inl, inr, div-lt_iff_lt-mul, mul-lt-mul_of_pos_right, arith}
use native.Mathlib.Nat.{div-eq_of_lt-le, mul-div-le, lt-mul-div-succ, mul-add-div}
use Rattle.std.proofs.lemmas.Nat.{mul-le}
use Rattle.std.proofs.lemmas.Bool.{cases_lt}
use Rattle.geometry.specs.Centre.{centre, CentreLaws}

pub inside : (n d i : ℕ) → 0 < n → i < d → centre n d i < n
inside n d i n0 id =
    let d0 : 0 < 2 * d = omega arith in
    let k : 2 * i + 1 < 2 * d = omega arith in
    (div-lt_iff_lt-mul d0).1 (omega (arith, mul-lt-mul_of_pos_right k n0))

-- and never past the end, even of no samples
pub at_most : (n d i : ℕ) → i < d → centre n d i ≤ n
at_most n d i id =
    let d0 : 0 < 2 * d = omega arith in
    let below : centre n d i < n + 1 =
    (div-lt_iff_lt-mul d0).1 (omega (arith, mul-le (2 * i + 1) n (2 * d) n (omega arith) (omega arith))) in
    omega arith

-- a whole part, by its two bounds
bounded : (n d i c : ℕ) → c * (2 * d) ≤ (2 * i + 1) * n → (2 * i + 1) * n < (c + 1) * (2 * d) → centre n d i ≡ c
bounded n d i c lo hi = div-eq_of_lt-le (2 * d) lo hi

-- as many cells as samples
same : (a u : ℕ) → 0 < a → centre a a u ≡ u
same a u a0 = bounded a a u u (omega arith) (omega arith)

-- more cells than samples, with the cell k as a number of its own
finer : (q a u k : ℕ) → 0 < q → q < a → (2 * q) * k ≤ (2 * u + 1) * a → (2 * u + 1) * a < (2 * q) * (k + 1) → centre q a k ≡ u
finer q a u k q0 qa lo hi = bounded q a k u (omega arith) (omega arith)

pub returns : (q a u : ℕ) → 0 < q → q ≤ a → centre q a (centre a q u) ≡ u
returns q a u q0 qa = go (cases_lt q a)
  where
    go : ((q < a) ⊎ (a ≤ q)) → centre q a (centre a q u) ≡ u
    go (inl h) =
        let q2 : 0 < 2 * q = omega arith in
        finer q a u (centre a q u) q0 h (mul-div-le ((2 * u + 1) * a) (2 * q)) (lt-mul-div-succ ((2 * u + 1) * a) q2)
    go (inr h) =
        let e : q ≡ a = omega arith in
        rw e (ap (centre a a) (same a u (omega arith)) ∙ same a u (omega arith))

pub whole : (n d i edge : ℕ) → 0 < d → (2 * d * edge + (2 * i + 1) * n) / (2 * d) ≡ edge + centre n d i
whole n d i edge d0 = mul-add-div {m = 2 * d} (omega arith) edge ((2 * i + 1) * n)

pub laws : CentreLaws
laws = record { inside = inside; returns = returns; whole = whole }
