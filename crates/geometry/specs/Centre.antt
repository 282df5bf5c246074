-- Where the middle of one of d equal cells falls among n samples that span the same length.
use Rattle.std.specs.Prelude.{◌≡◌, ℕ, ◌+◌, ◌*◌, ◌/◌, ◌<◌, ◌≤◌, cond, Ok, Err, Result, nat_lt}
use Rattle.refusal.specs.declared.Refusal.{Refusal}
use Rattle.refusal.specs.declared.Refusal.TheVariants.{PlaceOutside}

-- the sample among n that holds the middle of cell i of d
abbrev pub centre : ℕ → ℕ → ℕ → ℕ
centre n d i = ((2 * i + 1) * n) / (2 * d)

-- what asking for it answers
abbrev pub centred : ℕ → ℕ → ℕ → Result ℕ Refusal
centred n d i = cond (nat_lt i d) (Ok (centre n d i)) (Err PlaceOutside)

-- The laws of the centre.
pub record CentreLaws : Type 0 where
  -- a cell's middle falls inside
  pub inside : (n d i : ℕ) → 0 < n → i < d → centre n d i < n
  -- where there are at least as many cells as samples, a sample's middle lies in a cell whose middle lies in that sample
  pub returns : (q a u : ℕ) → 0 < q → q ≤ a → centre q a (centre a q u) ≡ u
  -- counted from an edge on one denominator, the whole part is the edge and the centre
  pub whole : (n d i edge : ℕ) → 0 < d → (2 * d * edge + (2 * i + 1) * n) / (2 * d) ≡ edge + centre n d i
