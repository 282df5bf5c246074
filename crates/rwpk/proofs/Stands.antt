-- Bytes that stand in an input from a place on, end to end.
use Rattle.std.proofs.Common.{◌≡◌, ℕ, ◌+◌, ◌<◌, ◌≤◌, List, ◌++◌, length, take, drop, sym, refl, ap, ◌∙◌, arith, length-append, length-drop, length-take, take-add}
use Rattle.std.proofs.lemmas.List.{drop-drop, take-take, take_at, drop_at, drop-take}

abbrev pub Stands : List ℕ → List ℕ → ℕ → Type 0
Stands ys input p = take (length ys) (drop p input) ≡ ys

pub join : (ys zs input : List ℕ) (p q : ℕ) → q ≡ p + length ys → Stands ys input p → Stands zs input q → Stands (ys ++ zs) input p
join ys zs input p q e f g =
    ap (λ n. take n (drop p input)) (length-append ys zs)
    ∙ take-add (length ys) (length zs) (drop p input)
    ∙ ap (λ ws. ws ++ take (length zs) (drop (length ys) (drop p input))) f
    ∙ ap (λ ws. ys ++ take (length zs) ws) (drop-drop (length ys) p input ∙ ap (λ n. drop n input) (sym e))
    ∙ ap (λ ws. ys ++ ws) g

pub split : (ys zs input : List ℕ) (p q : ℕ) → q ≡ p + length ys → Stands (ys ++ zs) input p → Stands ys input p × Stands zs input q
split ys zs input p q e s =
    let m : ℕ = length ys in
    let n : ℕ = length zs in
    let w : List ℕ = drop p input in
    let all : take (m + n) w ≡ ys ++ zs = ap (λ k. take k w) (sym (length-append ys zs)) ∙ s in (
      sym (take-take m (m + n) w (omega arith)) ∙ ap (take m) all ∙ take_at ys zs m refl,
      ap (λ k. take n (drop k input)) e
          ∙ ap (take n) (sym (drop-drop m p input))
          ∙ sym (drop-take m n w)
          ∙ ap (drop m) all
          ∙ drop_at ys zs m refl,
    )

pub room : (ys input : List ℕ) (p : ℕ) → 0 < length ys → Stands ys input p → p + length ys ≤ length input
room ys input p h s = let e = simp (length-take, length-drop) at (ap length s) in omega arith
