-- Lists of rows under the edits.
use Rattle.std.proofs.Common.{◌≡◌, ℕ, zero, suc, Bool, true, false, not, ◌&&◌, ◌||◌, List, [], ◌∷◌, ◌++◌, sym, refl, ap, ◌∙◌, ap₂, arith}
use Rattle.std.specs.List.{remove, AllByRecursion, list_any}
use Rattle.std.proofs.lemmas.Bool.{and_parts, or_parts, or_from, not-true}
use Rattle.std.proofs.lemmas.Bool.Decides.{nat_tests}
use Rattle.geometry.specs.declared.bounds.Bounds.{Bounds}
use Rattle.sheet.specs.declared.row.Row.{Row}
use Rattle.sheet.specs.declared.row.SheetSides.{SheetSides}
use Rattle.sheet.specs.Claims.{claim, overlap, meets, meets_any, claim_inside}
use Rattle.sheet.specs.Rules.{empty_row, bad_bands, bad_turn, leaves_projected}
use Rattle.sheet.specs.Sound.{sound_row, sound_rows}

any_false : {X : Type 0} (xs : List X) → list_any (λ (x : X). false) xs ≡ false
any_false [] = refl
any_false (x ∷ xs) = any_false xs

any_or : {X : Type 0} (p q : X → Bool) (xs : List X) → (list_any p xs || list_any q xs) ≡ list_any (λ x. p x || q x) xs
any_or p q [] = refl
any_or p q (x ∷ xs) = shuffle (p x) (list_any p xs) (q x) (list_any q xs) ∙ ap (λ (b : Bool). (p x || q x) || b) (any_or p q xs)
  where
    shuffle : (a b c d : Bool) → ((a || b) || (c || d)) ≡ ((a || c) || (b || d))
    shuffle a b c d = grind (arith, nat_tests)

any_swap : {X Y : Type 0} (f : X → Y → Bool) (xs : List X) (ys : List Y) →
    list_any (λ x. list_any (λ y. f x y) ys) xs ≡ list_any (λ y. list_any (λ x. f x y) xs) ys
any_swap f [] ys = sym (any_false ys)
any_swap f (x ∷ xs) ys =
    ap (λ (b : Bool). list_any (f x) ys || b) (any_swap f xs ys) ∙ any_or (f x) (λ y. list_any (λ z. f z y) xs) ys

any_same : {X : Type 0} (p q : X → Bool) (xs : List X) → ((x : X) → p x ≡ q x) → list_any p xs ≡ list_any q xs
any_same p q [] h = refl
any_same p q (x ∷ xs) h = ap₂ (λ (a b : Bool). a || b) (h x) (any_same p q xs h)

overlap_comm : (a b : Bounds) → overlap a b ≡ overlap b a
overlap_comm a b = grind (arith, nat_tests)

pub meets_comm : (c d : List Bounds) → meets c d ≡ meets d c
meets_comm c d =
    any_swap overlap c d ∙ any_same _ _ d (λ b. any_same (λ a. overlap a b) (overlap b) c (λ a. overlap_comm a b))

-- none of the rows meets the claim, nor does one more
meets_push : (c : List Bounds) (rows : List Row) (r : Row) → meets_any c rows ≡ false → meets c (claim r) ≡ false →
    meets_any c (rows ++ r ∷ []) ≡ false
meets_push c [] r h k = or_from (meets c (claim r)) false k refl
meets_push c (x ∷ rows) r h k =
    let p = or_parts (meets c (claim x)) (meets_any c rows) h in
    or_from (meets c (claim x)) (meets_any c (rows ++ r ∷ [])) p.0 (meets_push c rows r p.1 k)

meets_removed : (c : List Bounds) (rows : List Row) (i : ℕ) → meets_any c rows ≡ false → meets_any c (remove rows i) ≡ false
meets_removed c [] zero h = refl
meets_removed c [] (suc i) h = refl
meets_removed c (x ∷ rows) zero h = (or_parts (meets c (claim x)) (meets_any c rows) h).1
meets_removed c (x ∷ rows) (suc i) h =
    let p = or_parts (meets c (claim x)) (meets_any c rows) h in
    or_from (meets c (claim x)) (meets_any c (remove rows i)) p.0 (meets_removed c rows i p.1)

-- the three parts of soundness at the first row
pub head_parts : (s : SheetSides) (r : Row) (rows : List Row) → sound_rows s (r ∷ rows) ≡ true →
    (sound_row s r ≡ true) × (meets_any (claim r) rows ≡ false) × (sound_rows s rows ≡ true)
head_parts s r rows h =
    let a = and_parts (sound_row s r && not (meets_any (claim r) rows)) (sound_rows s rows) h in
    let b = and_parts (sound_row s r) (not (meets_any (claim r) rows)) a.0 in
    (b.0, not-true (meets_any (claim r) rows) b.1, a.1)

head_from : (s : SheetSides) (r : Row) (rows : List Row) → sound_row s r ≡ true → meets_any (claim r) rows ≡ false →
    sound_rows s rows ≡ true → sound_rows s (r ∷ rows) ≡ true
head_from s r rows a b c = grind (arith, nat_tests)

pub sound_push : (s : SheetSides) (rows : List Row) (r : Row) → sound_rows s rows ≡ true → sound_row s r ≡ true →
    meets_any (claim r) rows ≡ false → sound_rows s (rows ++ r ∷ []) ≡ true
sound_push s [] r h k m = head_from s r [] k refl refl
sound_push s (x ∷ rows) r h k m =
    let (here, clear, rest) = head_parts s x rows h in
    let n = or_parts (meets (claim r) (claim x)) (meets_any (claim r) rows) m in
    head_from s x (rows ++ r ∷ []) here
    (meets_push (claim x) rows r clear (meets_comm (claim x) (claim r) ∙ n.0))
    (sound_push s rows r rest k n.1)

pub sound_removed : (s : SheetSides) (rows : List Row) (i : ℕ) → sound_rows s rows ≡ true → sound_rows s (remove rows i) ≡ true
sound_removed s [] zero h = refl
sound_removed s [] (suc i) h = refl
sound_removed s (x ∷ rows) zero h = (head_parts s x rows h).2
sound_removed s (x ∷ rows) (suc i) h =
    let (here, clear, rest) = head_parts s x rows h in
    head_from s x (remove rows i) here (meets_removed (claim x) rows i clear) (sound_removed s rows i rest)

-- what a sound row is free of
pub record FreeOfFaults (s : SheetSides) (r : Row) : Type 0 where
  pub turn : bad_turn r ≡ false
  pub sides : empty_row r ≡ false
  pub bands : bad_bands r.bands ≡ false
  pub projected : leaves_projected s.projected r.projected ≡ false
  pub packed : claim_inside s.packed r ≡ true

pub faultless : (s : SheetSides) (r : Row) → sound_row s r ≡ true → FreeOfFaults s r
faultless s r h =
    record {
      turn = grind (arith, nat_tests);
      sides = grind (arith, nat_tests);
      bands = grind (arith, nat_tests);
      projected = grind (arith, nat_tests);
      packed = grind (arith, nat_tests);
    }

pub sound_from : (s : SheetSides) (r : Row) → FreeOfFaults s r → sound_row s r ≡ true
sound_from s r f = grind (arith, nat_tests)

-- every row of a sound list is sound
pub each_sound : (s : SheetSides) (rows : List Row) → sound_rows s rows ≡ true → AllByRecursion (λ r. sound_row s r ≡ true) rows
each_sound s [] h = tt
each_sound s (r ∷ rows) h = let (here, clear, rest) = head_parts s r rows h in (here, each_sound s rows rest)
