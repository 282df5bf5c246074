-- Claims that share a sample are those that the test finds.
use Rattle.std.proofs.Common.{◌≡◌, ℕ, ◌<◌, ◌≤◌, max, Bool, true, false, ◌||◌, ◌⊎◌, List, [], ◌∷◌, map, Some, None, Option, refl, inl, inr, arith}
use Rattle.std.specs.List.{AllByRecursion, list_any}
use Rattle.std.proofs.lemmas.Bool.{or_cases, or_left, or_right, both_ways}
use Rattle.std.proofs.lemmas.Bool.Decides.{nat_tests}
use Rattle.geometry.specs.declared.bounds.Bounds.{Bounds}
use Rattle.geometry.specs.Boxes.{has, covers}
use Rattle.sheet.specs.declared.row.GuardBands.{GuardBands}
use Rattle.sheet.specs.declared.row.Row.{Row}
use Rattle.sheet.specs.Claims.{reaches, widened, claim, overlap, meets}
use Rattle.sheet.specs.Rules.{empty_row}
use Rattle.sheet.specs.Words.{Meet, Tested}
use Rattle.sheet.specs.Serving.{Sided}
use Rattle.sheet.proofs.Sided.{sided}

-- a box's test, by its four bounds
pub record In (o : Bounds) (y x : ℕ) : Type 0 where
  pub top : o.top ≤ y
  pub bottom : y < o.bottom
  pub left : o.left ≤ x
  pub right : x < o.right

pub in_from : (o : Bounds) (y x : ℕ) → has o y x ≡ true → In o y x
in_from o y x h =
    record {
      top = grind (arith, nat_tests);
      bottom = grind (arith, nat_tests);
      left = grind (arith, nat_tests);
      right = grind (arith, nat_tests);
    }

pub has_from : (o : Bounds) (y x : ℕ) → In o y x → has o y x ≡ true
has_from o y x i = grind (arith, nat_tests)

-- two boxes that overlap, by four orders
record Crossed (a b : Bounds) : Type 0 where
  pub w : a.left < b.right
  pub e : b.left < a.right
  pub n : a.top < b.bottom
  pub s : b.top < a.bottom

crossed : (a b : Bounds) → overlap a b ≡ true → Crossed a b
crossed a b h =
    record {
      w = grind (arith, nat_tests);
      e = grind (arith, nat_tests);
      n = grind (arith, nat_tests);
      s = grind (arith, nat_tests);
    }

overlap_from : (a b : Bounds) → Crossed a b → overlap a b ≡ true
overlap_from a b c = grind (arith, nat_tests)

-- a place that both boxes have
has_overlap : (a b : Bounds) (y x : ℕ) → has a y x ≡ true → has b y x ≡ true → overlap a b ≡ true
has_overlap a b y x ha hb = grind (arith, nat_tests)

overlaps_one : (a : Bounds) (d : List Bounds) (y x : ℕ) → has a y x ≡ true → covers d y x ≡ true → list_any (overlap a) d ≡ true
overlaps_one a [] y x ha h = h
overlaps_one a (b ∷ d) y x ha h = go (or_cases (has b y x) (covers d y x) h) (overlaps_one a d y x ha)
  where
    go : ((has b y x ≡ true) ⊎ (covers d y x ≡ true)) → (covers d y x ≡ true → list_any (overlap a) d ≡ true) → list_any (overlap a) (b ∷ d) ≡ true
    go (inl here) ih = or_left (overlap a b) (list_any (overlap a) d) (has_overlap a b y x ha here)
    go (inr later) ih = or_right (overlap a b) (list_any (overlap a) d) (ih later)

-- a shared sample is found
pub shared_meets : (c d : List Bounds) (y x : ℕ) → covers c y x ≡ true → covers d y x ≡ true → meets c d ≡ true
shared_meets [] d y x hc hd = hc
shared_meets (a ∷ c) d y x hc hd = go (or_cases (has a y x) (covers c y x) hc) (λ h. shared_meets c d y x h hd)
  where
    go : ((has a y x ≡ true) ⊎ (covers c y x ≡ true)) → (covers c y x ≡ true → meets c d ≡ true) → meets (a ∷ c) d ≡ true
    go (inl here) ih = or_left (list_any (overlap a) d) (meets c d) (overlaps_one a d y x here hd)
    go (inr later) ih = or_right (list_any (overlap a) d) (meets c d) (ih later)

-- a box that has places
pub record Solid (o : Bounds) : Type 0 where
  pub high : o.top < o.bottom
  pub wide : o.left < o.right

-- boxes that overlap share the place where both have begun
box_shared : (a b : Bounds) → Solid a → Solid b → overlap a b ≡ true → Meet (a ∷ []) (b ∷ [])
box_shared a b sa sb h =
    let c : Crossed a b = crossed a b h in
    let y : ℕ = max a.top b.top in
    let x : ℕ = max a.left b.left in
    record {
      y = y;
      x = x;
      first = or_left (has a y x) false (has_from a y x (record { top = omega arith; bottom = omega (arith, c.s, sa.high); left = omega arith; right = omega (arith, c.e, sa.wide) }));
      second = or_left (has b y x) false (has_from b y x (record { top = omega arith; bottom = omega (arith, c.n, sb.high); left = omega arith; right = omega (arith, c.w, sb.wide) }));
    }

only : (b : Bool) → (b || false) ≡ true → b ≡ true
only true h = refl
only false h = h

one_shared : (a : Bounds) (d : List Bounds) → Solid a → AllByRecursion Solid d → list_any (overlap a) d ≡ true → Meet (a ∷ []) d
one_shared a [] sa sd h = absurd (both_ways false refl h)
one_shared a (b ∷ d) sa (sb, sd) h = go (or_cases (overlap a b) (list_any (overlap a) d) h) (one_shared a d sa sd)
  where
    go : ((overlap a b ≡ true) ⊎ (list_any (overlap a) d ≡ true)) → (list_any (overlap a) d ≡ true → Meet (a ∷ []) d) → Meet (a ∷ []) (b ∷ d)
    go (inl here) ih =
        let m : Meet (a ∷ []) (b ∷ []) = box_shared a b sa sb here in
        record { y = m.y; x = m.x; first = m.first; second = or_left (has b m.y m.x) (covers d m.y m.x) (only (has b m.y m.x) m.second) }
    go (inr later) ih =
        let m : Meet (a ∷ []) d = ih later in
        record { y = m.y; x = m.x; first = m.first; second = or_right (has b m.y m.x) (covers d m.y m.x) m.second }

meets_shared : (c d : List Bounds) → AllByRecursion Solid c → AllByRecursion Solid d → meets c d ≡ true → Meet c d
meets_shared [] d sc sd h = absurd (both_ways false refl h)
meets_shared (a ∷ c) d (sa, sc) sd h = go (or_cases (list_any (overlap a) d) (meets c d) h) (meets_shared c d sc sd)
  where
    go : ((list_any (overlap a) d ≡ true) ⊎ (meets c d ≡ true)) → (meets c d ≡ true → Meet c d) → Meet (a ∷ c) d
    go (inl here) ih =
        let m : Meet (a ∷ []) d = one_shared a d sa sd here in
        record { y = m.y; x = m.x; first = or_left (has a m.y m.x) (covers c m.y m.x) (only (has a m.y m.x) m.first); second = m.second }
    go (inr later) ih =
        let m : Meet c d = ih later in
        record { y = m.y; x = m.x; first = or_right (has a m.y m.x) (covers c m.y m.x) m.first; second = m.second }

pub solid_claim : (r : Row) → empty_row r ≡ false → AllByRecursion Solid (claim r)
solid_claim r h = go r.bands
  where
    sides : Sided r
    sides = sided r h

    go : (bands : Option GuardBands) → AllByRecursion Solid (map (widened r.body) (reaches bands))
    go None = (record { high = omega (arith, sides.high); wide = omega (arith, sides.wide) }, tt)
    go (Some x) = (record { high = omega (arith, sides.high); wide = omega (arith, sides.wide) }, tt)

pub tested : (r s : Row) → empty_row r ≡ false → empty_row s ≡ false → Tested (claim r) (claim s)
tested r s hr hs =
    record {
      shares = meets_shared (claim r) (claim s) (solid_claim r hr) (solid_claim s hs);
      says = λ m. shared_meets (claim r) (claim s) m.y m.x m.first m.second;
    }
