-- A spot is in no blocked box exactly where it is free.
use Rattle.std.proofs.Common.{◌≡◌, ℕ, ◌<◌, Bool, true, false, cond, not, ◌&&◌, ◌||◌, List, [], ◌∷◌, ◌++◌, map, Some, None, Ok, Err, Option, Result, sym, refl, ap, ◌∙◌, subst, ap₂, arith}
use Rattle.std.specs.List.{flat_map, AllByRecursion, list_all, list_any}
use Rattle.std.proofs.ByRecursion.{All-weaker}
use Rattle.std.proofs.lemmas.Bool.{and_parts}
use Rattle.std.proofs.lemmas.Bool.Decides.{nat_tests}
use Rattle.geometry.specs.declared.bounds.Bounds.{Bounds}
use Rattle.geometry.specs.Boxes.{has, covers}
use Rattle.refusal.specs.declared.Refusal.{Refusal}
use Rattle.refusal.specs.declared.Refusal.TheVariants.{ClaimLeaves, ClaimMeets}
use Rattle.geometry.specs.declared.search.Spot.{Spot}
use Rattle.geometry.specs.FirstFree.{clear, first_free, Free, First}
use Rattle.geometry.proofs.Searching.{same_first, is_first}
use Rattle.sheet.specs.declared.row.Draft.{Draft}
use Rattle.sheet.specs.declared.row.FourSides.{FourSides}
use Rattle.sheet.specs.declared.row.GuardBands.{GuardBands}
use Rattle.geometry.specs.declared.place.Sides.{Sides}
use Rattle.sheet.specs.declared.row.Row.{Row}
use Rattle.sheet.specs.declared.row.SheetSides.{SheetSides}
use Rattle.sheet.specs.Blocked.{walls, forbidden, against, blocked, SmallSpot, SearchFinds}
use Rattle.sheet.specs.Claims.{reaches, widened, claim, fits, claim_inside, overlap, meets, meets_any}
use Rattle.sheet.specs.Rules.{Content, empty_picture, empty_row, verdict, room_checks, drafted, free, found}
use Rattle.sheet.specs.Sound.{sound, sound_rows}
use Rattle.sheet.proofs.Rows.{faultless, each_sound}
use Rattle.sheet.specs.Serving.{Sided}
use Rattle.sheet.proofs.Sided.{sided}

or_assoc : (x y z : Bool) → (x || (y || z)) ≡ ((x || y) || z)
or_assoc x y z = grind (arith, nat_tests)

covers_append : (a b : List Bounds) (y x : ℕ) → covers (a ++ b) y x ≡ (covers a y x || covers b y x)
covers_append [] b y x = refl
covers_append (o ∷ a) b y x =
    ap (λ (r : Bool). has o y x || r) (covers_append a b y x) ∙ or_assoc (has o y x) (covers a y x) (covers b y x)

covers_joined : {X : Type 0} (f : X → List Bounds) (xs : List X) (y x : ℕ) → covers (flat_map f xs) y x ≡ list_any (λ s. covers (f s) y x) xs
covers_joined f [] y x = refl
covers_joined f (s ∷ xs) y x =
    covers_append (f s) (flat_map f xs) y x ∙ ap (λ (r : Bool). covers (f s) y x || r) (covers_joined f xs y x)

covers_map : {X : Type 0} (g : X → Bounds) (xs : List X) (y x : ℕ) → covers (map g xs) y x ≡ list_any (λ c. has (g c) y x) xs
covers_map g [] y x = refl
covers_map g (c ∷ xs) y x = ap (λ (r : Bool). has (g c) y x || r) (covers_map g xs y x)

any_same : {X : Type 0} (p q : X → Bool) (xs : List X) → AllByRecursion (λ x. p x ≡ q x) xs → list_any p xs ≡ list_any q xs
any_same p q [] h = refl
any_same p q (x ∷ xs) (h, hs) = ap₂ (λ (a b : Bool). a || b) h (any_same p q xs hs)

any_map : {X Y : Type 0} (p : Y → Bool) (g : X → Y) (xs : List X) → list_any p (map g xs) ≡ list_any (λ x. p (g x)) xs
any_map p g [] = refl
any_map p g (x ∷ xs) = ap (λ (r : Bool). p (g x) || r) (any_map p g xs)

any_not : {X : Type 0} (p : X → Bool) (xs : List X) → list_any (λ x. not (p x)) xs ≡ not (list_all p xs)
any_not p [] = refl
any_not p (x ∷ xs) = ap (λ (r : Bool). not (p x) || r) (any_not p xs) ∙ de_morgan (p x) (list_all p xs)
  where
    de_morgan : (a b : Bool) → (not a || not b) ≡ not (a && b)
    de_morgan a b = grind (arith, nat_tests)

all_of : {X : Type 0} (P : X → Type 0) → ((x : X) → P x) → (xs : List X) → AllByRecursion P xs
all_of P h [] = tt
all_of P h (x ∷ xs) = (h x, all_of P h xs)

-- a box that does not end where it could only be empty
abbrev Ends : Bounds → Type 0
Ends b = (0 < b.right) × (0 < b.bottom)

ends : (r : Row) → empty_row r ≡ false → AllByRecursion Ends (claim r)
ends r h = go r.bands
  where
    sides : Sided r
    sides = sided r h

    go : (bands : Option GuardBands) → AllByRecursion Ends (map (widened r.body) (reaches bands))
    go None = ((omega (arith, sides.wide), omega (arith, sides.high)), tt)
    go (Some x) = ((omega (arith, sides.wide), omega (arith, sides.high)), tt)

wall : (p : Sides ℕ) (d : Draft) (t l : ℕ) (s : FourSides) → t < p.height → l < p.width →
    covers (walls p d s) t l ≡ not (fits p (drafted d t l).body s)
wall p d t l s high near = grind (arith, nat_tests)

forbid : (d : Draft) (t l : ℕ) (s : FourSides) (c : Bounds) → Ends c →
    has (forbidden d s c) t l ≡ overlap (widened (drafted d t l).body s) c
forbid d t l s c (right, bottom) = grind (arith, nat_tests)

against_meets : (d : Draft) (t l : ℕ) (r : Row) → empty_row r ≡ false →
    covers (against d r) t l ≡ meets (claim (drafted d t l)) (claim r)
against_meets d t l r h =
    covers_joined (λ s. map (forbidden d s) (claim r)) (reaches d.bands) t l
    ∙ any_same _ _ (reaches d.bands)
    (all_of _ (λ s.
    covers_map (forbidden d s) (claim r) t l
    ∙ any_same _ _ (claim r) (All-weaker Ends _ (λ c e. forbid d t l s c e) (claim r) (ends r h)))
    (reaches d.bands))
    ∙ sym (any_map (λ a. list_any (overlap a) (claim r)) (widened (drafted d t l).body) (reaches d.bands))

both : (inside meet : Bool) → (inside && not meet) ≡ not (not inside || meet)
both inside meet = grind (arith, nat_tests)

module _ (c : Content) (d : Draft) (solid : AllByRecursion (λ r. empty_row r ≡ false) c.rows) where
  free_clear : (t l : ℕ) → t < c.sides.packed.height → l < c.sides.packed.width →
      free c d t l ≡ clear (blocked c.sides.packed c.rows d) t l
  free_clear t l high near =
      both (claim_inside c.sides.packed (drafted d t l)) (meets_any (claim (drafted d t l)) c.rows)
      ∙ ap not (sym (
      covers_append (flat_map (walls c.sides.packed d) (reaches d.bands)) (flat_map (against d) c.rows) t l
      ∙ ap₂ (λ (a b : Bool). a || b) inside others))
    where
      inside : covers (flat_map (walls c.sides.packed d) (reaches d.bands)) t l ≡ not (claim_inside c.sides.packed (drafted d t l))
      inside =
          covers_joined (walls c.sides.packed d) (reaches d.bands) t l
          ∙ any_same _ _ (reaches d.bands) (all_of _ (λ s. wall c.sides.packed d t l s high near) (reaches d.bands))
          ∙ any_not (fits c.sides.packed (drafted d t l).body) (reaches d.bands)

      others : covers (flat_map (against d) c.rows) t l ≡ meets_any (claim (drafted d t l)) c.rows
      others =
          covers_joined (against d) c.rows t l
          ∙ any_same _ _ c.rows (All-weaker _ _ (λ r h. against_meets d t l r h) c.rows solid)

  -- so the first spot in no box is the one that is wanted
  pub found_first : first_free (blocked c.sides.packed c.rows d) c.sides.packed.height c.sides.packed.width ≡ found c d
  found_first =
      same_first (clear (blocked c.sides.packed c.rows d)) (free c d) c.sides.packed.height c.sides.packed.width
      (λ t l high near. sym (free_clear t l high near))

solid_rows : (s : SheetSides) (rows : List Row) → sound_rows s rows ≡ true → AllByRecursion (λ r. empty_row r ≡ false) rows
solid_rows s rows h = All-weaker _ _ (λ r ok. (faultless s r ok).sides) rows (each_sound s rows h)

-- what the search over the blocked boxes of a sound sheet answers
search_finds : (c : Content) (d : Draft) (boxes : List Bounds) → sound c ≡ true →
    boxes ≡ blocked c.sides.packed c.rows d →
    first_free boxes c.sides.packed.height c.sides.packed.width ≡ found c d
search_finds c d boxes h e =
    ap (λ bs. first_free bs c.sides.packed.height c.sides.packed.width) e
    ∙ found_first c d (solid_rows c.sides c.rows (and_parts (not (empty_picture c.sides)) (sound_rows c.sides c.rows) h).1)

-- a spot that is found lies inside and is free
pub found_free : (c : Content) (d : Draft) (s : Spot) → found c d ≡ Some s →
    Free (free c d) c.sides.packed.height c.sides.packed.width s
found_free c d s e =
    (subst (First (free c d) c.sides.packed.height c.sides.packed.width) e
    (is_first (free c d) c.sides.packed.height c.sides.packed.width)).0

-- and so its row passes the checks of where it lies
pub found_room : (c : Content) (d : Draft) (s : Spot) → found c d ≡ Some s →
    Ok tt ≡ verdict (room_checks c (drafted d s.top s.left))
found_room c d s e =
    passes (claim_inside c.sides.packed (drafted d s.top s.left)) (meets_any (claim (drafted d s.top s.left)) c.rows)
    ClaimLeaves ClaimMeets (found_free c d s e).passes
  where
    passes : (x y : Bool) (f g : Refusal) → (x && not y) ≡ true →
        ◌≡◌ {A = Result Unit Refusal} (Ok tt) (cond (not x) (Err f) (cond y (Err g) (Ok tt)))
    passes x y f g h = grind (arith, nat_tests)

found_small : (c : Content) (d : Draft) (r : Option Spot) → found c d ≡ r →
    c.sides.packed.height < 65536 → c.sides.packed.width < 65536 → SmallSpot r
found_small c d None e high near = tt
found_small c d (Some s) e high near =
    let f = found_free c d s e in (omega (arith, f.high), omega (arith, f.near))

pub finds : (c : Content) (d : Draft) (boxes : List Bounds) → sound c ≡ true → boxes ≡ blocked c.sides.packed c.rows d →
    SearchFinds c d boxes
finds c d boxes h e =
    record { value = search_finds c d boxes h e; small = found_small c d (found c d) refl }
