-- Boxes filled place by place, line by line and box by box.
use Rattle.std.proofs.Common.{◌≡◌, ℕ, ◌+◌, ◌≤◌, max, Bool, true, false, cond, ◌&&◌, ◌||◌, List, ◌∷◌, Some, None, Option, sym, refl, ap, inl, inr, arith}
use Rattle.std.proofs.Math.Bool.{or_comm}
use Rattle.std.proofs.lemmas.Bool.{cases_lt}
use Rattle.std.specs.Option.{option_map}
use Rattle.std.proofs.lemmas.Bool.Decides.{nat_tests}
use Rattle.geometry.specs.declared.bounds.Bounds.{Bounds}
use Rattle.geometry.specs.declared.place.Place.{Place}
use Rattle.geometry.specs.Boxes.{lies, has, covers}
use Rattle.geometry.specs.Places.{at}
use Rattle.picture.specs.Picture.{Picture, same_place, painted}
use Rattle.picture.proofs.Pictures.{same_picture}
use Rattle.packing.specs.Maps.{filled, filled_all, line_of}

-- a box given by its four edges
abbrev pub box : ℕ → ℕ → ℕ → ℕ → Bounds
box top bottom left right = record { top = top; bottom = bottom; left = left; right = right }

module _ {A : Type 0} (v : A) where
  -- with the mark or as it was
  abbrev over : Bool → Option A → Option A
  over b o = cond b (option_map (λ (x : A). v) o) o

  -- filled twice with one mark is filled once
  twice : (e b c : Bool) (o : Option A) → c ≡ (e || b) → over e (over b o) ≡ over c o
  twice true true c None h = ap (λ d. over d None) (sym h)
  twice true true c (Some x) h = ap (λ d. over d (Some x)) (sym h)
  twice true false c o h = ap (λ d. over d o) (sym h)
  twice false b c o h = ap (λ d. over d o) (sym h)

  -- boxes with the same places
  pub filled_same : (p : Picture A) (a b : Bounds) → ((q : Place) → has a q.y q.x ≡ has b q.y q.x) → filled p a v ≡ filled p b v
  filled_same p a b h = same_picture _ _ refl (λ q. ap (λ c. over c (p.at q)) (h q))

  -- no place yet
  pub filled_none : (p : Picture A) (a : Bounds) → ((q : Place) → has a q.y q.x ≡ false) → p ≡ filled p a v
  filled_none p a h = same_picture _ _ refl (λ q. ap (λ c. over c (p.at q)) (sym (h q)))

  -- one place more of a line
  pub line_more : (p : Picture A) (y left x : ℕ) → left ≤ x →
      painted (filled p (box y (y + 1) left x) v) (at x y) v ≡ filled p (box y (y + 1) left (x + 1)) v
  line_more p y left x from =
      same_picture _ _ refl
      (λ q. twice (same_place q (at x y)) (has (box y (y + 1) left x) q.y q.x)
      (has (box y (y + 1) left (x + 1)) q.y q.x) (p.at q) (grind (arith, nat_tests)))

  -- one line more of a box
  pub box_more : (p : Picture A) (a : Bounds) (y : ℕ) → a.top ≤ y →
      filled (filled p (box a.top y a.left a.right) v) (line_of a y) v ≡ filled p (box a.top (y + 1) a.left a.right) v
  box_more p a y from =
      same_picture _ _ refl
      (λ q. twice (has (line_of a y) q.y q.x) (has (box a.top y a.left a.right) q.y q.x)
      (has (box a.top (y + 1) a.left a.right) q.y q.x) (p.at q) (grind (arith, nat_tests)))

  -- one box more
  pub boxes_more : (p : Picture A) (a : Bounds) (boxes : List Bounds) → filled_all (filled p a v) boxes v ≡ filled_all p (a ∷ boxes) v
  boxes_more p a boxes =
      same_picture _ _ refl
      (λ q. twice (covers boxes q.y q.x) (has a q.y q.x) (covers (a ∷ boxes) q.y q.x) (p.at q)
      (or_comm (has a q.y q.x) (covers boxes q.y q.x)))

-- a box that ends where it begins has no place
pub no_line : (y left : ℕ) (q : Place) → has (box y (y + 1) left left) q.y q.x ≡ false
no_line y left q = grind (arith, nat_tests)

pub no_box : (top left right : ℕ) (q : Place) → has (box top top left right) q.y q.x ≡ false
no_box top left right q = grind (arith, nat_tests)

-- a count from lo that has come to hi, or began past it
same_end : (lo hi x q : ℕ) → hi ≤ x → x ≤ max lo hi → lies lo x q ≡ lies lo hi q
same_end lo hi x q past most =
    elim (cases_lt hi lo) [
      | inl none ↦ let still : x ≤ lo = omega arith in grind (arith, nat_tests)
      | inr some ↦ let end : x ≡ hi = omega arith in ap (λ a. lies lo a q) end
    ]

-- the line and the box that are filled when their loops end
pub whole_line : (y : ℕ) (area : Bounds) (x : ℕ) → area.right ≤ x → x ≤ max area.left area.right → (q : Place) →
    has (box y (y + 1) area.left x) q.y q.x ≡ has (line_of area y) q.y q.x
whole_line y area x past most q = ap (λ b. lies y (y + 1) q.y && b) (same_end area.left area.right x q.x past most)

pub whole_box : (area : Bounds) (y : ℕ) → area.bottom ≤ y → y ≤ max area.top area.bottom → (q : Place) →
    has (box area.top y area.left area.right) q.y q.x ≡ has area q.y q.x
whole_box area y past most q = ap (λ b. b && lies area.left area.right q.x) (same_end area.top area.bottom y q.y past most)
