-- The claim map: who claims each packed place.
use Rattle.std.specs.Prelude.{◌≡◌, ℕ, ◌+◌, ◌<◌, cond, List, [], ◌∷◌, Some, Option}
use Rattle.std.specs.Option.{option_map}
use Rattle.geometry.specs.declared.bounds.Bounds.{Bounds}
use Rattle.geometry.specs.declared.place.Place.{Place}
use Rattle.geometry.specs.Boxes.{has, covers}
use Rattle.geometry.specs.Places.{at, by}
use Rattle.picture.specs.declared.mark.Mark.{Mark}
use Rattle.picture.specs.declared.mark.Mark.TheVariants.{Nobody, Body, Band}
use Rattle.picture.specs.Picture.{Picture, shown_by}
use Rattle.sheet.specs.declared.row.Row.{Row}
use Rattle.sheet.specs.Claims.{claim}
use Rattle.sheet.specs.Rules.{Content}
use Rattle.sheet.specs.Words.{Claims, InBody}
use Rattle.packing.specs.Moves.{holds}

-- the mark of a place among rows that are numbered from n: the body or the bands of the first that claims it, else what was there
abbrev pub mark_at : ℕ → List Row → Place → Mark → Mark
mark_at n [] p old = old
mark_at n (r ∷ rows) p old =
    cond (holds r p) (Body n) (cond (covers (claim r) p.y p.x) (Band n) (mark_at (n + 1) rows p old))

-- the claim map of a sheet
abbrev pub claim_map : Content → Picture Mark
claim_map c = shown_by (by c.sides.packed.width c.sides.packed.height) (λ p. mark_at 0 c.rows p Nobody) Some

-- The mark of one place in words: a row's body and its bands have its number, and all else is nobody's.
pub record Marks (c : Content) (y x : ℕ) (mark : Option Mark) : Type 0 where
  pub body : (n : ℕ) → InBody c.rows n y x → mark ≡ Some (Body n)
  pub band : (n : ℕ) → Claims c.rows n y x → (InBody c.rows n y x → ⊥) → mark ≡ Some (Band n)
  pub nobody : ((n : ℕ) → Claims c.rows n y x → ⊥) → mark ≡ Some Nobody

-- every place of the packed picture is marked so
abbrev pub Marked : Content → Picture Mark → Type 0
Marked c map = (y x : ℕ) → x < c.sides.packed.width → y < c.sides.packed.height → Marks c y x (map.at (at x y))

-- a map with one mark all over a box
abbrev pub filled : {A : Type 0} → Picture A → Bounds → A → Picture A
filled p box mark =
    record { sides = p.sides; at = λ q. cond (has box q.y q.x) (option_map (λ _. mark) (p.at q)) (p.at q) }

-- the same over several boxes
abbrev pub filled_all : {A : Type 0} → Picture A → List Bounds → A → Picture A
filled_all p boxes mark =
    record { sides = p.sides; at = λ q. cond (covers boxes q.y q.x) (option_map (λ _. mark) (p.at q)) (p.at q) }

-- the part of a box at one height
abbrev pub line_of : Bounds → ℕ → Bounds
line_of box y = record { top = y; bottom = y + 1; left = box.left; right = box.right }

-- a map with the marks of rows that are numbered from n
abbrev pub marked : ℕ → List Row → Picture Mark → Picture Mark
marked n rows p = record { sides = p.sides; at = λ q. option_map (mark_at n rows q) (p.at q) }
