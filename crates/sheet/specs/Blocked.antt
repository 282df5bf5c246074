-- The boxes of spots that a search for a draft's spot has to avoid.
use Rattle.std.specs.Prelude.{◌≡◌, ℕ, ◌+◌, ◌-◌, ◌<◌, ◌≤◌, List, [], ◌∷◌, ◌++◌, map, Some, None, Option}
use Rattle.std.specs.List.{flat_map}
use Rattle.geometry.specs.declared.bounds.Bounds.{Bounds}
use Rattle.geometry.specs.declared.search.Spot.{Spot}
use Rattle.geometry.specs.FirstFree.{first_free}
use Rattle.sheet.specs.declared.row.Draft.{Draft}
use Rattle.sheet.specs.declared.row.FourSides.{FourSides}
use Rattle.geometry.specs.declared.place.Sides.{Sides}
use Rattle.sheet.specs.declared.row.Row.{Row}
use Rattle.sheet.specs.Claims.{reaches, claim}
use Rattle.sheet.specs.Rules.{Content, found}

-- the box from one top and left up to and without another
abbrev pub box : ℕ → ℕ → ℕ → ℕ → Bounds
box top bottom left right = record { top = top; bottom = bottom; left = left; right = right }

-- where a box of the claim would leave the packed picture: above, on the left, below, on the right
abbrev pub walls : Sides ℕ → Draft → FourSides → List Bounds
walls p d s =
    box 0 s.top 0 p.width
    ∷ box 0 p.height 0 s.left
    ∷ box (p.height + 1 - (d.height + s.bottom)) p.height 0 p.width
    ∷ box 0 p.height (p.width + 1 - (d.width + s.right)) p.width
    ∷ []

-- where it would meet a box that is there
abbrev pub forbidden : Draft → FourSides → Bounds → Bounds
forbidden d s there =
    box (there.top + 1 - (d.height + s.bottom)) (there.bottom + s.top)
    (there.left + 1 - (d.width + s.right)) (there.right + s.left)

-- where the claim would meet a row's claim
abbrev pub against : Draft → Row → List Bounds
against d r = flat_map (λ s. map (forbidden d s) (claim r)) (reaches d.bands)

-- all of them
abbrev pub blocked : Sides ℕ → List Row → Draft → List Bounds
blocked p rows d = flat_map (walls p d) (reaches d.bands) ++ flat_map (against d) rows

-- a box of a claim has small edges: two numbers of 16 bits and one of 8
abbrev pub Small : Bounds → Type 0
Small b = (b.top ≤ 131325) × (b.bottom ≤ 131325) × (b.left ≤ 131325) × (b.right ≤ 131325)

-- a spot that is found has 16 bits
abbrev pub SmallSpot : Option Spot → Type 0
SmallSpot None = Unit {0}
SmallSpot (Some s) = (s.top < 65536) × (s.left < 65536)

-- what a search that avoids these boxes answers: the wanted spot, and a small one in a packed picture of 16 bits
pub record SearchFinds (c : Content) (d : Draft) (boxes : List Bounds) : Type 0 where
  pub value : first_free boxes c.sides.packed.height c.sides.packed.width ≡ found c d
  pub small : c.sides.packed.height < 65536 → c.sides.packed.width < 65536 → SmallSpot (found c d)
