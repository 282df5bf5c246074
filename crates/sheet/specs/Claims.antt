-- What a row claims of the packed picture: a list of boxes, each the body widened by so much on every side.
use Rattle.std.specs.Prelude.{◌+◌, ◌-◌, Bool, ◌&&◌, List, [], ◌∷◌, map, Some, None, Option, nat_le, nat_lt, ℕ}
use Rattle.std.specs.List.{list_all, list_any}
use Rattle.geometry.specs.declared.bounds.Bounds.{Bounds}
use Rattle.geometry.specs.declared.place.Rectangle.{Rectangle}
use Rattle.sheet.specs.declared.row.FourSides.{FourSides}
use Rattle.sheet.specs.declared.row.GuardBands.{GuardBands}
use Rattle.geometry.specs.declared.place.Sides.{Sides}
use Rattle.sheet.specs.declared.row.Row.{Row}

-- not at all beyond the body
abbrev pub no_reach : FourSides
no_reach = record { left = 0; right = 0; top = 0; bottom = 0 }

-- how far each box of a claim reaches beyond the body: one box, as far as the bands, corners included
abbrev pub reaches : Option GuardBands → List FourSides
reaches None = no_reach ∷ []
reaches (Some bands) = bands.sizes ∷ []

-- a body widened by so much on each side
abbrev pub widened : Rectangle ℕ → FourSides → Bounds
widened b s =
    record {
      top = b.top - s.top;
      bottom = b.top + b.height + s.bottom;
      left = b.left - s.left;
      right = b.left + b.width + s.right;
    }

-- a row's claim
abbrev pub claim : Row → List Bounds
claim r = map (widened r.body) (reaches r.bands)

-- a widened body lies inside the packed picture
abbrev pub fits : Sides ℕ → Rectangle ℕ → FourSides → Bool
fits p b s =
    nat_le s.left b.left
    && nat_le s.top b.top
    && nat_le (b.left + b.width + s.right) p.width
    && nat_le (b.top + b.height + s.bottom) p.height

-- a row's claim lies inside the packed picture
abbrev pub claim_inside : Sides ℕ → Row → Bool
claim_inside p r = list_all (fits p r.body) (reaches r.bands)

-- two boxes overlap
abbrev pub overlap : Bounds → Bounds → Bool
overlap a b =
    nat_lt a.left b.right && nat_lt b.left a.right && nat_lt a.top b.bottom && nat_lt b.top a.bottom

-- two claims meet
abbrev pub meets : List Bounds → List Bounds → Bool
meets c d = list_any (λ a. list_any (overlap a) d) c

-- a claim meets that of one of the rows
abbrev pub meets_any : List Bounds → List Row → Bool
meets_any c rows = list_any (λ r. meets c (claim r)) rows
