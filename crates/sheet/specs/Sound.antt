-- What holds on every sheet.
use Rattle.std.specs.Prelude.{Bool, true, not, ◌&&◌, List, [], ◌∷◌}
use Rattle.sheet.specs.declared.row.Row.{Row}
use Rattle.sheet.specs.declared.row.SheetSides.{SheetSides}
use Rattle.sheet.specs.Claims.{claim, claim_inside, meets_any}
use Rattle.sheet.specs.Rules.{Content, empty_picture, empty_row, bad_bands, bad_turn, leaves_projected}

-- a row is free of faults, and its projected rectangle and its claim lie inside their pictures
abbrev pub sound_row : SheetSides → Row → Bool
sound_row s r =
    not (bad_turn r)
    && not (empty_row r)
    && not (bad_bands r.bands)
    && not (leaves_projected s.projected r.projected)
    && claim_inside s.packed r

-- so are all rows, and no claim meets that of a later row
abbrev pub sound_rows : SheetSides → List Row → Bool
sound_rows s [] = true
sound_rows s (r ∷ rows) = sound_row s r && not (meets_any (claim r) rows) && sound_rows s rows

-- a sheet is sound
abbrev pub sound : Content → Bool
sound c = not (empty_picture c.sides) && sound_rows c.sides c.rows
