-- What holds of every sound sheet, for readers.
use Rattle.std.proofs.Common.{◌≡◌, ◌≤◌, true, not, length, arith}
use Rattle.std.proofs.ByRecursion.{All-weaker}
use Rattle.std.proofs.lemmas.Bool.{and_parts}
use Rattle.std.proofs.lemmas.Bool.Decides.{nat_tests}
use Rattle.sheet.specs.declared.row.Row.{Row}
use Rattle.sheet.specs.declared.row.SheetSides.{SheetSides}
use Rattle.sheet.specs.Rules.{Content, empty_picture}
use Rattle.sheet.specs.Sound.{sound, sound_row, sound_rows}
use Rattle.sheet.specs.Words.{Shaped, Facts}
use Rattle.sheet.proofs.Apart.{claimed_once, bodies}
use Rattle.sheet.proofs.Rows.{faultless, each_sound}
use Rattle.sheet.proofs.Sided.{sided}

shaped : (s : SheetSides) (r : Row) → sound_row s r ≡ true → Shaped s r
shaped s r h =
    let f = faultless s r h in
    record {
      turn = grind (arith, nat_tests, f.turn);
      sided = sided r f.sides;
      across = grind (arith, nat_tests, f.projected);
      down = grind (arith, nat_tests, f.projected);
    }

pub facts : (c : Content) → length c.rows ≤ 255 → sound c ≡ true → Facts c
facts c few h =
    let ok = (and_parts (not (empty_picture c.sides)) (sound_rows c.sides c.rows) h).1 in
    record {
      few = few;
      shaped = All-weaker (λ r. sound_row c.sides r ≡ true) (Shaped c.sides) (shaped c.sides) c.rows (each_sound c.sides c.rows ok);
      once = claimed_once c.sides c.rows ok;
      bodies = bodies c.sides c.rows ok;
    }
