-- A row that is not empty has four sides of at least 1.
use Rattle.std.proofs.Common.{◌≡◌, false, arith}
use Rattle.std.proofs.lemmas.Bool.Decides.{nat_tests}
use Rattle.sheet.specs.declared.row.Row.{Row}
use Rattle.sheet.specs.Rules.{empty_row}
use Rattle.sheet.specs.Serving.{Sided}

pub sided : (r : Row) → empty_row r ≡ false → Sided r
sided r h =
    record {
      across = grind (arith, nat_tests);
      down = grind (arith, nat_tests);
      wide = grind (arith, nat_tests);
      high = grind (arith, nat_tests);
    }
