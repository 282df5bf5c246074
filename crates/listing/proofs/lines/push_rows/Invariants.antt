use Rattle.std.proofs.Common.{◌≡◌, ◌++◌, drop}
use Rattle.listing.specs.Lines.{row_lines}
use Rattle.listing.proofs.lines.push_rows.Given as goal

abbrev pub invariant-loop-i : goal.invariant-loop-i
invariant-loop-i l = l.text.bytes ++ row_lines l.i (drop l.i l.rows) ≡ l.initial.text.bytes ++ row_lines 0 l.rows
