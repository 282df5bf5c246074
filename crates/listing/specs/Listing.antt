-- The listing of a box.
use Rattle.std.specs.Prelude.{ℕ, List, Ok, Err, Result}
use Rattle.sheet.specs.Rules.{Content}
use Rattle.rwpk.specs.declared.fault.Fault.{Fault}
use Rattle.rwpk.specs.Boxes.{box_of_bytes}
use Rattle.listing.specs.Lines.{sheet_lines, refused_line}

-- the lines of what was read, or of why it was refused
abbrev pub listed : Result Content Fault → List ℕ
listed (Ok c) = sheet_lines c.sides c.rows
listed (Err fault) = refused_line fault

-- the bytes that are written of an input
abbrev pub listing : List ℕ → List ℕ
listing input = listed (box_of_bytes input)
