-- What load answers and leaves.
use Rattle.std.specs.Prelude.{◌≡◌, ℕ, false, List, [], ◌∷◌, ◌++◌, Ok, Err, Result}
use Rattle.sheet.specs.Contents.{content}
use Rattle.sheet.specs.Rules.{Content, bad_turn, empty_row, bad_bands, with_rows}
use Rattle.sheet.specs.declared.row.Row.{Row}
use Rattle.sheet.specs.declared.sheet.Sheet.{Sheet}
use Rattle.rwpk.specs.declared.fault.Fault.{Fault}
use Rattle.rwpk.specs.Boxes.{box_of_bytes}
use Rattle.rwpk.specs.Fields.{◌>>=◌}

-- granted, or refused for the first fault of the box
abbrev pub load_answer : List ℕ → Result (Unit {0}) Fault
load_answer input = do
  read ← box_of_bytes input
  Ok tt

-- what was read, or what was there where nothing was
abbrev pub or_else : Result Content Fault → Content → Content
or_else (Ok read) c = read
or_else (Err fault) c = c

-- the box's content where it is granted, and the sheet's own where it is refused
abbrev pub load_next : List ℕ → Content → Content
load_next input c = or_else (box_of_bytes input) c

-- a sheet that was read, by its content
abbrev pub content_read : Result Sheet Fault → Result Content Fault
content_read (Ok sheet) = Ok (content sheet)
content_read (Err fault) = Err fault

-- a row that lay refuses for where it lies, if at all
pub record Faultless (r : Row) : Type 0 where
  pub turn : bad_turn r ≡ false
  pub sides : empty_row r ≡ false
  pub bands : bad_bands r.bands ≡ false

-- one row more where it is granted
abbrev pub appended : Result (Unit {0}) Fault → Content → Row → Content
appended (Ok u) c row = with_rows c (c.rows ++ row ∷ [])
appended (Err fault) c row = c

-- the rows that were laid, where all were granted
abbrev pub rows_laid : Result (Unit {0}) Fault → List Row → Result (List Row) Fault
rows_laid (Ok u) rows = Ok rows
rows_laid (Err fault) rows = Err fault
