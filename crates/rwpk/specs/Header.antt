-- The header of a box, in the order in which its fields are judged.
use Rattle.std.specs.Prelude.{ℕ, not, List, length, codes, Result, ◌==◌}
use Rattle.refusal.specs.declared.Refusal.TheVariants.{SizeDiffers, NotRwpk, NoPayload}
use Rattle.rwpk.specs.declared.fault.Fault.{Fault}
use Rattle.rwpk.specs.Fields.{word_of, field, refuse, ◌>>=◌, ◌>>◌}

-- size, type, and version with flags; then there must be more
abbrev pub header : List ℕ → Result (Unit {0}) Fault
header input = do
  size ← field 4 input 0
  refuse (not (size == length input)) SizeDiffers 0
  kind ← field 4 input 4
  refuse (not (kind == word_of (codes "rwpk"))) NotRwpk 4
  version ← field 4 input 8
  refuse (not (version == 0)) NotRwpk 8
  refuse (length input == 12) NoPayload 12
