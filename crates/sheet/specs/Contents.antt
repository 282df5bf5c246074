-- What a sheet holds.
use Rattle.sheet.specs.declared.sheet.Sheet.{Sheet}
use Rattle.sheet.specs.Held.{held}
use Rattle.sheet.specs.Rules.{Content}

-- the content of a sheet, which is all that its calls go by
abbrev pub content : Sheet → Content
content s = held s.table
