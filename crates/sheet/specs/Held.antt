-- What a table holds.
use Rattle.std.specs.Prelude.{take}
use Rattle.sheet.specs.declared.table.Table.{Table}
use Rattle.sheet.specs.Rules.{Content}

-- the content of a table: its sides, and the first of its rows
abbrev pub held : Table → Content
held t = record { sides = t.sides; rows = take t.len t.rows }
