use Rattle.std.proofs.Common.{arith}
use Rattle.std.proofs.lemmas.List.{length-take-le}
use Rattle.sheet.specs.Held.{held}
use Rattle.sheet.proofs.Facts.{facts}
use Rattle.sheet.proofs.sheet.Sheet.facts.Goals as goal

pub returns : goal.returns
returns c =
    let s = c.args.self.now in
    facts (held s.table) (omega (arith, length-take-le s.table.len s.table.rows (omega (arith, s.whole, s.few)))) s.sound
