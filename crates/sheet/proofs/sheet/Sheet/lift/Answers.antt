use Rattle.std.proofs.Common.{not, ◌∙◌, arith}
use Rattle.std.proofs.lemmas.Bool.{and_parts, and_from}
use Rattle.sheet.specs.Held.{held}
use Rattle.sheet.specs.Rules.{empty_picture}
use Rattle.sheet.specs.Sound.{sound_rows}
use Rattle.sheet.proofs.sheet.Sheet.lift.Goals as goal

pub invariant_of-self : goal.invariant_of-self
invariant_of-self c =
    let s = c.args.self.now in
    let ok = and_parts (not (empty_picture s.table.sides)) (sound_rows s.table.sides (held s.table).rows) s.sound in record {
      whole = c.close_gap.auto.rows ∙ s.whole;
      few = omega arith;
      sound = and_from (not (empty_picture s.table.sides)) _ ok.0 (c.close_gap.ensures.sound s.table.sides ok.1);
    }
