use Rattle.std.proofs.Common.{◌∙◌, arith, length-set}
use Rattle.sheet.proofs.Laid.{not_full, laid_held, laid_sound}
use Rattle.sheet.proofs.sheet.Sheet.append.Goals as goal

pub bounds-self-n : goal.bounds-self-n
bounds-self-n c = let s = c.args.self.now in not_full s.table c.args.row s.whole s.few c.requires.shape

pub invariant_of-self : goal.invariant_of-self
invariant_of-self c =
    let s = c.args.self.now in record {
      whole = length-set s.table.rows s.table.len c.args.row ∙ s.whole;
      few = omega (arith, not_full s.table c.args.row s.whole s.few c.requires.shape);
      sound = laid_sound s.table c.args.row s.whole s.few c.requires.shape c.requires.room s.sound;
    }

pub returns : goal.returns
returns c = let s = c.args.self.now in laid_held s.table c.args.row s.whole s.few c.requires.shape
