use Rattle.sheet.specs.Held.{held}
use Rattle.sheet.proofs.Freeing.{finds}
use Rattle.sheet.proofs.sheet.Sheet.search_finds.Goals as goal

pub returns : goal.returns
returns c = let s = c.args.self.now in finds (held s.table) c.args.draft.now c.args.boxes.now s.sound c.requires
