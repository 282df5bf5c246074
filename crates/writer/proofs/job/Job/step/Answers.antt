use Rattle.std.proofs.Common.{arith}
use Rattle.rwpk.proofs.Copied.{place_next}
use Rattle.sheet.specs.Contents.{content}
use Rattle.writer.proofs.Running.{part_passed}
use Rattle.writer.proofs.job.Job.step.Goals as goal

pub invariant_of-self : goal.invariant_of-self
invariant_of-self c =
    let j = c.args.self.now in
    let m = content j.sheet.now in
    let s = part_passed m j.done j.place c.in_ok-length.length c.args.out.now c.in_ok-length.ensures.answer in
    record { few = omega (arith, s.due); placed = omega (arith, s.long, j.placed, place_next m j.done s.due) }
