use Rattle.std.proofs.Common.{◌≡◌, suc, length, arith}
use Rattle.sheet.specs.Contents.{content}
use Rattle.writer.proofs.Running.{finished, seal_granted}
use Rattle.writer.proofs.job.Job.write_size.Goals as goal

pub returns-clause-answer : goal.returns-clause-answer
returns-clause-answer c = c.sealing.ensures.here.end (omega (arith, c.requires.due))

pub returns-clause-run : goal.returns-clause-run
returns-clause-run c =
    let m = content c.args.self.now.sheet.now in
    let all : c.args.self.now.done ≡ suc (length m.rows) = omega (arith, c.requires.due) in
    finished m _ c.args.out.now _ _ (seal_granted m _ _ c.args.out.now all (c.sealing.ensures.here.end all) c.requires.room) c.put_size.ensures

pub returns-clause-back : goal.returns-clause-back
returns-clause-back c =
    let m = content c.args.self.now.sheet.now in
    let all : c.args.self.now.done ≡ suc (length m.rows) = omega (arith, c.requires.due) in
    c.sealing.ensures.back _ _ (seal_granted m _ _ c.args.out.now all (c.sealing.ensures.here.end all) c.requires.room)
