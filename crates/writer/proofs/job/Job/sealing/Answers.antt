use Rattle.std.proofs.Common.{subst}
use Rattle.std.specs.List.{AllByRecursion}
use Rattle.rwpk.proofs.BoxThere.{box_there}
use Rattle.rwpk.specs.Laws.{SidesFit, RowFits}
use Rattle.sheet.specs.Contents.{content}
use Rattle.writer.proofs.Fitting.{has_box}
use Rattle.writer.proofs.Running.{sealing, reads_back}
use Rattle.writer.proofs.job.Job.sealing.Goals as goal

pub returns-clause-here : goal.returns-clause-here
returns-clause-here c = let j = c.args.self.now in sealing (content j.sheet.now) j.done j.place c.facts.ensures.few j.placed

pub returns-clause-back : goal.returns-clause-back
returns-clause-back c =
    let j = c.args.self.now in
    let s = j.sheet.now in
    let sides = subst (λ x. SidesFit x) c.sides.ensures c.sides_fit.ensures in
    let rows = subst (λ x. AllByRecursion RowFits x) c.rows.ensures c.rows_fit.ensures in
    let few = c.facts.ensures.few in
    λ out r is. reads_back (content s) j.done out r is (λ some. box_there (content s) (has_box s sides rows few some))
