use Rattle.std.proofs.Common.{ap, ◌∙◌, rules}
use Rattle.sheet.specs.Contents.{content}
use Rattle.rwpk.proofs.Laying.{placed, handed_on, lay_judged}
use Rattle.rwpk.proofs.loading.lay_at.Goals as goal

pub returns-clause-answer : goal.returns-clause-answer
returns-clause-answer c =
    let p = c.args.place in
    handed_on c.lay.result c.map_err.result p c.map_err.ensures.cases (λ why fault h. search rules)
    ∙ ap (λ v. placed v p) c.lay.ensures.answer
    ∙ lay_judged (content c.args.sheet.now) c.args.row p c.requires.few c.requires.faultless
