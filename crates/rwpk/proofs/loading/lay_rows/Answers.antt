use Rattle.std.proofs.Common.{◌≡◌, ℕ, ◌+◌, ◌-◌, List, [], ◌∷◌, ◌++◌, length, Err, ap, ◌∙◌, arith, length-append}
use Rattle.std.proofs.lemmas.Result.{err_from_is_err_and}
use Rattle.sheet.specs.Contents.{content}
use Rattle.sheet.specs.Rules.{Content}
use Rattle.rwpk.specs.Boxes.{rows_from}
use Rattle.rwpk.specs.Laws.{Bytes}
use Rattle.rwpk.specs.Loading.{rows_laid}
use Rattle.rwpk.proofs.Back.{row_back}
use Rattle.rwpk.proofs.Laying.{unread, unlaid, one_more}
use Rattle.rwpk.proofs.loading.lay_rows.Goals as goal

pub lay_at-requires-clause-faultless : goal.lay_at-requires-clause-faultless
lay_at-requires-clause-faultless c =
    let small : Bytes c.args.input.now = λ i. omega (arith, c.type_inv.input i) in
    (row_back c.args.input.now small c.loop.place c.in_ok-row.row c.in_ok-row.ensures).faultless

pub returns-in_err-row-clause-rows : goal.returns-in_err-row-clause-rows
returns-in_err-row-clause-rows c =
    let m : Content = content c.loop.sheet in
    let p = err_from_is_err_and c.from_residual.result c.from_residual.ensures.1 in
    ap (λ r. rows_laid r m.rows) (p.1 ∙ ap Err p.2)
    ∙ unread m.sides c.args.count c.loop.counter m.rows c.args.input.now c.loop.place c.loop-test.true _
    c.in_err-row.ensures
    ∙ c.loop.invariant.0

pub returns-in_err-lay_at-clause-rows : goal.returns-in_err-lay_at-clause-rows
returns-in_err-lay_at-clause-rows c =
    let m : Content = content c.loop.sheet in
    let p = err_from_is_err_and c.from_residual-in_err-lay_at.result c.from_residual-in_err-lay_at.ensures.1 in
    ap (λ r. rows_laid r (content c.lay_at.new.sheet).rows) (p.1 ∙ ap Err p.2)
    ∙ unlaid m.sides c.args.count c.loop.counter m.rows c.args.input.now c.loop.place c.loop-test.true
    c.in_ok-row.row _ c.in_ok-row.ensures c.in_err-lay_at.ensures.answer
    ∙ c.loop.invariant.0

pub loop-preserved : goal.loop-preserved
loop-preserved c =
    let m : Content = content c.loop.sheet in
    let n : ℕ = c.args.count - (c.loop.counter + 1) in
    let input : List ℕ = c.args.input.now in
    let row = c.in_ok-row.row in
    let told = c.in_ok-lay_at.ensures in
    let longer : length (content c.lay_at.new.sheet).rows ≡ length m.rows + 1 =
    ap (λ (k : Content). length k.rows) told.after ∙ length-append m.rows (row ∷ []) in (
      ap (λ (k : Content). rows_from k.sides n k.rows input (c.loop.place + c.row_length-place.result)) told.after
          ∙ ap (λ k. rows_from m.sides n (m.rows ++ row ∷ []) input (c.loop.place + k)) c.row_length-place.ensures
          ∙ one_more m.sides c.args.count c.loop.counter m.rows input c.loop.place c.loop-test.true row _
          c.in_ok-row.ensures told.answer
          ∙ c.loop.invariant.0,
      ap (λ (k : Content). k.sides) told.after ∙ c.loop.invariant.1,
      omega (arith, longer, c.loop.invariant.2),
    )
