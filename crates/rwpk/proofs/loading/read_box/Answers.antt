use Rattle.std.proofs.Common.{◌≡◌, ℕ, List, [], Err, ap, ◌∙◌}
use Rattle.std.proofs.lemmas.Result.{err_from_is_err_and}
use Rattle.sheet.specs.Contents.{content}
use Rattle.sheet.specs.Rules.{Content}
use Rattle.rwpk.specs.Loading.{content_read}
use Rattle.rwpk.proofs.Laying.{opened, all_read, not_read}
use Rattle.rwpk.proofs.loading.read_box.Goals as goal

pub returns-in_err-lay_rows : goal.returns-in_err-lay_rows
returns-in_err-lay_rows c =
    let input : List ℕ = c.args.input.now in
    let s = c.in_ok-sides.sides in
    let bare : Content = content c.open.new.self in
    let is : bare ≡ record { sides = s; rows = [] } = c.open.ensures.after ∙ opened input s _ c.in_ok-sides.ensures in
    let p = err_from_is_err_and c.from_residual-in_err-lay_rows.result c.from_residual-in_err-lay_rows.ensures.1 in
    ap content_read (p.1 ∙ ap Err p.2)
    ∙ not_read input _ _ s bare c.in_ok-judge_header.ensures c.in_ok-count.ensures c.in_ok-sides.ensures is _
    c.in_err-lay_rows.ensures.rows

pub returns : goal.returns
returns c =
    let input : List ℕ = c.args.input.now in
    let s = c.in_ok-sides.sides in
    let bare : Content = content c.open.new.self in
    let is : bare ≡ record { sides = s; rows = [] } = c.open.ensures.after ∙ opened input s _ c.in_ok-sides.ensures in
    let told = c.in_ok-lay_rows.ensures in
    all_read input _ _ s bare c.in_ok-judge_header.ensures c.in_ok-count.ensures c.in_ok-sides.ensures is
    (content c.lay_rows.new.sheet) told.rows told.sides
