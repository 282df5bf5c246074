use Rattle.std.proofs.Common.{◌<◌, not, sym, ◌∙◌, arith}
use Rattle.std.proofs.lemmas.Bool.{not_from_true, not_from_false}
use Rattle.geometry.specs.Boxes.{covers}
use Rattle.geometry.specs.Jumps.{past}
use Rattle.geometry.proofs.Leasts as leasts
use Rattle.geometry.proofs.Jumping.{past_same, past_up, past_all}
use Rattle.geometry.proofs.search.Search.leftmost_free.Goals as goal

pub returns-then-end-left : goal.returns-then-end-left
returns-then-end-left c =
    let boxes = c.args.self.now.boxes.now in
    leasts.found c.args.self.now.lefts (λ l. not (covers boxes c.args.top l)) c.loop-left.left c.loop-left-test.true
    (not_from_false _ (past_same boxes c.args.top c.loop-left.left (sym c.past-end.ensures ∙ c.if-end-left.true)))
    (λ j lt. not_from_true _ (c.loop-left.invariant j lt))

pub loop-left-smaller : goal.loop-left-smaller
loop-left-smaller c =
    let up : c.loop-left.left < past c.args.self.now.boxes.now c.args.top c.loop-left.left =
    past_up c.args.self.now.boxes.now c.args.top c.loop-left.left (λ e. c.if-end-left.false (c.past-end.ensures ∙ e)) in
    omega arith

pub loop-left-preserved : goal.loop-left-preserved
loop-left-preserved c k lt =
    past_all c.args.self.now.boxes.now c.args.top c.loop-left.left c.loop-left.invariant k (omega arith)

pub returns : goal.returns
returns c =
    leasts.none c.args.self.now.lefts (λ l. not (covers c.args.self.now.boxes.now c.args.top l)) c.loop-left.left
    c.loop-left-test.false (λ j lt. not_from_true _ (c.loop-left.invariant j lt))
