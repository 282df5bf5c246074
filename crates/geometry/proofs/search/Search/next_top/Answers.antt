use Rattle.std.proofs.Common.{sym, ◌∙◌, inl, inr, arith}
use Rattle.geometry.proofs.Jumping.{nearest_none, nearest_more, nearest_all}
use Rattle.geometry.proofs.search.Search.next_top.Goals as goal
use Rattle.geometry.proofs.search.Search.next_top.Goals.{then-stands_at+then-b-end, else-stands_at, else-stands_at-via-then-stands_at+else-b-end, else-stands_at-via-else-stands_at}

pub loop-b-init : goal.loop-b-init
loop-b-init c = nearest_none c.args.self.now.boxes.now c.args.self.now.tops c.args.top

pub loop-b-preserved : goal.loop-b-preserved
loop-b-preserved c =
    nearest_more c.args.self.now.boxes.now c.args.self.now.tops c.args.top c.loop-b.b-index c.loop-b.end c.if-stands_at.end _
    c.loop-b-test.true c.loop-b.invariant
    (elim c.if-stands_at.branch [
      | then-stands_at+then-b-end w ↦ inl (sym c.stands_at.ensures ∙ w.if-stands_at.true, omega (arith, w.end-is, w.if-b-end))
      | else-stands_at w ↦ elim w.else-stands_at.branch [
        | else-stands_at-via-then-stands_at+else-b-end w' ↦ inl (sym c.stands_at.ensures ∙ w'.if-stands_at.true, omega (arith, w.end-is, w'.if-b-end))
        | else-stands_at-via-else-stands_at w' ↦ inr (sym c.stands_at.ensures ∙ w'.if-stands_at.false, w.end-is)
      ]
    ])

pub returns : goal.returns
returns c =
    nearest_all c.args.self.now.boxes.now c.args.self.now.tops c.args.top c.loop-b.b-index c.loop-b.end c.loop-b-test.false c.loop-b.invariant
