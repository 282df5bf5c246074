use Rattle.std.proofs.Common.{ltb, inl, inr, arith}
use Rattle.std.proofs.lemmas.Bool.{lt-ltb, le-ltb, cases_lt}
use Rattle.geometry.specs.FirstFree.{first_left, clear}
use Rattle.geometry.proofs.Leasts as leasts
use Rattle.geometry.proofs.Jumping.{next_moves, shut_below}
use Rattle.geometry.proofs.search.Search.highest_free.Goals as goal

pub returns-then-leftmost_free-self : goal.returns-then-leftmost_free-self
returns-then-leftmost_free-self c =
    leasts.found c.args.self.now.tops (λ t. ltb (first_left (clear c.args.self.now.boxes.now) c.args.self.now.lefts t) c.args.self.now.lefts) c.loop-top.top
    c.loop-top-test.true
    (lt-ltb (first_left (clear c.args.self.now.boxes.now) c.args.self.now.lefts c.loop-top.top) c.args.self.now.lefts (omega arith))
    c.loop-top.invariant

pub loop-top-smaller : goal.loop-top-smaller
loop-top-smaller c = omega (arith, next_moves c.args.self.now.boxes.now c.args.self.now.tops c.loop-top.top c.loop-top-test.true)

pub loop-top-preserved : goal.loop-top-preserved
loop-top-preserved c k lt = elim (cases_lt k c.loop-top.top) [
  | inl a ↦ c.loop-top.invariant k a
  | inr a ↦ shut_below c.args.self.now.boxes.now c.args.self.now.tops c.args.self.now.lefts c.loop-top.top
      (le-ltb (first_left (clear c.args.self.now.boxes.now) c.args.self.now.lefts c.loop-top.top) c.args.self.now.lefts (omega arith)) k a (omega arith)
]

pub returns : goal.returns
returns c =
    leasts.none c.args.self.now.tops (λ t. ltb (first_left (clear c.args.self.now.boxes.now) c.args.self.now.lefts t) c.args.self.now.lefts) c.loop-top.top
    c.loop-top-test.false c.loop-top.invariant
