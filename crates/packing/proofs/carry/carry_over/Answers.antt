use Rattle.std.proofs.Common.{◌≡◌, ◌+◌, length, ap, ◌∙◌, arith, rules}
use Rattle.picture.specs.Draws.{drawn}
use Rattle.packing.specs.Strips.{strip}
use Rattle.packing.proofs.Strips.{no_strip, strip_then, all_strips}
use Rattle.packing.proofs.carry.carry_over.Goals as goal

pub loop-start-init : goal.loop-start-init
loop-start-init g c =
    let p = g.P.Store.shown c.args.from.now in
    let q = g.Q.Store.shown c.args.to.now in
    (no_strip c.args.carry p q c.args.carry.down.parts, g.Q.Store.keeps.same c.args.to.now, omega arith)

pub loop-start-preserved : goal.loop-start-preserved
loop-start-preserved g c =
    let p = g.P.Store.shown c.args.from.now in
    let q = g.Q.Store.shown c.args.to.now in
    let long : length c.fill.new.steps ≡ c.strip_width-width.result = search rules in (
      strip_then c.args.carry p q _ _ _ _ _ _ c.carry_strip.ensures.after c.loop-start.invariant.0 (ap (λ n. c.loop-start.start + n) long),
      g.Q.Store.keeps.chain _ _ _ c.loop-start.invariant.1 c.carry_strip.ensures.rest,
      search rules,
    )

pub returns : goal.returns
returns g c =
    let p = g.P.Store.shown c.args.from.now in
    let q = g.Q.Store.shown c.args.to.now in
    let carry = c.args.carry in
    let end : c.loop-start.start ≡ carry.across.parts = omega (arith, c.loop-start.invariant.2) in
    record {
      after = c.loop-start.invariant.0 ∙ ap (λ a. drawn (strip carry 0 a carry.down.parts) p q) end ∙ all_strips carry p q;
      rest = c.loop-start.invariant.1;
    }

pub returns-2 : goal.returns-2
returns-2 g c =
    let p = g.P.Store.shown c.args.from.now in
    let q = g.Q.Store.shown c.args.to.now in
    let carry = c.args.carry in
    let end : c.loop-start.start + length c.fill.new.steps ≡ carry.across.parts = search rules in
    record {
      after = strip_then carry p q _ _ _ _ _ _ c.carry_strip.ensures.after c.loop-start.invariant.0 end ∙ all_strips carry p q;
      rest = g.Q.Store.keeps.chain _ _ _ c.loop-start.invariant.1 c.carry_strip.ensures.rest;
    }
