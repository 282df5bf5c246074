use Rattle.std.proofs.Common.{ℕ, List, Ok, refl, ap, arith}
use Rattle.sheet.specs.Contents.{content}
use Rattle.sheet.specs.Rules.{Content}
use Rattle.rwpk.proofs.Copied.{never, one_more, sealed}
use Rattle.rwpk.proofs.copying.write_box.Goals as goal

pub returns-in_err-place : goal.returns-in_err-place
returns-in_err-place c =
    let m : Content = content c.args.sheet.now in
    let out : List ℕ = c.args.out.now in
    absurd (never m out c.loop-part.out c.loop-part.part c.loop-part.place (omega (arith, c.len-part-end.ensures)) c.requires
    c.loop-part.invariant.0 c.loop-part.invariant.1 _ c.in_err-place.ensures.answer)

pub loop-part-preserved : goal.loop-part-preserved
loop-part-preserved c =
    let m : Content = content c.args.sheet.now in
    let out : List ℕ = c.args.out.now in
    let told = c.in_ok-place.ensures in
    one_more m out c.loop-part.out c.loop-part.part c.loop-part.place (omega (arith, c.len-part-end.ensures)) c.requires
    c.loop-part.invariant.0 c.loop-part.invariant.1 _ _ told.answer told.out c.loop-part.invariant.2

pub returns : goal.returns
returns c =
    let m : Content = content c.args.sheet.now in
    let out : List ℕ = c.args.out.now in
    let (end, whole) = sealed m out c.loop-part.out _ _ c.loop-part.part c.loop-part.place (omega (arith, c.len-part-end.ensures))
    c.loop-part.invariant.0 c.loop-part.invariant.1 refl c.put.ensures in
    record { answer = ap Ok end; out = whole }
