use Rattle.std.proofs.Common.{ℕ, arith}
use Rattle.rwpk.proofs.Puts.{put_two}
use Rattle.rwpk.proofs.fields.put_sides.Goals as goal

pub returns : goal.returns
returns g c =
    let n : ℕ = g.W.Word.WIDTH in
    let s = c.args.sides.now in
    put_two n c.args.out.now c.args.place (g.W.Word.number s.width) (g.W.Word.number s.height) c.put.ensures c.put-2.ensures
    (omega (arith, c.WIDTH.ensures)) c.requires
