use Rattle.std.proofs.Common.{ℕ, arith}
use Rattle.rwpk.proofs.Puts.{put_four}
use Rattle.rwpk.proofs.fields.put_rectangle.Goals as goal

pub returns : goal.returns
returns g c =
    let n : ℕ = g.W.Word.WIDTH in
    let r = c.args.rectangle.now in
    let number = g.W.Word.number in
    put_four n c.args.out.now c.args.place (number r.width) (number r.height) (number r.top) (number r.left)
    c.put.ensures c.put-2.ensures c.put-3.ensures c.put-4.ensures
    (omega (arith, c.WIDTH.ensures)) (omega (arith, c.WIDTH-2.ensures)) (omega (arith, c.WIDTH-3.ensures)) c.requires
