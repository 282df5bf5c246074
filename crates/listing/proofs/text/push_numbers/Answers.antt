use Rattle.std.proofs.Common.{[], ◌∷◌, length, ap, ◌∙◌, arith, length-append}
use Rattle.listing.proofs.Texts.{item_room}
use Rattle.listing.proofs.text.push_numbers.Goals as goal

pub push_str-requires : goal.push_str-requires
push_str-requires c =
    let r = item_room c.loop-n.text.bytes c.args.text.now.bytes c.args.ns.now c.loop-n.n-index 0 c.loop-n-test.true c.loop-n.invariant c.requires in omega arith

pub push_number-requires : goal.push_number-requires
push_number-requires c =
    let r = item_room c.loop-n.text.bytes c.args.text.now.bytes c.args.ns.now c.loop-n.n-index 0 c.loop-n-test.true c.loop-n.invariant c.requires in
    let l = ap length c.push_str.ensures.bytes ∙ length-append c.loop-n.text.bytes (32 ∷ []) in omega arith
