use Rattle.std.proofs.Common.{sym, ap, ◌∙◌}
use Rattle.sheet.specs.Held.{held}
use Rattle.sheet.specs.Rules.{verdict, room_checks}
use Rattle.sheet.proofs.Freeing.{found_room}
use Rattle.sheet.proofs.sheet.Sheet.place.Goals as goal

pub append-requires-clause-room : goal.append-requires-clause-room
append-requires-clause-room c =
    let m = held c.args.self.now.table in
    found_room m c.args.draft c.in_ok-spot.spot (sym c.find_spot.ensures.value ∙ c.in_ok-spot.ensures.ok_part)
    ∙ ap (λ r. verdict (room_checks m r)) (sym c.at-2.ensures)
