use Rattle.std.proofs.Common.{◌≡◌, ◌*◌, ◌≤◌}
use Rattle.sheet.specs.Contents.{content}
use Rattle.rwpk.specs.Parts.{parts_before, place_of}
use Rattle.rwpk.specs.Writing.{put_at}
use Rattle.rwpk.proofs.copying.write_box.Given as goal

-- the buffer begins with the parts so far
abbrev pub invariant-loop-part : goal.invariant-loop-part
invariant-loop-part l =
    (l.out ≡ put_at l.initial.out 0 (parts_before (content l.sheet) l.part))
    × (l.place ≡ place_of (content l.sheet) l.part)
    × (l.place ≤ 32 * l.part)
