use Rattle.std.proofs.Common.{◌≡◌, ◌-◌, [], length}
use Rattle.sheet.specs.Contents.{content}
use Rattle.rwpk.specs.Boxes.{rows_from}
use Rattle.rwpk.proofs.loading.lay_rows.Given as goal

-- the rows that are left decide, after those that were laid
abbrev pub invariant-loop : goal.invariant-loop
invariant-loop l =
    (rows_from (content l.sheet).sides (l.count - l.counter) (content l.sheet).rows l.input l.place
    ≡ rows_from (content l.initial.sheet).sides l.count [] l.input 26)
    × ((content l.sheet).sides ≡ (content l.initial.sheet).sides)
    × (length (content l.sheet).rows ≡ l.counter)
