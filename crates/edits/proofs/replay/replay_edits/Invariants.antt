use Rattle.std.proofs.Common.{◌≡◌, ℕ, true, ◌++◌, take, drop, vec_items}
use Rattle.sheet.specs.Contents.{content}
use Rattle.sheet.specs.Rules.{new_sheet}
use Rattle.sheet.specs.Sound.{sound}
use Rattle.edits.specs.Runs.{left_by, answers}
use Rattle.edits.proofs.replay.replay_edits.Given as goal

-- the edits that are left lead to where all of them lead, over sound sheets if theirs are
abbrev pub invariant-loop-edit : goal.invariant-loop-edit
invariant-loop-edit l =
    (left_by (content l.sheet) (drop l.edit-index l.edits) ≡ left_by new_sheet l.edits)
    × (vec_items l.answers ++ answers (content l.sheet) (drop l.edit-index l.edits) ≡ answers new_sheet l.edits)
    × (((k : ℕ) → sound (left_by (content l.sheet) (take k (drop l.edit-index l.edits))) ≡ true) →
    (k : ℕ) → sound (left_by new_sheet (take k l.edits)) ≡ true)
