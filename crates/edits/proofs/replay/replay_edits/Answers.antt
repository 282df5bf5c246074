use Rattle.std.proofs.Common.{◌∙◌}
use Rattle.edits.proofs.Running.{left_more, answers_more, sound_more, left_all, answers_all, sound_all, ran}
use Rattle.edits.proofs.replay.replay_edits.Goals as goal

pub loop-edit-preserved : goal.loop-edit-preserved
loop-edit-preserved c =
    let inside = c.loop-edit-test.true in
    let told = c.apply.ensures in (
      left_more _ _ _ _ _ inside told.after ∙ c.loop-edit.invariant.0,
      answers_more _ _ _ _ _ inside told.after _ _ _ told.answer c.in_ok-push.ensures.items ∙ c.loop-edit.invariant.1,
      λ rest. c.loop-edit.invariant.2 (sound_more _ _ _ _ _ inside told.after c.loop-edit.sheet.sound rest),
    )

pub returns : goal.returns
returns c =
    ran _ _ _ (left_all _ _ _ c.loop-edit-test.false ∙ c.loop-edit.invariant.0)
    (answers_all _ _ _ _ c.loop-edit-test.false ∙ c.loop-edit.invariant.1)
    (c.loop-edit.invariant.2 (sound_all _ _ _ c.loop-edit-test.false c.loop-edit.sheet.sound))
