use Rattle.std.proofs.Common.{◌≡◌, [], ◌∷◌, ◌++◌, Err, refl, ap, ◌∙◌}
use Rattle.std.proofs.lemmas.Result.{err_from_is_err_and}
use Rattle.refusal.specs.declared.Refusal.{Refusal}
use Rattle.sheet.specs.declared.row.Row.{Row}
use Rattle.sheet.specs.Held.{held}
use Rattle.sheet.specs.Rules.{Content, lay_answer, lay_next, shape_checks, room_checks, after, with_rows}
use Rattle.sheet.proofs.Laid.{verdict_then, verdict_stop, refused_all}
use Rattle.sheet.proofs.sheet.Sheet.lay.Goals as goal

-- a refused row leaves the sheet
kept : (m : Content) (r : Row) (f : Refusal) → Err f ≡ lay_answer m r → m ≡ lay_next m r
kept m r f e = ap (λ a. after a (λ _. with_rows m (m.rows ++ r ∷ [])) m) e

pub returns-in_err-judge_shape : goal.returns-in_err-judge_shape
returns-in_err-judge_shape c =
    let p = err_from_is_err_and c.from_residual.result c.from_residual.ensures.1 in
    let m = held c.args.self.now.table in
    let told : Err c.in_err-judge_shape.field-0.0 ≡ lay_answer m c.args.row =
    verdict_stop (shape_checks m c.args.row) (room_checks m c.args.row) _ c.in_err-judge_shape.ensures in
    record {
      answer = p.1 ∙ ap Err p.2 ∙ told;
      after = kept m c.args.row _ told;
      refused = refused_all c.from_residual.result _ (λ y. refl);
    }

pub returns-in_err-judge_room : goal.returns-in_err-judge_room
returns-in_err-judge_room c =
    let p = err_from_is_err_and c.from_residual-in_err-judge_room.result c.from_residual-in_err-judge_room.ensures.1 in
    let m = held c.args.self.now.table in
    let told : Err c.in_err-judge_room.field-0.0 ≡ lay_answer m c.args.row =
    c.in_err-judge_room.ensures
    ∙ verdict_then (shape_checks m c.args.row) (room_checks m c.args.row) tt c.in_ok-judge_shape.ensures in
    record {
      answer = p.1 ∙ ap Err p.2 ∙ told;
      after = kept m c.args.row _ told;
      refused = refused_all c.from_residual-in_err-judge_room.result _ (λ y. refl);
    }
