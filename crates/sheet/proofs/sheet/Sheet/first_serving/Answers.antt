use Rattle.std.proofs.Common.{◌≡◌, ℕ, List, Ok, Err, Result, sym, ap, ◌∙◌}
use Rattle.std.specs.Option.{ok_or}
use Rattle.std.proofs.lemmas.Result.{err_from_is_err_and}
use Rattle.refusal.specs.declared.Refusal.{Refusal}
use Rattle.refusal.specs.declared.Refusal.TheVariants.{NotCovered}
use Rattle.geometry.specs.declared.place.Place.{Place}
use Rattle.sheet.specs.declared.row.Row.{Row}
use Rattle.sheet.specs.Serving.{serving}
use Rattle.sheet.proofs.Serves.{no_row, found_serves, none_serves}
use Rattle.sheet.proofs.sheet.Sheet.first_serving.Goals as goal

same_place : (x y : Place) → ◌≡◌ {A = Result Place Refusal} (Ok x) (Ok y) → x ≡ y
same_place x y e = cc

same_refusal : (x y : Refusal) → ◌≡◌ {A = Result ℕ Refusal} (Err x) (Err y) → x ≡ y
same_refusal x y e = cc

pub place_in_body-requires-clause-covered : goal.place_in_body-requires-clause-covered
place_in_body-requires-clause-covered c =
    (found_serves c.rows-rows.result.now c.args.place c.in_ok-number.number no_row (sym c.in_ok-number.ensures.ok_part ∙ c.first_covering.ensures)).0

pub returns-in_err-number : goal.returns-in_err-number
returns-in_err-number c =
    let p = err_from_is_err_and c.from_residual.result c.from_residual.ensures.1 in
    let told = same_refusal _ NotCovered (c.in_err-number.ensures.value ∙ ap (λ o. ok_or o NotCovered) c.in_err-number.ensures.ok_part) in
    p.1
    ∙ ap Err (p.2 ∙ told)
    ∙ none_serves c.rows-rows.result.now c.args.place (sym c.in_err-number.ensures.ok_part ∙ c.first_covering.ensures)
    ∙ ap (λ (rows : List Row). serving 0 rows c.args.place) c.rows-rows.ensures

pub returns : goal.returns
returns c =
    ap (λ (q : Place). Ok (record { row = c.in_ok-number.number; place = record { 0 = q } })) (same_place c.in_ok-body_place.body_place _ c.in_ok-body_place.ensures)
    ∙ (found_serves c.rows-rows.result.now c.args.place c.in_ok-number.number no_row (sym c.in_ok-number.ensures.ok_part ∙ c.first_covering.ensures)).1
    ∙ ap (λ (rows : List Row). serving 0 rows c.args.place) c.rows-rows.ensures
