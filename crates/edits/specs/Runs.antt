-- Edits one after another, and what holds of every run from a new sheet.
use Rattle.std.specs.Prelude.{◌≡◌, ℕ, true, List, [], ◌∷◌, length, take, Some, None, Ok, Err, Result}
use Rattle.std.specs.List.{slice_get}
use Rattle.refusal.specs.declared.Refusal.{Refusal}
use Rattle.geometry.specs.declared.search.Spot.{Spot}
use Rattle.sheet.specs.Rules.{Content, new_sheet, open_answer, open_next, lay_answer, lay_next, place_answer, place_next, lift_answer, lift_next}
use Rattle.sheet.specs.Sound.{sound}
use Rattle.sheet.specs.Words.{ClaimedOnce}
use Rattle.rwpk.specs.declared.fault.Fault.{Fault}
use Rattle.rwpk.specs.Loading.{load_answer, load_next}
use Rattle.edits.specs.declared.edit.Edit.{Edit}
use Rattle.edits.specs.declared.edit.Edit.TheVariants.{Open, Load, Lay, Place, Lift}
use Rattle.edits.specs.declared.refused.EditRefused.TheVariants.{Plain, InBox}
use Rattle.edits.specs.Told.{Answer, is_refused}

-- a call that answers only that it was granted
abbrev pub answered : Result Unit Refusal → Answer
answered (Ok u) = Ok None
answered (Err e) = Err (Plain e)

-- a call that answers a spot
abbrev pub spot_answered : Result Spot Refusal → Answer
spot_answered (Ok s) = Ok (Some s)
spot_answered (Err e) = Err (Plain e)

-- a call that answers why a box is refused, and where
abbrev pub box_answered : Result Unit Fault → Answer
box_answered (Ok u) = Ok None
box_answered (Err f) = Err (InBox f)

-- what an edit answers on a sheet
abbrev pub answer : Content → Edit → Answer
answer c (Open s) = answered (open_answer s)
answer c (Load input) = box_answered (load_answer input.now)
answer c (Lay r) = answered (lay_answer c r)
answer c (Place d) = spot_answered (place_answer c d)
answer c (Lift n) = answered (lift_answer c n)

-- the sheet that an edit leaves
abbrev pub next : Content → Edit → Content
next c (Open s) = open_next s c
next c (Load input) = load_next input.now c
next c (Lay r) = lay_next c r
next c (Place d) = place_next c d
next c (Lift n) = lift_next c n

-- the sheet that a list of edits leaves
abbrev pub left_by : Content → List Edit → Content
left_by c [] = c
left_by c (e ∷ es) = left_by (next c e) es

-- the answers to a list of edits
abbrev pub answers : Content → List Edit → List Answer
answers c [] = []
answers c (e ∷ es) = answer c e ∷ answers (next c e) es

-- A run of edits from a new sheet, place by place.
pub record Ran (es : List Edit) (left : Content) (told : List Answer) : Type 0 where
  -- the sheet and the answers are what the rules give from the list alone
  pub leaves : left ≡ left_by new_sheet es
  pub tells : told ≡ answers new_sheet es
  -- answer k is the rule's answer on the sheet after the first k edits
  pub each : length told ≡ length es
  pub in_turn : (k : ℕ) (e : Edit) → slice_get es k ≡ Some e → slice_get told k ≡ Some (answer (left_by new_sheet (take k es)) e)
  -- a refused edit leaves the sheet as it was
  pub unchanged : (k : ℕ) (e : Edit) → slice_get es k ≡ Some e → is_refused (answer (left_by new_sheet (take k es)) e) ≡ true →
      next (left_by new_sheet (take k es)) e ≡ left_by new_sheet (take k es)
  -- every sheet on the way is sound, and no packed sample is claimed by two rows
  pub sound_throughout : (k : ℕ) → sound (left_by new_sheet (take k es)) ≡ true
  pub once_throughout : (k : ℕ) → ClaimedOnce (left_by new_sheet (take k es)).rows
