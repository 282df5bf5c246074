-- Runs of edits, one step on and at their end.
use Rattle.std.proofs.Common.{◌≡◌, ℕ, zero, suc, ◌+◌, ◌<◌, ◌≤◌, true, not, List, [], ◌∷◌, ◌++◌, length, get_or, take, drop, Some, Ok, Err, Result, sym, refl, ap, ◌∙◌, append_assoc, append-nil}
use Rattle.std.specs.List.{slice_get}
use Rattle.std.proofs.lemmas.List.{at_drop_more, at_drop_all}
use Rattle.std.proofs.lemmas.Option.{none-some, same_Some}
use Rattle.std.proofs.lemmas.Bool.{and_parts, false≢true}
use Rattle.refusal.specs.declared.Refusal.{Refusal}
use Rattle.geometry.specs.declared.search.Spot.{Spot}
use Rattle.sheet.specs.Rules.{Content, new_sheet, after, empty_picture, open_answer, lay_answer, place_answer, lift_answer}
use Rattle.sheet.specs.Sound.{sound, sound_rows}
use Rattle.sheet.proofs.Apart.{claimed_once}
use Rattle.rwpk.specs.declared.fault.Fault.{Fault}
use Rattle.rwpk.specs.Boxes.{box_of_bytes}
use Rattle.rwpk.specs.Fields.{◌>>=◌}
use Rattle.rwpk.specs.Loading.{or_else}
use Rattle.edits.specs.declared.edit.Edit.{Edit}
use Rattle.edits.specs.declared.edit.Edit.TheVariants.{Open, Load, Lay, Place, Lift}
use Rattle.edits.specs.Runs.{answered, spot_answered, box_answered, answer, next, left_by, answers, Ran}
use Rattle.edits.specs.Told.{Answer, is_refused}

module _ (es : List Edit) (i : ℕ) (c : Content) where
  module _ (d : Edit) (n : Content) (inside : i < length es) (left : n ≡ next c (get_or es i d)) where
    pub left_more : left_by n (drop (i + 1) es) ≡ left_by c (drop i es)
    left_more = ap (λ x. left_by x (drop (i + 1) es)) left ∙ sym (at_drop_more (left_by c) es i d inside)

    pub answers_more : (a : Answer) (sofar out : List Answer) → a ≡ answer c (get_or es i d) → out ≡ sofar ++ a ∷ [] →
        out ++ answers n (drop (i + 1) es) ≡ sofar ++ answers c (drop i es)
    answers_more a sofar out told pushed =
        ap (λ o. o ++ answers n (drop (i + 1) es)) pushed
        ∙ append_assoc sofar (a ∷ []) (answers n (drop (i + 1) es))
        ∙ ap (λ l. sofar ++ l) ((λ j. told j ∷ answers (left j) (drop (i + 1) es)) ∙ sym (at_drop_more (answers c) es i d inside))

    sound_next : sound c ≡ true → ((k : ℕ) → sound (left_by n (take k (drop (i + 1) es))) ≡ true) →
        (k : ℕ) → sound (left_by c (take k (get_or es i d ∷ drop (i + 1) es))) ≡ true
    sound_next here rest zero = here
    sound_next here rest (suc k) = sym (ap (λ x. sound (left_by x (take k (drop (i + 1) es)))) left) ∙ rest k

    pub sound_more : sound c ≡ true → ((k : ℕ) → sound (left_by n (take k (drop (i + 1) es))) ≡ true) →
        (k : ℕ) → sound (left_by c (take k (drop i es))) ≡ true
    sound_more here rest k = at_drop_more (λ l. sound (left_by c (take k l))) es i d inside ∙ sound_next here rest k

  pub sound_all : length es ≤ i → sound c ≡ true → (k : ℕ) → sound (left_by c (take k (drop i es))) ≡ true
  sound_all h here zero = at_drop_all (λ l. sound (left_by c (take zero l))) es i h ∙ here
  sound_all h here (suc k) = at_drop_all (λ l. sound (left_by c (take (suc k) l))) es i h ∙ here

  pub left_all : length es ≤ i → c ≡ left_by c (drop i es)
  left_all h = sym (at_drop_all (left_by c) es i h)

  pub answers_all : (out : List Answer) → length es ≤ i → out ≡ out ++ answers c (drop i es)
  answers_all out h = sym (ap (λ l. out ++ l) (at_drop_all (answers c) es i h) ∙ append-nil out)

each_told : (c : Content) (es : List Edit) → length (answers c es) ≡ length es
each_told c [] = refl
each_told c (e ∷ es) = ap suc (each_told (next c e) es)

told_in_turn : (c : Content) (es : List Edit) (k : ℕ) (e : Edit) → slice_get es k ≡ Some e →
    slice_get (answers c es) k ≡ Some (answer (left_by c (take k es)) e)
told_in_turn c [] k e h = absurd (none-some e h)
told_in_turn c (x ∷ es) zero e h = ap (λ (z : Edit). Some (answer c z)) (same_Some x e h)
told_in_turn c (x ∷ es) (suc k) e h = told_in_turn (next c x) es k e h

-- a refused call leaves the sheet
granted_not : (a : Result Unit Refusal) (f : Unit → Content) (c : Content) → is_refused (answered a) ≡ true → after a f c ≡ c
granted_not (Ok u) f c h = absurd (false≢true h)
granted_not (Err e) f c h = refl

placed_not : (a : Result Spot Refusal) (f : Spot → Content) (c : Content) → is_refused (spot_answered a) ≡ true → after a f c ≡ c
placed_not (Ok s) f c h = absurd (false≢true h)
placed_not (Err e) f c h = refl

loaded_not : (r : Result Content Fault) (c : Content) → is_refused (box_answered (r >>= (λ (x : Content). Ok tt))) ≡ true → or_else r c ≡ c
loaded_not (Ok x) c h = absurd (false≢true h)
loaded_not (Err e) c h = refl

unchanged : (c : Content) (e : Edit) → is_refused (answer c e) ≡ true → next c e ≡ c
unchanged c (Open s) h = granted_not (open_answer s) _ c h
unchanged c (Load input) h = loaded_not (box_of_bytes input.now) c h
unchanged c (Lay r) h = granted_not (lay_answer c r) _ c h
unchanged c (Place d) h = placed_not (place_answer c d) _ c h
unchanged c (Lift n) h = granted_not (lift_answer c n) _ c h

pub ran : (es : List Edit) (left : Content) (told : List Answer) → left ≡ left_by new_sheet es → told ≡ answers new_sheet es →
    ((k : ℕ) → sound (left_by new_sheet (take k es)) ≡ true) → Ran es left told
ran es left told el et ok =
    record {
      leaves = el;
      tells = et;
      each = ap length et ∙ each_told new_sheet es;
      in_turn = λ k e h. ap (λ (l : List Answer). slice_get l k) et ∙ told_in_turn new_sheet es k e h;
      unchanged = λ k e h refused. unchanged (left_by new_sheet (take k es)) e refused;
      sound_throughout = ok;
      once_throughout = λ k.
          let c = left_by new_sheet (take k es) in
          claimed_once c.sides c.rows (and_parts (not (empty_picture c.sides)) (sound_rows c.sides c.rows) (ok k)).1;
    }
