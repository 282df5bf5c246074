-- The promise stands.
use Rattle.std.proofs.Common.{◌≡◌, ℕ, zero, suc, ◌+◌, Bool, true, false, ◌&&◌, List, [], ◌∷◌, length, take, IfErr, Some, Ok, Err, Result, sym, refl, ap, ◌∙◌, subst, add-one, arith, take_all}
use Rattle.std.specs.List.{slice_get}
use Rattle.std.proofs.lemmas.Option.{none-some, same_Some}
use Rattle.std.proofs.lemmas.Bool.{and_parts, and_from, cond-true}
use Rattle.refusal.specs.declared.Refusal.{Refusal}
use Rattle.geometry.specs.declared.search.Spot.{Spot}
use Rattle.picture.specs.Picture.{Picture}
use Rattle.sheet.specs.declared.row.Draft.{Draft}
use Rattle.sheet.specs.Rules.{Content, new_sheet, place_answer}
use Rattle.sheet.specs.Sound.{sound}
use Rattle.sheet.specs.Words.{Facts, PlacedFirst}
use Rattle.sheet.proofs.Placing.{placed}
use Rattle.edits.specs.declared.edit.Edit.{Edit}
use Rattle.edits.specs.declared.edit.Edit.TheVariants.{Place as PlaceEdit}
use Rattle.edits.specs.Runs.{answer, next, left_by, spot_answered, Ran}
use Rattle.edits.specs.Told.{Answer}
use Rattle.packing.specs.Moves.{fit, fitted, is_projected, is_packed, Packs, Unpacks}
use Rattle.packing.specs.Promise.{sheet_after, Passes, Placing, Promise, Rehearsed}
use Rattle.packing.proofs.Returning.{granted, serve_is, packs, unpacks, fine, unlike, coarse}

-- one edit more of a run
one_more : (c : Content) (es : List Edit) (k : ℕ) (e : Edit) → slice_get es k ≡ Some e →
    left_by c (take (suc k) es) ≡ next (left_by c (take k es)) e
one_more c [] k e h = absurd (none-some e h)
one_more c (f ∷ es) zero e h = ap (next c) (same_Some f e h)
one_more c (f ∷ es) (suc k) e h = one_more (next c f) es k e h

step : (es : List Edit) (k : ℕ) (e : Edit) → slice_get es k ≡ Some e → sheet_after es (k + 1) ≡ next (sheet_after es k) e
step es k e h = ap (sheet_after es) (add-one k) ∙ one_more new_sheet es k e h

-- what a place answers, as an answer of a list
in_words : (c : Content) (d : Draft) (r : Result Spot Refusal) → PlacedFirst c d r → Placing c d (spot_answered r)
in_words c d (Ok s) h = h
in_words c d (Err e) h = h

placing : (c : Content) (d : Draft) (a : Answer) → sound c ≡ true → a ≡ answer c (PlaceEdit d) → Passes c d → Placing c d a
placing c d a ok e passes = subst (Placing c d) (sym e) (in_words c d (place_answer c d) (placed c d ok (sym passes)))

pub promised : (A : Type 0) (edits : List Edit) (sheet : Content) (told : List Answer) → Ran edits sheet told → Facts sheet →
    Promise A edits sheet told
promised A edits sheet told ran facts =
    record {
      run =
          record {
            start = refl;
            step = step edits;
            end = ran.leaves ∙ ap (left_by new_sheet) (sym (take_all (length edits) edits (omega arith)));
            each = ran.each;
            answers = ran.in_turn;
            unchanged = λ k e h refused. step edits k e h ∙ ran.unchanged k e h refused;
          };
      apart = ran.once_throughout;
      placing = λ k d a e t passes.
          let same : a ≡ answer (sheet_after edits k) (PlaceEdit d) = same_Some a _ (sym t ∙ ran.in_turn k (PlaceEdit d) e) in
          placing (sheet_after edits k) d a (ran.sound_throughout k) same passes;
      serves = serve_is sheet facts;
      packs = packs sheet facts;
      unpacks = unpacks sheet facts;
      fine = fine sheet facts;
      unlike = unlike sheet facts;
      coarse = coarse sheet facts;
    }

-- what one picture does not fit, it does not fit with another
unfit : (fits other : Bool) (e : Refusal) → Err e ≡ fitted fits → Err e ≡ fitted (fits && other)
unfit true other e h = let z : ◌≡◌ {A = ℕ} 0 1 = cc in absurd (omega arith)
unfit false other e h = h

not_granted : (e : Refusal) (X : Type 0) → ◌≡◌ {A = Result Unit Refusal} (Err e) (Ok tt) → X
not_granted e X h = let z : ◌≡◌ {A = ℕ} 0 1 = cc in absurd (omega arith)

pub not_refused : {X E : Type 0} (r : Result X E) (x : X) (P : E → Type 0) → r ≡ Ok x → IfErr r P
not_refused {X = X} {E = E} r x P e = subst (λ (s : Result X E). IfErr s P) (sym e) tt

module _ {A : Type 0} (sheet : Content) (original packed packed-left restored restored-left : Picture A) where
  -- a pack that is refused ends it
  pub unmoved : (e : Refusal) → Packs sheet (Err e) original packed packed-left →
      Rehearsed sheet (Err e) original packed packed-left restored restored-left
  unmoved e k =
      record {
        answer = unfit (fit sheet original packed) (is_projected sheet restored) e k.answer;
        packs = not_granted e _;
        unpacks = not_granted e _;
        returns = not_granted e _;
      }

  module _ (r : Result Unit Refusal) (k : Packs sheet (Ok tt) original packed packed-left)
      (u : Unpacks sheet r packed-left restored restored-left) (projected : is_projected sheet restored ≡ true) where
    fits : fit sheet original packed ≡ true
    fits = granted (fit sheet original packed) k.answer

    -- pack keeps the sides, so what it leaves fits too
    still : is_packed sheet packed-left ≡ true
    still =
        ap (is_packed sheet) (k.after ∙ cond-true _ _ _ fits)
        ∙ (and_parts (is_projected sheet original) (is_packed sheet packed) fits).1

    pub both : r ≡ Ok tt
    both = u.answer ∙ ap fitted (and_from (is_projected sheet restored) (is_packed sheet packed-left) projected still)

    pub moved : Facts sheet → Rehearsed sheet r original packed packed-left restored restored-left
    moved facts =
        let back = subst (λ (s : Result Unit Refusal). Unpacks sheet s packed-left restored restored-left) both u in
        record {
          answer = both ∙ sym (ap fitted (and_from (fit sheet original packed) (is_projected sheet restored) fits projected));
          packs = λ _. k;
          unpacks = λ _. back;
          returns = λ _. fine sheet facts original packed packed-left restored restored-left k back;
        }
