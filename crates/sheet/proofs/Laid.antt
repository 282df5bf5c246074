-- What a granted call tells of its checks, and what it leaves.
use Rattle.std.proofs.Common.{◌≡◌, ℕ, ◌+◌, ◌<◌, ◌≤◌, Bool, true, false, cond, not, List, [], ◌∷◌, ◌++◌, length, set, IfErr, Ok, Err, Result, sym, refl, ap, ◌∙◌, arith}
use Rattle.std.specs.List.{AllByRecursion}
use Rattle.std.proofs.lemmas.List.{length-take-le, take_more_set}
use Rattle.std.proofs.lemmas.Bool.{and_parts, and_from, leb-false, cond-false, not-false}
use Rattle.refusal.specs.declared.Refusal.{Refusal}
use Rattle.sheet.specs.declared.row.Row.{Row}
use Rattle.sheet.specs.declared.table.Table.{Table}
use Rattle.sheet.specs.Claims.{claim_inside}
use Rattle.sheet.specs.Held.{held}
use Rattle.sheet.specs.Rules.{Content, Check, verdict, shape_checks, room_checks, with_rows, empty_picture}
use Rattle.sheet.specs.Sound.{sound, sound_rows, sound_row}
use Rattle.sheet.proofs.Rows.{sound_push, sound_from}

ok_step : (b : Bool) (f : Refusal) (x : Result Unit Refusal) (u : Unit) → Ok u ≡ cond b (Err f) x → (b ≡ false) × (Ok u ≡ x)
ok_step true f x u e = let z : ◌≡◌ {A = ℕ} 0 1 = cc in absurd (omega arith)
ok_step false f x u e = (refl, e)

-- where a call is granted, none of its checks fails
pub passed : (cs : List Check) (u : Unit) → Ok u ≡ verdict cs → AllByRecursion (λ c. c.fails ≡ false) cs
passed [] u e = tt
passed (c ∷ cs) u e = let s = ok_step c.fails c.with (verdict cs) u e in (s.0, passed cs u s.1)

-- the checks of a list and then of another
pub verdict_then : (xs ys : List Check) (u : Unit) → Ok u ≡ verdict xs → verdict ys ≡ verdict (xs ++ ys)
verdict_then [] ys u e = refl
verdict_then (x ∷ xs) ys u e =
    let s = ok_step x.fails x.with (verdict xs) u e in
    verdict_then xs ys u s.1 ∙ sym (cond-false x.fails (Err x.with) (verdict (xs ++ ys)) s.0)

err_step : (b : Bool) (f g : Refusal) (x y : Result Unit Refusal) → Err g ≡ cond b (Err f) x → (Err g ≡ x → Err g ≡ y) → Err g ≡ cond b (Err f) y
err_step true f g x y e k = e
err_step false f g x y e k = k e

-- a check that fails decides, whatever comes after
pub verdict_stop : (xs ys : List Check) (f : Refusal) → Err f ≡ verdict xs → Err f ≡ verdict (xs ++ ys)
verdict_stop [] ys f e = let z : ◌≡◌ {A = ℕ} 0 1 = cc in absurd (omega arith)
verdict_stop (x ∷ xs) ys f e = err_step x.fails x.with f (verdict xs) (verdict (xs ++ ys)) e (verdict_stop xs ys f)

pub refused_all : {X Y : Type 0} (r : Result X Y) (P : Y → Type 0) → ((y : Y) → P y) → IfErr r P
refused_all (Ok x) P h = tt
refused_all (Err y) P h = h y

-- one more row that passed its checks keeps a sheet sound
pub push_sound : (c : Content) (r : Row) → Ok tt ≡ verdict (shape_checks c r) → Ok tt ≡ verdict (room_checks c r) → sound c ≡ true →
    sound (with_rows c (c.rows ++ r ∷ [])) ≡ true
push_sound c r shape room h =
    let ok = passed (shape_checks c r) tt shape in
    let free = passed (room_checks c r) tt room in
    let a = and_parts (not (empty_picture c.sides)) (sound_rows c.sides c.rows) h in
    let row : sound_row c.sides r ≡ true =
    sound_from c.sides r (record {
      turn = ok.1.0;
      sides = ok.1.1.0;
      bands = ok.1.1.1.0;
      projected = ok.1.1.1.1.0;
      packed = not-false (claim_inside c.sides.packed r) free.0;
    }) in
    and_from (not (empty_picture c.sides)) (sound_rows c.sides (c.rows ++ r ∷ [])) a.0
    (sound_push c.sides c.rows r a.1 row free.1.0)

-- the table after one more row
abbrev pub laid_table : Table → Row → Table
laid_table t r = record { sides = t.sides; rows = set t.rows t.len r; len = t.len + 1 }

module _ (t : Table) (r : Row) (whole : length t.rows ≡ 255) (few : t.len ≤ 255) (shape : Ok tt ≡ verdict (shape_checks (held t) r)) where
  pub not_full : t.len < 255
  not_full =
      omega (arith, leb-false 255 (length (held t).rows) (passed (shape_checks (held t) r) tt shape).0, length-take-le t.len t.rows (omega arith))

  pub laid_held : held (laid_table t r) ≡ with_rows (held t) ((held t).rows ++ r ∷ [])
  laid_held = ap (with_rows (held t)) (take_more_set t.rows t.len r (omega (arith, not_full)))

  pub laid_sound : Ok tt ≡ verdict (room_checks (held t) r) → sound (held t) ≡ true → sound (held (laid_table t r)) ≡ true
  laid_sound room h = ap sound laid_held ∙ push_sound (held t) r shape room h

-- where two lists of checks pass, each does
pub verdict_first : (xs ys : List Check) → Ok tt ≡ verdict (xs ++ ys) → Ok tt ≡ verdict xs
verdict_first [] ys e = refl
verdict_first (x ∷ xs) ys e =
    let s = ok_step x.fails x.with (verdict (xs ++ ys)) tt e in
    verdict_first xs ys s.1 ∙ sym (cond-false x.fails (Err x.with) (verdict xs) s.0)

pub verdict_rest : (xs ys : List Check) → Ok tt ≡ verdict (xs ++ ys) → Ok tt ≡ verdict ys
verdict_rest [] ys e = e
verdict_rest (x ∷ xs) ys e = verdict_rest xs ys (ok_step x.fails x.with (verdict (xs ++ ys)) tt e).1
