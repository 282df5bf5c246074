-- Rows that are read and laid, one after the other.
use Rattle.std.proofs.Common.{◌≡◌, ℕ, suc, ◌+◌, ◌-◌, ◌<◌, ◌≤◌, Bool, true, false, cond, not, ◌||◌, eqb, leb, List, [], ◌∷◌, ◌++◌, length, Some, None, Ok, Err, Option, Result, sym, refl, ap, ◌∙◌, arith}
use Rattle.std.specs.Result.{MatchResult, IsErrAnd}
use Rattle.std.proofs.lemmas.Result.{err_from_is_err_and}
use Rattle.std.proofs.lemmas.Bool.{cond-false, lt-leb, or_from}
use Rattle.refusal.specs.declared.Refusal.{Refusal}
use Rattle.refusal.specs.declared.Refusal.TheVariants.{EmptySide, GuardBands as BandFault, TurnCode, LeavesProjected, ClaimLeaves, ClaimMeets, SheetFull}
use Rattle.sheet.specs.declared.row.GuardBands.{GuardBands}
use Rattle.sheet.specs.declared.row.Row.{Row}
use Rattle.sheet.specs.declared.row.SheetSides.{SheetSides}
use Rattle.sheet.specs.Claims.{claim, claim_inside, meets_any}
use Rattle.sheet.specs.Rules.{Content, check, verdict, after, bad_turn, empty_row, bad_bands, leaves_projected, empty_picture, open_next, lay_answer}
use Rattle.rwpk.specs.declared.fault.Fault.{Fault}
use Rattle.rwpk.specs.Boxes.{count_of, sides_of, judged, length_with, row_length, rows_from, box_of_bytes}
use Rattle.rwpk.specs.Fields.{refused_at, refuse, ◌>>=◌, ◌>>◌}
use Rattle.rwpk.specs.Header.{header}
use Rattle.rwpk.specs.Loading.{Faultless}
use Rattle.rwpk.specs.Rows.{side_at, row_at}
use Rattle.rwpk.proofs.Back.{side_back}
use Rattle.rwpk.proofs.Chains.{granted, same_ok, read, on}

-- what lay answers, with the place of the row where it is refused
abbrev pub placed : Result (Unit {0}) Refusal → ℕ → Result (Unit {0}) Fault
placed (Ok u) p = Ok u
placed (Err why) p = refused_at why p

-- where a refusal is handed on with the place
pub handed_on : {Post : Refusal → Fault → Type 0} (v : Result (Unit {0}) Refusal) (r : Result (Unit {0}) Fault) (p : ℕ) →
    MatchResult v (λ x. r ≡ Ok x) (λ why. IsErrAnd r (Post why)) →
    ((why : Refusal) (fault : Fault) → Post why fault → fault ≡ record { refusal = why; place = p }) → r ≡ placed v p
handed_on (Ok u) r p h is = h
handed_on (Err why) r p h is =
    let (fault, was, post) = err_from_is_err_and r h in
    was ∙ ap Err (is why fault post)

-- the last three checks of lay are those of a row that was read
same_three : (a b d : Bool) (p : ℕ) →
    placed (verdict (check a LeavesProjected ∷ check b ClaimLeaves ∷ check d ClaimMeets ∷ [])) p
    ≡ (refuse a LeavesProjected p >> (refuse b ClaimLeaves p >> refuse d ClaimMeets p))
same_three true b d p = refl
same_three false true d p = refl
same_three false false true p = refl
same_three false false false p = refl

-- and the others are passed
pub lay_judged : (c : Content) (r : Row) (p : ℕ) → length c.rows < 255 → Faultless r →
    placed (lay_answer c r) p ≡ judged c.sides c.rows r p
lay_judged c r p few f =
    let a : Bool = leaves_projected c.sides.projected r.projected in
    let b : Bool = not (claim_inside c.sides.packed r) in
    let d : Bool = meets_any (claim r) c.rows in
    let e : Result (Unit {0}) Refusal = verdict (check a LeavesProjected ∷ check b ClaimLeaves ∷ check d ClaimMeets ∷ []) in
    let e1 : Result (Unit {0}) Refusal = cond (bad_bands r.bands) (Err BandFault) e in
    let e2 : Result (Unit {0}) Refusal = cond (empty_row r) (Err EmptySide) e1 in
    let e3 : Result (Unit {0}) Refusal = cond (bad_turn r) (Err TurnCode) e2 in
    ap (λ v. placed v p)
    (cond-false (leb 255 (length c.rows)) (Err SheetFull) e3 (lt-leb 255 (length c.rows) few)
    ∙ cond-false (bad_turn r) (Err TurnCode) e2 f.turn
    ∙ cond-false (empty_row r) (Err EmptySide) e1 f.sides
    ∙ cond-false (bad_bands r.bands) (Err BandFault) e f.bands)
    ∙ same_three a b d p

-- sides that were read are none of them 0
pub sides_some : (input : List ℕ) (s : SheetSides) → Ok s ≡ sides_of input → empty_picture s ≡ false
sides_some input s e =
    let (w, fw, e1) = granted (side_at 4 input 14) _ s e in
    let (h, fh, e2) = granted (side_at 4 input 18) _ s e1 in
    let (pw, fpw, e3) = granted (side_at 2 input 22) _ s e2 in
    let (ph, fph, e4) = granted (side_at 2 input 24) _ s e3 in
    ap empty_picture (same_ok e4)
    ∙ or_from (eqb w 0 || eqb h 0 || eqb pw 0) (eqb ph 0)
    (or_from (eqb w 0 || eqb h 0) (eqb pw 0) (or_from (eqb w 0) (eqb h 0) (side_back input 4 14 w fw).1 (side_back input 4 18 h fh).1)
    (side_back input 2 22 pw fpw).1)
    (side_back input 2 24 ph fph).1

-- so they open a sheet
pub opened : (input : List ℕ) (s : SheetSides) (c : Content) → Ok s ≡ sides_of input → open_next s c ≡ record { sides = s; rows = [] }
opened input s c e =
    ap (λ b. after (verdict (check b EmptySide ∷ [])) (λ _. record { sides = s; rows = [] }) c) (sides_some input s e)

length_with_le : (o : Option GuardBands) → length_with o ≤ 32
length_with_le None = omega arith
length_with_le (Some g) = omega arith

pub row_length_le : (r : Row) → row_length r ≤ 32
row_length_le r = length_with_le r.bands

module _ (s : SheetSides) (n i : ℕ) (sofar : List Row) (input : List ℕ) (p : ℕ) (h : i < n) where
  abbrev next : Row → Result (List Row) Fault
  next row = judged s sofar row p >> rows_from s (n - (i + 1)) (sofar ++ row ∷ []) input (p + row_length row)

  -- the rows that are left, by the next of them
  step : rows_from s (n - i) sofar input p ≡ (row_at input p >>= next)
  step = let left : n - i ≡ suc (n - (i + 1)) = omega arith in ap (λ m. rows_from s m sofar input p) left

  -- it is not read
  pub unread : (e : Fault) → Err e ≡ row_at input p → Err e ≡ rows_from s (n - i) sofar input p
  unread e is =
      ap (λ a. a >>= next) is ∙ sym step

  -- it is read, and refused
  pub unlaid : (row : Row) (e : Fault) → Ok row ≡ row_at input p → Err e ≡ judged s sofar row p → Err e ≡ rows_from s (n - i) sofar input p
  unlaid row e is bad =
      ap (λ a. a >> rows_from s (n - (i + 1)) (sofar ++ row ∷ []) input (p + row_length row)) bad
      ∙ ap (λ a. a >>= next) is
      ∙ sym step

  -- it is read and laid
  pub one_more : (row : Row) (u : Unit {0}) → Ok row ≡ row_at input p → Ok u ≡ judged s sofar row p →
      rows_from s (n - (i + 1)) (sofar ++ row ∷ []) input (p + row_length row) ≡ rows_from s (n - i) sofar input p
  one_more row u is good =
      ap (λ a. a >> rows_from s (n - (i + 1)) (sofar ++ row ∷ []) input (p + row_length row)) good
      ∙ ap (λ a. a >>= next) is
      ∙ sym step

-- what the rows decide, once all before them is read
pub by_rows : (input : List ℕ) (u : Unit {0}) (n : ℕ) (s : SheetSides) → Ok u ≡ header input → Ok n ≡ count_of input → Ok s ≡ sides_of input →
    box_of_bytes input ≡ (rows_from s n [] input 26 >>= (λ rows. Ok (record { sides = s; rows = rows })))
by_rows input u n s eh ec es =
    on (header input) _ _ (sym eh)
    (read (count_of input) _ n _ (sym ec) (read (sides_of input) _ s _ (sym es) refl))

-- the sheet that a box is read onto: opened, and then with the rows laid
module _
    (input : List ℕ) (u : Unit {0}) (n : ℕ) (s : SheetSides) (bare : Content)
    (eh : Ok u ≡ header input) (ec : Ok n ≡ count_of input) (es : Ok s ≡ sides_of input) (eb : bare ≡ record { sides = s; rows = [] })
  where
    rows_decide : (rows_from bare.sides n [] input 26 >>= (λ rows. Ok (record { sides = s; rows = rows }))) ≡ box_of_bytes input
    rows_decide =
        ap (λ (k : Content). rows_from k.sides n [] input 26 >>= (λ rows. Ok (record { sides = s; rows = rows }))) eb
        ∙ sym (by_rows input u n s eh ec es)

    pub all_read : (full : Content) → Ok full.rows ≡ rows_from bare.sides n [] input 26 → full.sides ≡ bare.sides →
        Ok full ≡ box_of_bytes input
    all_read full rows sides =
        ap (λ z. Ok (record { sides = z; rows = full.rows })) (sides ∙ ap (λ (k : Content). k.sides) eb)
        ∙ ap (λ a. a >>= (λ rows. Ok (record { sides = s; rows = rows }))) rows
        ∙ rows_decide

    pub not_read : (e : Fault) → Err e ≡ rows_from bare.sides n [] input 26 → Err e ≡ box_of_bytes input
    not_read e rows = ap (λ a. a >>= (λ rows. Ok (record { sides = s; rows = rows }))) rows ∙ rows_decide
