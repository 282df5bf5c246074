-- The box of a content reads back to it.
use Rattle.std.proofs.Common.{◌≡◌, ℕ, ◌+◌, ◌<◌, ◌≤◌, true, false, not, ◌||◌, eqb, ltb, List, [], ◌∷◌, ◌++◌, length, Ok, codes, sym, refl, ap, ◌∙◌, append_assoc, arith, length-append}
use Rattle.std.specs.List.{AllByRecursion}
use Rattle.std.proofs.lemmas.List.{take_all, append-nil}
use Rattle.std.proofs.lemmas.Bool.{ne_eqb, eq-eqb, le-ltb, and_parts, or_parts, or_from, not-true, not_from_true}
use Rattle.refusal.specs.declared.Refusal.TheVariants.{SizeDiffers, NoPayload, NoRows, LeavesProjected, ClaimLeaves, ClaimMeets, BytesLeft}
use Rattle.sheet.specs.declared.row.Row.{Row}
use Rattle.sheet.specs.declared.row.SheetSides.{SheetSides}
use Rattle.sheet.specs.Claims.{claim, claim_inside, meets, meets_any}
use Rattle.sheet.specs.Rules.{Content, empty_picture, leaves_projected}
use Rattle.sheet.specs.Sound.{sound_row, sound_rows}
use Rattle.sheet.proofs.Rows.{head_parts, meets_comm, faultless}
use Rattle.rwpk.specs.Boxes.{count_of, sides_of, judged, row_length, rows_from, box_of_bytes}
use Rattle.rwpk.specs.Bytes.{word_bytes, row_bytes, rows_bytes, sides_bytes, box_of}
use Rattle.rwpk.specs.Fields.{word_of, field, refuse}
use Rattle.rwpk.specs.Header.{header}
use Rattle.rwpk.specs.Laws.{Fits, SidesFit, RowFits, HasBox}
use Rattle.rwpk.specs.Rows.{side_at, row_at}
use Rattle.rwpk.proofs.Chains.{read, pass, on}
use Rattle.rwpk.proofs.Parted.{row_long, rows_long}
use Rattle.rwpk.proofs.Stands.{Stands, split}
use Rattle.rwpk.proofs.There.{field_there, side_there, byte_there, row_there}

-- a row of a sound list is sound, and meets none of the rows before it
in_order : (s : SheetSides) (sofar : List Row) (r : Row) (rows : List Row) → sound_rows s (sofar ++ r ∷ rows) ≡ true →
    (sound_row s r ≡ true) × (meets_any (claim r) sofar ≡ false)
in_order s [] r rows h = ((head_parts s r rows h).0, refl)
in_order s (x ∷ sofar) r rows h =
    let (here, clear, rest) = head_parts s x (sofar ++ r ∷ rows) h in
    let (ok, apart) = in_order s sofar r rows rest in
    (ok, or_from (meets (claim r) (claim x)) (meets_any (claim r) sofar) (meets_comm (claim r) (claim x) ∙ met (claim x) sofar clear) apart)
  where
    met : (c : _) (xs : List Row) → meets_any c (xs ++ r ∷ rows) ≡ false → meets c (claim r) ≡ false
    met c [] e = (or_parts (meets c (claim r)) (meets_any c rows) e).0
    met c (y ∷ xs) e = met c xs (or_parts (meets c (claim y)) (meets_any c (xs ++ r ∷ rows)) e).1

module _ (input : List ℕ) where
  rows_there : (s : SheetSides) (rows sofar : List Row) (p : ℕ) → sound_rows s (sofar ++ rows) ≡ true → AllByRecursion RowFits rows →
      Stands (rows_bytes rows) input p → p + length (rows_bytes rows) ≡ length input →
      rows_from s (length rows) sofar input p ≡ Ok (sofar ++ rows)
  rows_there s [] sofar p ok fit st e =
      pass (ltb p (length input)) BytesLeft p (Ok sofar) _ (le-ltb p (length input) (omega arith)) (ap Ok (sym (append-nil sofar)))
  rows_there s (r ∷ rows) sofar p ok (here, fit) st e =
      let (sound, apart) = in_order s sofar r rows ok in
      let free = faultless s r sound in
      let (sr, srs) = split (row_bytes r) (rows_bytes rows) input p (p + row_length r) (omega (arith, row_long r)) st in
      let good : judged s sofar r p ≡ Ok tt =
      pass (leaves_projected s.projected r.projected) LeavesProjected p _ _ free.projected
      (pass (not (claim_inside s.packed r)) ClaimLeaves p _ _ (not_from_true _ free.packed) (ap (λ t. refuse t ClaimMeets p) apart)) in
      read (row_at input p) _ r _
      (row_there input p r here (record { turn = free.turn; sides = free.sides; bands = free.bands }) sr)
      (on (judged s sofar r p) _ _ good
      (rows_there s rows (sofar ++ r ∷ []) (p + row_length r) (ap (sound_rows s) (append_assoc sofar (r ∷ []) rows) ∙ ok) fit srs
      (omega (arith, length-append (row_bytes r) (rows_bytes rows), row_long r))
      ∙ ap Ok (append_assoc sofar (r ∷ []) rows)))

  header_there : (n : ℕ) → n ≡ length input → Fits 4 n → 26 ≤ n → Stands (word_bytes 4 n) input 0 → Stands (codes "rwpk") input 4 →
      Stands (word_bytes 4 0) input 8 → header input ≡ Ok tt
  header_there n e small big s k v =
      read (field 4 input 0) _ n _ (field_there input 4 0 n (omega arith) small s)
      (pass (not (eqb n (length input))) SizeDiffers 0 _ _ (not_from_true _ (eq-eqb n (length input) e))
      (read (field 4 input 4) _ (word_of (codes "rwpk")) _ (field_there input 4 4 (word_of (codes "rwpk")) (omega arith) (omega arith) k)
      (read (field 4 input 8) _ 0 _ (field_there input 4 8 0 (omega arith) (omega arith) v)
      (ap (λ t. refuse t NoPayload 12) (ne_eqb (length input) 12 (λ z. omega arith))))))

  count_there : (n : ℕ) → 0 < n → Fits 1 n → Stands (0 ∷ []) input 12 → Stands (n ∷ []) input 13 → count_of input ≡ Ok n
  count_there n h k f c =
      read (field 1 input 12) _ 0 _ (byte_there input 12 0 (omega arith) f)
      (read (field 1 input 13) _ n _ (byte_there input 13 n k c) (pass (eqb n 0) NoRows 13 _ _ (ne_eqb n 0 (λ z. omega arith)) refl))

  sides_there : (s : SheetSides) → SidesFit s → empty_picture s ≡ false → Stands (sides_bytes s) input 14 → sides_of input ≡ Ok s
  sides_there s (lw, lh, lp, lq) some st =
      let w : ℕ = s.projected.width in
      let h : ℕ = s.projected.height in
      let p : ℕ = s.packed.width in
      let q : ℕ = s.packed.height in
      let (sw, s1) = split (word_bytes 4 w) (word_bytes 4 h ++ (word_bytes 2 p ++ word_bytes 2 q)) input 14 18 refl st in
      let (sh, s2) = split (word_bytes 4 h) (word_bytes 2 p ++ word_bytes 2 q) input 18 22 refl s1 in
      let (sp, sq) = split (word_bytes 2 p) (word_bytes 2 q) input 22 24 refl s2 in
      let (three, zq) = or_parts (eqb w 0 || eqb h 0 || eqb p 0) (eqb q 0) some in
      let (two, zp) = or_parts (eqb w 0 || eqb h 0) (eqb p 0) three in
      let (zw, zh) = or_parts (eqb w 0) (eqb h 0) two in
      read (side_at 4 input 14) _ w _ (side_there input 4 14 w (omega arith) lw zw sw)
      (read (side_at 4 input 18) _ h _ (side_there input 4 18 h (omega arith) lh zh sh)
      (read (side_at 2 input 22) _ p _ (side_there input 2 22 p (omega arith) lp zp sp)
      (read (side_at 2 input 24) _ q _ (side_there input 2 24 q (omega arith) lq zq sq) refl)))

pub box_there : (c : Content) → HasBox c → box_of_bytes (box_of c) ≡ Ok c
box_there c has =
    let input : List ℕ = box_of c in
    let s : SheetSides = c.sides in
    let n : ℕ = length c.rows in
    let R : List ℕ = rows_bytes c.rows in
    let size : ℕ = 26 + length R in
    let (some, ok) = and_parts (not (empty_picture s)) (sound_rows s c.rows) has.sound in
    let all : Stands input input 0 = take_all (length input) input (omega arith) in
    let W : List ℕ = sides_bytes s in
    let V : List ℕ = (0 ∷ []) ++ ((n ∷ []) ++ (W ++ R)) in
    let (sz, s1) = split (word_bytes 4 size) (codes "rwpk" ++ (word_bytes 4 0 ++ V)) input 0 4 refl all in
    let (sk, s2) = split (codes "rwpk") (word_bytes 4 0 ++ V) input 4 8 refl s1 in
    let (sv, s3) = split (word_bytes 4 0) V input 8 12 refl s2 in
    let (sf, s4) = split (0 ∷ []) ((n ∷ []) ++ (W ++ R)) input 12 13 refl s3 in
    let (sn, s5) = split (n ∷ []) (W ++ R) input 13 14 refl s4 in
    let (sw, sr) = split W R input 14 26 refl s5 in
    let long : size ≡ length input = omega arith in
    on (header input) _ _ (header_there input size long (omega (arith, rows_long c.rows, has.few)) (omega arith) sz sk sv)
    (read (count_of input) _ n _ (count_there input n has.some has.few sf sn)
    (read (sides_of input) _ s _ (sides_there input s has.sides (not-true (empty_picture s) some) sw)
    (read (rows_from s n [] input 26) _ c.rows _ (rows_there input s c.rows [] 26 ok has.rows sr long) refl)))
