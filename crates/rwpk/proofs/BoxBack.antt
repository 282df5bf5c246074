-- From a box that was read back to its bytes.
use Rattle.std.proofs.Common.{◌≡◌, ℕ, zero, suc, ◌+◌, ◌/◌, ◌<◌, ◌≤◌, true, not, eqb, ltb, List, [], ◌∷◌, ◌++◌, length, Ok, codes, sym, refl, ap, ◌∙◌, subst, append_assoc, arith, length-append}
use Rattle.std.specs.List.{AllByRecursion}
use Rattle.std.proofs.lemmas.List.{take_all, append-nil}
use Rattle.std.proofs.lemmas.Bool.{ltb-false, eqb-true, eqb-false, not-false, not_from_false, and_from}
use Rattle.refusal.specs.declared.Refusal.TheVariants.{SizeDiffers, NotRwpk, Paired, ReservedBit, NoRows, LeavesProjected, ClaimLeaves, ClaimMeets, BytesLeft}
use Rattle.sheet.specs.declared.row.Row.{Row}
use Rattle.sheet.specs.declared.row.SheetSides.{SheetSides}
use Rattle.sheet.specs.Claims.{claim, claim_inside, meets_any}
use Rattle.sheet.specs.Rules.{Content, empty_picture, leaves_projected}
use Rattle.sheet.specs.Sound.{sound_row, sound_rows}
use Rattle.sheet.proofs.Rows.{sound_push, sound_from}
use Rattle.rwpk.specs.Boxes.{count_of, sides_of, judged, row_length, rows_from, box_of_bytes}
use Rattle.rwpk.specs.Bytes.{word_bytes, row_bytes, rows_bytes, sides_bytes, head_bytes, box_of}
use Rattle.rwpk.specs.Fields.{word_of, field}
use Rattle.rwpk.specs.Header.{header}
use Rattle.rwpk.specs.Laws.{Bytes, SidesFit, RowFits, HasBox}
use Rattle.rwpk.specs.Rows.{side_at, row_at}
use Rattle.rwpk.proofs.Back.{field_stands, side_back, byte_stands, RowBack, row_back}
use Rattle.rwpk.proofs.Chains.{granted, then_granted, passed, passed_last, same_ok}
use Rattle.rwpk.proofs.Laying.{sides_some}
use Rattle.rwpk.proofs.Parted.{row_long}
use Rattle.rwpk.proofs.Stands.{Stands, join, room}

-- a row that was judged well, by the sheet's rules
judged_sound : (s : SheetSides) (sofar : List Row) (r : Row) (input : List ℕ) (small : Bytes input) (p q : ℕ) →
    RowBack input small p r → Ok tt ≡ judged s sofar r q → sound_rows s sofar ≡ true → sound_rows s (sofar ++ r ∷ []) ≡ true
judged_sound s sofar r input small p q back e ok =
    let (a, e1) = passed (leaves_projected s.projected r.projected) LeavesProjected q _ tt e in
    let (b, e2) = passed (not (claim_inside s.packed r)) ClaimLeaves q _ tt e1 in
    let free = back.faultless in
    let row : sound_row s r ≡ true =
    sound_from s r (record {
      turn = free.turn;
      sides = free.sides;
      bands = free.bands;
      projected = a;
      packed = not-false (claim_inside s.packed r) b;
    }) in
    sound_push s sofar r ok row (passed_last (meets_any (claim r) sofar) ClaimMeets q tt e2)

module _ (input : List ℕ) (small : Bytes input) where
  header_back : header input ≡ Ok tt → Stands (word_bytes 4 (length input) ++ (codes "rwpk" ++ word_bytes 4 0)) input 0
  header_back e =
      let (size, fs, e1) = granted (field 4 input 0) _ tt (sym e) in
      let (a, e2) = passed (not (eqb size (length input))) SizeDiffers 0 _ tt e1 in
      let (kind, fk, e3) = granted (field 4 input 4) _ tt e2 in
      let (b, e4) = passed (not (eqb kind (word_of (codes "rwpk")))) NotRwpk 4 _ tt e3 in
      let (version, fv, e5) = granted (field 4 input 8) _ tt e4 in
      let (c, e6) = passed (not (eqb version 0)) NotRwpk 8 _ tt e5 in
      let is : size ≡ length input = eqb-true size (length input) (not-false _ a) in
      let ik : kind ≡ word_of (codes "rwpk") = eqb-true kind (word_of (codes "rwpk")) (not-false _ b) in
      let iv : version ≡ 0 = eqb-true version 0 (not-false _ c) in
      join (word_bytes 4 (length input)) (codes "rwpk" ++ word_bytes 4 0) input 0 4 refl
      (subst (λ z. Stands (word_bytes 4 z) input 0) is (field_stands input small 4 0 size fs).0)
      (join (codes "rwpk") (word_bytes 4 0) input 4 8 refl
      (subst (λ z. Stands (word_bytes 4 z) input 4) ik (field_stands input small 4 4 kind fk).0)
      (subst (λ z. Stands (word_bytes 4 z) input 8) iv (field_stands input small 4 8 version fv).0))

  count_back : (n : ℕ) → count_of input ≡ Ok n → Stands (0 ∷ n ∷ []) input 12 × (0 < n) × (n < 256)
  count_back n e =
      let (flags, ff, e1) = granted (field 1 input 12) _ n (sym e) in
      let (a, e2) = passed (ltb 0 (flags / 128)) Paired 12 _ n e1 in
      let (b, e3) = passed (ltb 0 flags) ReservedBit 12 _ n e2 in
      let (count, fc, e4) = granted (field 1 input 13) _ n e3 in
      let (c, e5) = passed (eqb count 0) NoRows 13 _ n e4 in
      let is : n ≡ count = same_ok e5 in
      let none : flags ≤ 0 = ltb-false 0 flags b in
      let some : count ≡ 0 → ⊥ = eqb-false count 0 c in
      let lt = (field_stands input small 1 13 count fc).1 in (
        join (0 ∷ []) (n ∷ []) input 12 13 refl (byte_stands input small 12 flags 0 ff (omega arith)) (byte_stands input small 13 count n fc is),
        omega arith,
        omega arith,
      )

  sides_back : (s : SheetSides) → sides_of input ≡ Ok s → Stands (sides_bytes s) input 14 × SidesFit s
  sides_back s e =
      let (w, fw, e1) = granted (side_at 4 input 14) _ s (sym e) in
      let (h, fh, e2) = granted (side_at 4 input 18) _ s e1 in
      let (p, fp, e3) = granted (side_at 2 input 22) _ s e2 in
      let (q, fq, e4) = granted (side_at 2 input 24) _ s e3 in
      let (sw, lw) = field_stands input small 4 14 w (side_back input 4 14 w fw).0 in
      let (sh, lh) = field_stands input small 4 18 h (side_back input 4 18 h fh).0 in
      let (sp, lp) = field_stands input small 2 22 p (side_back input 2 22 p fp).0 in
      let (sq, lq) = field_stands input small 2 24 q (side_back input 2 24 q fq).0 in
      subst (λ z. Stands (sides_bytes z) input 14 × SidesFit z) (sym (same_ok e4)) (
        join (word_bytes 4 w) (word_bytes 4 h ++ (word_bytes 2 p ++ word_bytes 2 q)) input 14 18 refl sw
            (join (word_bytes 4 h) (word_bytes 2 p ++ word_bytes 2 q) input 18 22 refl sh
            (join (word_bytes 2 p) (word_bytes 2 q) input 22 24 refl sp sq)),
        (lw, lh, lp, lq),
      )

  -- rows that were read stand in the input up to its end, and are sound with the rows before them
  record RowsBack (s : SheetSides) (n : ℕ) (sofar : List Row) (p : ℕ) (rows : List Row) : Type 0 where
    more : List Row
    whole : rows ≡ sofar ++ more
    count : length more ≡ n
    stand : Stands (rows_bytes more) input p
    end : p + length (rows_bytes more) ≡ length input
    fit : AllByRecursion RowFits more
    sound : sound_rows s rows ≡ true

  rows_back : (s : SheetSides) (n : ℕ) (sofar : List Row) (p : ℕ) (rows : List Row) → p ≤ length input → sound_rows s sofar ≡ true →
      Ok rows ≡ rows_from s n sofar input p → RowsBack s n sofar p rows
  rows_back s zero sofar p rows h ok e =
      let (lt, e1) = passed (ltb p (length input)) BytesLeft p (Ok sofar) rows e in
      let l : length input ≤ p = ltb-false p (length input) lt in
      record {
        more = [];
        whole = same_ok e1 ∙ sym (append-nil sofar);
        count = refl;
        stand = refl;
        end = omega arith;
        fit = tt;
        sound = ap (sound_rows s) (same_ok e1) ∙ ok;
      }
  rows_back s (suc n) sofar p rows h ok e =
      let (r, fr, e1) = granted (row_at input p) _ rows e in
      let (fj, e2) = then_granted (judged s sofar r p) (rows_from s n (sofar ++ r ∷ []) input (p + row_length r)) rows e1 in
      let back = row_back input small p r (sym fr) in
      let size : length (row_bytes r) ≡ row_length r = row_long r in
      let fits : p + row_length r ≤ length input = omega (arith, room (row_bytes r) input p (omega arith) back.stand) in
      let rest = rows_back s n (sofar ++ r ∷ []) (p + row_length r) rows fits (judged_sound s sofar r input small p p back (sym fj) ok) e2 in
      record {
        more = r ∷ rest.more;
        whole = rest.whole ∙ append_assoc sofar (r ∷ []) rest.more;
        count = ap suc rest.count;
        stand = join (row_bytes r) (rows_bytes rest.more) input p (p + row_length r) (omega arith) back.stand rest.stand;
        end = omega (arith, length-append (row_bytes r) (rows_bytes rest.more), rest.end);
        fit = (back.fits, rest.fit);
        sound = rest.sound;
      }

  -- a box that was read is the box of the content that it gave
  pub box_back : (c : Content) → Ok c ≡ box_of_bytes input → HasBox c × (input ≡ box_of c)
  box_back c e =
      let (fo, e1) = then_granted (header input) _ c e in
      let (n, fc, e2) = granted (count_of input) _ c e1 in
      let (s, fs, e3) = granted (sides_of input) _ c e2 in
      let (rows, fr, e4) = granted (rows_from s n [] input 26) _ c e3 in
      let so = header_back fo in
      let (sc, some, few) = count_back n fc in
      let (ss, fit) = sides_back s fs in
      let back = rows_back s n [] 26 rows (room (sides_bytes s) input 14 (omega arith) ss) refl (sym fr) in
      let m : List Row = back.more in
      let head : List ℕ = head_bytes (length input) n s in
      let sh : Stands head input 0 =
      join (word_bytes 4 (length input) ++ (codes "rwpk" ++ word_bytes 4 0)) ((0 ∷ n ∷ []) ++ sides_bytes s) input 0 12 refl so
      (join (0 ∷ n ∷ []) (sides_bytes s) input 12 14 refl sc ss) in
      let all : Stands (head ++ rows_bytes m) input 0 = join head (rows_bytes m) input 0 26 refl sh back.stand in
      let long : length input ≤ length (head ++ rows_bytes m) = omega (arith, back.end) in
      let same : head ++ rows_bytes m ≡ input = sym all ∙ take_all (length (head ++ rows_bytes m)) input long in
      let it : c ≡ record { sides = s; rows = m } = same_ok e4 ∙ ap (λ z. record { sides = s; rows = z }) back.whole in
      let good : sound_rows s m ≡ true = ap (sound_rows s) (sym back.whole) ∙ back.sound in
      subst (λ z. HasBox z × (input ≡ box_of z)) (sym it) (
        record {
          sound = and_from (not (empty_picture s)) (sound_rows s m) (not_from_false _ (sides_some input s (sym fs))) good;
          some = omega (arith, back.count);
          few = omega (arith, back.count);
          sides = fit;
          rows = back.fit;
        },
        sym (ap (λ k. head_bytes k (length m) s ++ rows_bytes m) back.end
            ∙ ap (λ k. head_bytes (length input) k s ++ rows_bytes m) back.count
            ∙ same),
      )
