-- From a row that was read back to its bytes.
use Rattle.std.proofs.Common.{◌≡◌, ℕ, ◌+◌, ◌*◌, ◌/◌, ◌%◌, ◌<◌, ◌≤◌, Bool, true, false, cond, ◌||◌, eqb, ltb, List, [], ◌∷◌, ◌++◌, length, take, drop, Some, Ok, Option, Result, sym, refl, ap, ◌∙◌, subst, ⊎_elim, div-add-mod', arith, length-drop, length-take}
use native.Mathlib.Nat.{div-div-eq-div-mul}
use Rattle.std.proofs.lemmas.Bool.{cond-true, cond-false, cases_Bool, ltb-false, eqb-true, eqb-false, cond_both, le-ltb, or_from}
use Rattle.refusal.specs.declared.Refusal.TheVariants.{InputEnds, EmptySide, ReservedBit, PackingType, GuardBands as BandFault}
use Rattle.geometry.specs.declared.place.Rectangle.{Rectangle}
use Rattle.sheet.specs.declared.row.FourSides.{FourSides}
use Rattle.sheet.specs.declared.row.GuardBands.{GuardBands}
use Rattle.sheet.specs.declared.row.Row.{Row}
use Rattle.sheet.specs.Rules.{all_zero, over_four, bad_bands}
use Rattle.rwpk.specs.declared.fault.Fault.{Fault}
use Rattle.rwpk.specs.Bytes.{word_bytes, rectangle_bytes, bytes_if, flag_byte, row_bytes}
use Rattle.rwpk.specs.Fields.{word_of, field, refused_at}
use Rattle.rwpk.specs.Laws.{Bytes, Fits, RectangleFits, SizesFit, RowFits}
use Rattle.rwpk.specs.Loading.{Faultless}
use Rattle.rwpk.specs.Rows.{side_at, flag_at, rectangle_at, turn_at, four_sides, sizes_at, flag_of, kinds_of, kinds_at, bands_at, bands_if, row_at}
use Rattle.rwpk.proofs.Chains.{granted, passed, same_ok}
use Rattle.rwpk.proofs.Stands.{Stands, join}
use Rattle.rwpk.proofs.Numbers.{bytes_take, bytes_drop, word_back, word_small, word_long}

field_back : (n : ℕ) (input : List ℕ) (p x : ℕ) → Ok x ≡ field n input p → (p + n ≤ length input) × (x ≡ word_of (take n (drop p input)))
field_back n input p x e =
    ⊎_elim
    (λ t.
    let f : ◌≡◌ {A = Result ℕ Fault} (Ok x) (refused_at InputEnds p) = e ∙ cond-true _ _ _ t in
    let z : ◌≡◌ {A = ℕ} 0 1 = cc in absurd (omega arith))
    (λ t.
    let f : ◌≡◌ {A = Result ℕ Fault} (Ok x) (Ok (word_of (take n (drop p input)))) = e ∙ cond-false _ _ _ t in
    (omega (arith, ltb-false), same_ok f))
    (cases_Bool (ltb (length input) (p + n)))

pub side_back : (input : List ℕ) (n p x : ℕ) → side_at n input p ≡ Ok x → (field n input p ≡ Ok x) × (eqb x 0 ≡ false)
side_back input n p x e =
    let (y, f, r) = granted (field n input p) _ x (sym e) in
    let (z, t) = passed (eqb y 0) EmptySide p (Ok y) x r in
    (f ∙ sym t, ap (λ k. eqb k 0) (same_ok t) ∙ z)

top_bit : (k : ℕ) → k < 65536 → cond (flag_of k) 32768 0 ≡ k / 32768 * 32768
top_bit k h =
    cond_both (flag_of k) 32768 0 (λ z. z ≡ k / 32768 * 32768) (λ t. omega (arith, eqb-true (k / 32768) 1 t))
    (λ t. let n = eqb-false (k / 32768) 1 t in omega arith)

-- a number of 16 bits by its top bit and groups of three bits, the last of which is 0
groups : (k : ℕ) → k < 65536 → k % 8 ≤ 0 →
    cond (flag_of k) 32768 0 + k / 4096 % 8 * 4096 + k / 512 % 8 * 512 + k / 64 % 8 * 64 + k / 8 % 8 * 8 ≡ k
groups k h z =
    omega (
      arith,
      top_bit k h,
      div-add-mod' k 8,
      div-add-mod' (k / 8) 8,
      div-add-mod' (k / 64) 8,
      div-add-mod' (k / 512) 8,
      div-add-mod' (k / 4096) 8,
      div-div-eq-div-mul k 8 8,
      div-div-eq-div-mul k 64 8,
      div-div-eq-div-mul k 512 8,
      div-div-eq-div-mul k 4096 8,
    )

module _ (input : List ℕ) (small : Bytes input) where
  -- a field that was read stands in the input, byte for byte
  pub field_stands : (n p x : ℕ) → field n input p ≡ Ok x → Stands (word_bytes n x) input p × Fits n x
  field_stands n p x e =
      let r = field_back n input p x (sym e) in
      let ys : List ℕ = take n (drop p input) in
      let bytes : Bytes ys = bytes_take n (drop p input) (bytes_drop p input small) in
      let long : length ys ≡ n = simp (length-take, length-drop) (omega arith) in
      let back : word_bytes n x ≡ ys = ap (word_bytes n) r.1 ∙ ap (λ m. word_bytes m (word_of ys)) (sym long) ∙ word_back ys bytes in (
        ap (λ m. take m (drop p input)) (word_long n x) ∙ sym back,
        subst (λ m. Fits m x) long (subst (λ z. Fits (length ys) z) (sym r.1) (word_small ys bytes)),
      )

  -- four numbers of n bytes, one after the other
  four_stand : (n p p1 p2 p3 a b c d : ℕ) → p1 ≡ p + n → p2 ≡ p1 + n → p3 ≡ p2 + n →
      field n input p ≡ Ok a → field n input p1 ≡ Ok b → field n input p2 ≡ Ok c → field n input p3 ≡ Ok d →
      Stands (word_bytes n a ++ (word_bytes n b ++ (word_bytes n c ++ word_bytes n d))) input p × (Fits n a × Fits n b × Fits n c × Fits n d)
  four_stand n p p1 p2 p3 a b c d e1 e2 e3 fa fb fc fd =
      let (sa, la) = field_stands n p a fa in
      let (sb, lb) = field_stands n p1 b fb in
      let (sc, lc) = field_stands n p2 c fc in
      let (sd, ld) = field_stands n p3 d fd in
      let C : List ℕ = word_bytes n c ++ word_bytes n d in (
        join (word_bytes n a) (word_bytes n b ++ C) input p p1 (omega (arith, word_long n a)) sa
            (join (word_bytes n b) C input p1 p2 (omega (arith, word_long n b)) sb
            (join (word_bytes n c) (word_bytes n d) input p2 p3 (omega (arith, word_long n c)) sc sd)),
        (la, lb, lc, ld),
      )

  record RectangleBack (n p : ℕ) (r : Rectangle ℕ) : Type 0 where
    stand : Stands (rectangle_bytes (word_bytes n) r) input p
    fits : RectangleFits n r
    wide : eqb r.width 0 ≡ false
    high : eqb r.height 0 ≡ false

  rectangle_back : (n p : ℕ) (r : Rectangle ℕ) → rectangle_at n input p ≡ Ok r → RectangleBack n p r
  rectangle_back n p r e =
      let (w, fw, e1) = granted (side_at n input p) _ r (sym e) in
      let (h, fh, e2) = granted (side_at n input (p + n)) _ r e1 in
      let (t, ft, e3) = granted (field n input (p + 2 * n)) _ r e2 in
      let (l, fl, e4) = granted (field n input (p + 3 * n)) _ r e3 in
      let (gw, zw) = side_back input n p w fw in
      let (gh, zh) = side_back input n (p + n) h fh in
      let (s, f) = four_stand n p (p + n) (p + 2 * n) (p + 3 * n) w h t l refl (omega arith) (omega arith) gw gh ft fl in
      subst (λ z. RectangleBack n p z) (sym (same_ok e4)) (record { stand = s; fits = f; wide = zw; high = zh })

  pub byte_stands : (p b c : ℕ) → field 1 input p ≡ Ok b → c ≡ b → Stands (c ∷ []) input p
  byte_stands p b c f e =
      let (s, lt) = field_stands 1 p b f in
      let is : b / 1 % 256 ≡ c = omega arith in
      subst (λ z. Stands (z ∷ []) input p) is s

  flag_back : (p : ℕ) (f : Bool) → flag_at input p ≡ Ok f → Stands (cond f 16 0 ∷ []) input p
  flag_back p f e =
      let (b, fb, e1) = granted (field 1 input p) _ f (sym e) in
      let (lt1, e2) = passed (ltb 0 (b / 32)) ReservedBit p _ f e1 in
      let (lt2, e3) = passed (ltb 0 (b % 16)) PackingType p _ f e2 in
      let h1 : b / 32 ≤ 0 = ltb-false 0 (b / 32) lt1 in
      let h2 : b % 16 ≤ 0 = ltb-false 0 (b % 16) lt2 in
      byte_stands p b (cond f 16 0) fb
      (ap (λ g. cond g 16 0) (same_ok e3)
      ∙ cond_both (eqb (b / 16) 1) 16 0 (λ z. z ≡ b) (λ t. omega (arith, eqb-true (b / 16) 1 t))
      (λ t. let n = eqb-false (b / 16) 1 t in omega arith))

  turn_back : (p t : ℕ) → turn_at input p ≡ Ok t → Stands (t * 32 ∷ []) input p × (t ≤ 7)
  turn_back p t e =
      let (b, fb, e1) = granted (field 1 input p) _ t (sym e) in
      let (lt1, e2) = passed (ltb 0 (b % 32)) ReservedBit p _ t e1 in
      let is : t ≡ b / 32 = same_ok e2 in
      let h1 : b % 32 ≤ 0 = ltb-false 0 (b % 32) lt1 in
      let lt = (field_stands 1 p b fb).1 in
      (byte_stands p b (t * 32) fb (omega arith), omega arith)

  record SizesBack (p : ℕ) (s : FourSides) : Type 0 where
    stand : Stands (s.left ∷ s.right ∷ s.top ∷ s.bottom ∷ []) input p
    fits : Fits 1 s.left × Fits 1 s.right × Fits 1 s.top × Fits 1 s.bottom
    some : all_zero s ≡ false

  sizes_back : (p : ℕ) (s : FourSides) → sizes_at input p ≡ Ok s → SizesBack p s
  sizes_back p s e =
      let (l, fl, e1) = granted (field 1 input p) _ s (sym e) in
      let (r, fr, e2) = granted (field 1 input (p + 1)) _ s e1 in
      let (t, ft, e3) = granted (field 1 input (p + 2)) _ s e2 in
      let (b, fb, e4) = granted (field 1 input (p + 3)) _ s e3 in
      let (z, e5) = passed (all_zero (four_sides l r t b)) BandFault p _ s e4 in
      subst (λ q. SizesBack p q) (sym (same_ok e5)) (record {
        stand =
            join (l ∷ []) (r ∷ t ∷ b ∷ []) input p (p + 1) refl (byte_stands p l l fl refl)
            (join (r ∷ []) (t ∷ b ∷ []) input (p + 1) (p + 2) (omega arith) (byte_stands (p + 1) r r fr refl)
            (join (t ∷ []) (b ∷ []) input (p + 2) (p + 3) (omega arith) (byte_stands (p + 2) t t ft refl) (byte_stands (p + 3) b b fb refl)));
        fits = ((field_stands 1 p l fl).1, (field_stands 1 (p + 1) r fr).1, (field_stands 1 (p + 2) t ft).1, (field_stands 1 (p + 3) b fb).1);
        some = z;
      })

  -- the word of flag and kinds that a word gives is the word again
  abbrev SameWord : ℕ → Type 0
  SameWord k = cond (flag_of k) 32768 0 + k / 4096 % 8 * 4096 + k / 512 % 8 * 512 + k / 64 % 8 * 64 + k / 8 % 8 * 8 ≡ k

  kinds_back : (p k : ℕ) → kinds_at input p ≡ Ok k → Stands (word_bytes 2 k) input p × SameWord k × (over_four (kinds_of k) ≡ false)
  kinds_back p k e =
      let (j, fk, e1) = granted (field 2 input p) _ k (sym e) in
      let (lt1, e2) = passed (ltb 0 (j % 8)) ReservedBit p _ k e1 in
      let (lt2, e3) = passed (over_four (kinds_of j)) BandFault p _ k e2 in
      let is : k ≡ j = same_ok e3 in
      let (st, lt) = field_stands 2 p j fk in
      let h1 : j % 8 ≤ 0 = ltb-false 0 (j % 8) lt1 in (
        subst (λ z. Stands (word_bytes 2 z) input p) (sym is) st,
        groups k (omega arith) (omega arith),
        ap (λ z. over_four (kinds_of z)) is ∙ lt2,
      )

  record BandsBack (p : ℕ) (flag : ℕ) (o : Option GuardBands) : Type 0 where
    stand : Stands (bytes_if o) input p
    flagged : flag_byte o ≡ flag
    fits : SizesFit o
    good : bad_bands o ≡ false

  bands_back : (p : ℕ) (b : GuardBands) → bands_at input p ≡ Ok b → BandsBack p 16 (Some b)
  bands_back p b e =
      let (s, fs, e1) = granted (sizes_at input p) _ b (sym e) in
      let (k, fk, e2) = granted (kinds_at input (p + 4)) _ b e1 in
      let ss = sizes_back p s fs in
      let (st, word, known) = kinds_back (p + 4) k fk in
      let sizes : List ℕ = s.left ∷ s.right ∷ s.top ∷ s.bottom ∷ [] in
      let both : Stands (sizes ++ word_bytes 2 k) input p = join sizes (word_bytes 2 k) input p (p + 4) refl ss.stand st in
      subst (λ z. BandsBack p 16 (Some z)) (sym (same_ok e2)) (record {
        stand = subst (λ w. Stands (sizes ++ word_bytes 2 w) input p) (sym word) both;
        flagged = refl;
        fits = ss.fits;
        good = or_from (all_zero s) (over_four (kinds_of k)) ss.some known;
      })

  if_back : (f : Bool) (p : ℕ) (o : Option GuardBands) → bands_if f input p ≡ Ok o → BandsBack p (cond f 16 0) o
  if_back false p o e =
      subst (λ z. BandsBack p 0 z) (same_ok e) (record { stand = refl; flagged = refl; fits = tt; good = refl })
  if_back true p o e =
      let (b, fb, e1) = granted (bands_at input p) _ o (sym e) in
      subst (λ z. BandsBack p 16 z) (sym (same_ok e1)) (bands_back p b fb)

  -- a row that was read stands in the input, byte for byte, and its numbers fit and are free of faults
  pub record RowBack (p : ℕ) (r : Row) : Type 0 where
    pub stand : Stands (row_bytes r) input p
    pub fits : RowFits r
    pub faultless : Faultless r

  pub row_back : (p : ℕ) (r : Row) → Ok r ≡ row_at input p → RowBack p r
  row_back p r e =
      let (f, ff, e1) = granted (flag_at input p) _ r e in
      let (q, fq, e2) = granted (rectangle_at 4 input (p + 1)) _ r e1 in
      let (t, ft, e3) = granted (turn_at input (p + 17)) _ r e2 in
      let (b, fb, e4) = granted (rectangle_at 2 input (p + 18)) _ r e3 in
      let (o, fo, e5) = granted (bands_if f input (p + 26)) _ r e4 in
      let bo = if_back f (p + 26) o fo in
      let (st, low) = turn_back (p + 17) t ft in
      let bq = rectangle_back 4 (p + 1) q fq in
      let bb = rectangle_back 2 (p + 18) b fb in
      let sf : Stands (flag_byte o ∷ []) input p = subst (λ z. Stands (z ∷ []) input p) (sym bo.flagged) (flag_back p f ff) in
      let rest : List ℕ = (t * 32 ∷ []) ++ (rectangle_bytes (word_bytes 2) b ++ bytes_if o) in
      let sr : Stands rest input (p + 17) =
      join (t * 32 ∷ []) (rectangle_bytes (word_bytes 2) b ++ bytes_if o) input (p + 17) (p + 18) (omega arith) st
      (join (rectangle_bytes (word_bytes 2) b) (bytes_if o) input (p + 18) (p + 26) (omega arith) bb.stand bo.stand) in
      subst (λ z. RowBack p z) (sym (same_ok e5)) (record {
        stand =
            join (flag_byte o ∷ []) (rectangle_bytes (word_bytes 4) q ++ rest) input p (p + 1) refl sf
            (join (rectangle_bytes (word_bytes 4) q) rest input (p + 1) (p + 17) (omega arith) bq.stand sr);
        fits = (bq.fits, bb.fits, bo.fits);
        faultless = record {
          turn = le-ltb 7 t low;
          sides =
              or_from (eqb q.width 0 || eqb q.height 0 || eqb b.width 0) (eqb b.height 0)
              (or_from (eqb q.width 0 || eqb q.height 0) (eqb b.width 0)
              (or_from (eqb q.width 0) (eqb q.height 0) bq.wide bq.high) bb.wide)
              bb.high;
          bands = bo.good;
        };
      })
