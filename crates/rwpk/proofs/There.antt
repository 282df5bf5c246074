-- The bytes of a row read back to it.
use Rattle.std.proofs.Common.{◌≡◌, ℕ, ◌+◌, ◌*◌, ◌/◌, ◌%◌, ◌<◌, ◌≤◌, Bool, true, false, cond, ◌||◌, eqb, ltb, List, [], ◌∷◌, ◌++◌, length, take, drop, is_some, Some, None, Ok, Option, sym, refl, ap, ◌∙◌, subst, mod-eq_of_lt, arith}
use Rattle.std.proofs.lemmas.Bool.{ne_eqb, eq-eqb, le-ltb, ltb-false, or_parts}
use Rattle.refusal.specs.declared.Refusal.TheVariants.{EmptySide, ReservedBit, GuardBands as BandFault}
use Rattle.geometry.specs.declared.place.Rectangle.{Rectangle}
use Rattle.sheet.specs.declared.row.FourSides.{FourSides}
use Rattle.sheet.specs.declared.row.GuardBands.{GuardBands}
use Rattle.sheet.specs.declared.row.Row.{Row}
use Rattle.sheet.specs.Rules.{all_zero, over_four, bad_bands}
use Rattle.rwpk.specs.Bytes.{word_bytes, rectangle_bytes, bands_bytes, bytes_if, flag_byte, row_bytes, kinds_word}
use Rattle.rwpk.specs.Fields.{word_of, field}
use Rattle.rwpk.specs.Laws.{Fits, RectangleFits, SizesFit, RowFits}
use Rattle.rwpk.specs.Loading.{Faultless}
use Rattle.rwpk.specs.Rows.{side_at, flag_at, rectangle_at, turn_at, four_sides, sizes_at, flag_of, kinds_of, kinds_at, bands_at, bands_if, row_at}
use Rattle.rwpk.proofs.Chains.{read, pass}
use Rattle.rwpk.proofs.Numbers.{word_long, word_there}
use Rattle.rwpk.proofs.Reading.{field_ok}
use Rattle.rwpk.proofs.Stands.{Stands, split, room}

-- the groups of bits in the word of flag and kinds
record Groups (f : Bool) (k : FourSides) (word : ℕ) : Type 0 where
  below : word < 65536
  rest : word % 8 ≤ 0
  flag : flag_of word ≡ f
  one : word / 4096 % 8 ≡ k.left
  two : word / 512 % 8 ≡ k.right
  three : word / 64 % 8 ≡ k.top
  four : word / 8 % 8 ≡ k.bottom

-- four kinds that there are
record Known (k : FourSides) : Type 0 where
  left : k.left ≤ 4
  right : k.right ≤ 4
  top : k.top ≤ 4
  bottom : k.bottom ≤ 4

known : (k : FourSides) → over_four k ≡ false → Known k
known k e =
    let (three, last) = or_parts (ltb 4 k.left || ltb 4 k.right || ltb 4 k.top) (ltb 4 k.bottom) e in
    let (two, third) = or_parts (ltb 4 k.left || ltb 4 k.right) (ltb 4 k.top) three in
    let (first, second) = or_parts (ltb 4 k.left) (ltb 4 k.right) two in
    record {
      left = ltb-false 4 k.left first;
      right = ltb-false 4 k.right second;
      top = ltb-false 4 k.top third;
      bottom = ltb-false 4 k.bottom last;
    }

groups : (f : Bool) (k : FourSides) → Known k →
    Groups f k (cond f 32768 0 + k.left * 4096 + k.right * 512 + k.top * 64 + k.bottom * 8)
groups true k h =
    let l = h.left in
    let r = h.right in
    let t = h.top in
    let b = h.bottom in
    let w : ℕ = 32768 + k.left * 4096 + k.right * 512 + k.top * 64 + k.bottom * 8 in
    record {
      below = omega arith;
      rest = omega arith;
      flag = eq-eqb (w / 32768) 1 (omega arith);
      one = omega arith;
      two = omega arith;
      three = omega arith;
      four = omega arith;
    }
groups false k h =
    let l = h.left in
    let r = h.right in
    let t = h.top in
    let b = h.bottom in
    let w : ℕ = 0 + k.left * 4096 + k.right * 512 + k.top * 64 + k.bottom * 8 in
    record {
      below = omega arith;
      rest = omega arith;
      flag = ne_eqb (w / 32768) 1 (let z : w / 32768 ≡ 0 = omega arith in λ e. omega arith);
      one = omega arith;
      two = omega arith;
      three = omega arith;
      four = omega arith;
    }

module _ (input : List ℕ) where
  pub field_there : (n p x : ℕ) → 0 < n → Fits n x → Stands (word_bytes n x) input p → field n input p ≡ Ok x
  field_there n p x h lt s =
      let fits : p + n ≤ length input = omega (arith, room (word_bytes n x) input p (omega (arith, word_long n x)) s, word_long n x) in
      field_ok n input p fits
      ∙ ap Ok (ap word_of (ap (λ k. take k (drop p input)) (sym (word_long n x)) ∙ s) ∙ word_there n x ∙ mod-eq_of_lt lt)

  pub side_there : (n p x : ℕ) → 0 < n → Fits n x → eqb x 0 ≡ false → Stands (word_bytes n x) input p → side_at n input p ≡ Ok x
  side_there n p x h lt some s =
      read (field n input p) _ x _ (field_there n p x h lt s) (pass (eqb x 0) EmptySide p (Ok x) _ some refl)

  pub byte_there : (p x : ℕ) → Fits 1 x → Stands (x ∷ []) input p → field 1 input p ≡ Ok x
  byte_there p x lt s =
      let is : x ≡ x / 1 % 256 = omega arith in
      field_there 1 p x (omega arith) lt (subst (λ z. Stands (z ∷ []) input p) is s)

  -- four numbers of n bytes, of which the first two are a width and a height
  record Four (n p p1 p2 p3 a b c d : ℕ) : Type 0 where
    one : side_at n input p ≡ Ok a
    two : side_at n input p1 ≡ Ok b
    three : field n input p2 ≡ Ok c
    four : field n input p3 ≡ Ok d

  four_there : (n p p1 p2 p3 a b c d : ℕ) → 0 < n → p1 ≡ p + n → p2 ≡ p1 + n → p3 ≡ p2 + n →
      Fits n a × Fits n b × Fits n c × Fits n d → eqb a 0 ≡ false → eqb b 0 ≡ false →
      Stands (word_bytes n a ++ (word_bytes n b ++ (word_bytes n c ++ word_bytes n d))) input p → Four n p p1 p2 p3 a b c d
  four_there n p p1 p2 p3 a b c d h e1 e2 e3 (la, lb, lc, ld) za zb s =
      let C : List ℕ = word_bytes n c ++ word_bytes n d in
      let (sa, s1) = split (word_bytes n a) (word_bytes n b ++ C) input p p1 (omega (arith, word_long n a)) s in
      let (sb, s2) = split (word_bytes n b) C input p1 p2 (omega (arith, word_long n b)) s1 in
      let (sc, sd) = split (word_bytes n c) (word_bytes n d) input p2 p3 (omega (arith, word_long n c)) s2 in
      record {
        one = side_there n p a h la za sa;
        two = side_there n p1 b h lb zb sb;
        three = field_there n p2 c h lc sc;
        four = field_there n p3 d h ld sd;
      }

  rectangle_there : (n p : ℕ) (r : Rectangle ℕ) → 0 < n → RectangleFits n r → eqb r.width 0 ≡ false → eqb r.height 0 ≡ false →
      Stands (rectangle_bytes (word_bytes n) r) input p → rectangle_at n input p ≡ Ok r
  rectangle_there n p r h fit zw zh s =
      let f = four_there n p (p + n) (p + 2 * n) (p + 3 * n) r.width r.height r.top r.left h refl (omega arith) (omega arith)
      fit zw zh s in
      read (side_at n input p) _ r.width _ f.one
      (read (side_at n input (p + n)) _ r.height _ f.two
      (read (field n input (p + 2 * n)) _ r.top _ f.three (read (field n input (p + 3 * n)) _ r.left _ f.four refl)))

  flag_there : (o : Option GuardBands) (p : ℕ) → Stands (flag_byte o ∷ []) input p → flag_at input p ≡ Ok (is_some o)
  flag_there None p s = read (field 1 input p) _ 0 _ (byte_there p 0 (omega arith) s) refl
  flag_there (Some g) p s = read (field 1 input p) _ 16 _ (byte_there p 16 (omega arith) s) refl

  turn_there : (p t : ℕ) → t ≤ 7 → Stands (t * 32 ∷ []) input p → turn_at input p ≡ Ok t
  turn_there p t h s =
      let back : t * 32 / 32 ≡ t = omega arith in
      read (field 1 input p) _ (t * 32) _ (byte_there p (t * 32) (omega arith) s)
      (pass (ltb 0 (t * 32 % 32)) ReservedBit p _ _ (le-ltb 0 (t * 32 % 32) (omega arith)) (ap Ok back))

  sizes_there : (p : ℕ) (z : FourSides) → Fits 1 z.left × Fits 1 z.right × Fits 1 z.top × Fits 1 z.bottom → all_zero z ≡ false →
      Stands (z.left ∷ z.right ∷ z.top ∷ z.bottom ∷ []) input p → sizes_at input p ≡ Ok z
  sizes_there p z (ll, lr, lt, lb) some s =
      let (sl, s1) = split (z.left ∷ []) (z.right ∷ z.top ∷ z.bottom ∷ []) input p (p + 1) refl s in
      let (sr, s2) = split (z.right ∷ []) (z.top ∷ z.bottom ∷ []) input (p + 1) (p + 2) (omega arith) s1 in
      let (st, sb) = split (z.top ∷ []) (z.bottom ∷ []) input (p + 2) (p + 3) (omega arith) s2 in
      read (field 1 input p) _ z.left _ (byte_there p z.left ll sl)
      (read (field 1 input (p + 1)) _ z.right _ (byte_there (p + 1) z.right lr sr)
      (read (field 1 input (p + 2)) _ z.top _ (byte_there (p + 2) z.top lt st)
      (read (field 1 input (p + 3)) _ z.bottom _ (byte_there (p + 3) z.bottom lb sb) (pass (all_zero z) BandFault p _ _ some refl))))

  bands_there : (p : ℕ) (g : GuardBands) → SizesFit (Some g) → bad_bands (Some g) ≡ false →
      Stands (bands_bytes g) input p → bands_at input p ≡ Ok g
  bands_there p g fit good s =
      let word : ℕ = kinds_word g in
      let sizes : List ℕ = g.sizes.left ∷ g.sizes.right ∷ g.sizes.top ∷ g.sizes.bottom ∷ [] in
      let (some, four) = or_parts (all_zero g.sizes) (over_four g.kinds) good in
      let w = groups g.prediction g.kinds (known g.kinds four) in
      let (sz, sk) = split sizes (word_bytes 2 word) input p (p + 4) refl s in
      let kinds : kinds_of word ≡ g.kinds =
      ap (λ l. four_sides l (word / 512 % 8) (word / 64 % 8) (word / 8 % 8)) w.one
      ∙ ap (λ r. four_sides g.kinds.left r (word / 64 % 8) (word / 8 % 8)) w.two
      ∙ ap (λ t. four_sides g.kinds.left g.kinds.right t (word / 8 % 8)) w.three
      ∙ ap (λ b. four_sides g.kinds.left g.kinds.right g.kinds.top b) w.four in
      let there : kinds_at input (p + 4) ≡ Ok word =
      read (field 2 input (p + 4)) _ word _ (field_there 2 (p + 4) word (omega arith) w.below sk)
      (pass (ltb 0 (word % 8)) ReservedBit (p + 4) _ _ (le-ltb 0 (word % 8) w.rest)
      (pass (over_four (kinds_of word)) BandFault (p + 4) _ _ (ap over_four kinds ∙ four) refl)) in
      read (sizes_at input p) _ g.sizes _ (sizes_there p g.sizes fit some sz)
      (read (kinds_at input (p + 4)) _ word _ there
      (ap (λ f. Ok (record { sizes = g.sizes; prediction = f; kinds = kinds_of word })) w.flag
      ∙ ap (λ k. Ok (record { sizes = g.sizes; prediction = g.prediction; kinds = k })) kinds))

  if_there : (o : Option GuardBands) (p : ℕ) → SizesFit o → bad_bands o ≡ false →
      Stands (bytes_if o) input p → bands_if (is_some o) input p ≡ Ok o
  if_there None p fit good s = refl
  if_there (Some g) p fit good s = read (bands_at input p) _ g _ (bands_there p g fit good s) refl

  pub row_there : (p : ℕ) (r : Row) → RowFits r → Faultless r → Stands (row_bytes r) input p → row_at input p ≡ Ok r
  row_there p r (fp, fb, fg) free s =
      let P : List ℕ = rectangle_bytes (word_bytes 4) r.projected in
      let B : List ℕ = rectangle_bytes (word_bytes 2) r.body in
      let G : List ℕ = bytes_if r.bands in
      let (sf, s1) = split (flag_byte r.bands ∷ []) (P ++ ((r.turn * 32 ∷ []) ++ (B ++ G))) input p (p + 1) refl s in
      let (sp, s2) = split P ((r.turn * 32 ∷ []) ++ (B ++ G)) input (p + 1) (p + 17) (omega arith) s1 in
      let (st, s3) = split (r.turn * 32 ∷ []) (B ++ G) input (p + 17) (p + 18) (omega arith) s2 in
      let (sb, sg) = split B G input (p + 18) (p + 26) (omega arith) s3 in
      let q : Bool = eqb r.projected.width 0 in
      let h : Bool = eqb r.projected.height 0 in
      let w : Bool = eqb r.body.width 0 in
      let (three, zh) = or_parts (q || h || w) (eqb r.body.height 0) free.sides in
      let (two, zw) = or_parts (q || h) w three in
      let (zq, zs) = or_parts q h two in
      read (flag_at input p) _ (is_some r.bands) _ (flag_there r.bands p sf)
      (read (rectangle_at 4 input (p + 1)) _ r.projected _ (rectangle_there 4 (p + 1) r.projected (omega arith) fp zq zs sp)
      (read (turn_at input (p + 17)) _ r.turn _ (turn_there (p + 17) r.turn (ltb-false 7 r.turn free.turn) st)
      (read (rectangle_at 2 input (p + 18)) _ r.body _ (rectangle_there 2 (p + 18) r.body (omega arith) fb zw zh sb)
      (read (bands_if (is_some r.bands) input (p + 26)) _ r.bands _ (if_there r.bands (p + 26) fg free.bands sg) refl))))
