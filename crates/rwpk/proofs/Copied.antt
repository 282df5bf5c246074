-- A box that is written part by part, and a box that is copied.
use Rattle.std.proofs.Common.{◌≡◌, ℕ, zero, suc, ◌+◌, ◌*◌, ◌<◌, ◌≤◌, List, [], ◌∷◌, ◌++◌, map, length, get_or, take, drop, Ok, Err, Result, sym, refl, ap, ◌∙◌, append_assoc, arith, length-append, length-drop}
use Rattle.std.specs.List.{flat_map}
use Rattle.std.proofs.lemmas.List.{take_more, take-take, append-nil, length-map}
use Rattle.std.proofs.lemmas.Bool.{cond-false, le-ltb}
use Rattle.refusal.specs.declared.Refusal.{Refusal}
use Rattle.sheet.specs.declared.row.Row.{Row}
use Rattle.sheet.specs.Rules.{Content}
use Rattle.rwpk.specs.Boxes.{box_of_bytes}
use Rattle.rwpk.specs.Bytes.{word_bytes, head_bytes, row_bytes, rows_bytes, box_of}
use Rattle.rwpk.specs.Laws.{Bytes}
use Rattle.rwpk.specs.Parts.{parts, part_at, parts_before, place_of}
use Rattle.rwpk.specs.Writing.{put_at, part_answer, copied, copy_answer}
use Rattle.rwpk.proofs.BoxBack.{box_back}
use Rattle.rwpk.proofs.Laying.{row_length_le}
use Rattle.rwpk.proofs.Parted.{row_long, parts_end, all_parts}
use Rattle.rwpk.proofs.Puts.{put_next}

joined_push : (xs : List (List ℕ)) (x : List ℕ) → flat_map (λ part. part) (xs ++ x ∷ []) ≡ flat_map (λ part. part) xs ++ x
joined_push [] x = append-nil x
joined_push (y ∷ xs) x = ap (λ zs. y ++ zs) (joined_push xs x) ∙ sym (append_assoc y (flat_map (λ part. part) xs) x)

prefix_le : (k : ℕ) (xs : List (List ℕ)) → length (flat_map (λ part. part) (take k xs)) ≤ length (flat_map (λ part. part) xs)
prefix_le zero xs = omega arith
prefix_le (suc k) [] = omega arith
prefix_le (suc k) (x ∷ xs) = simp length-append (omega (arith, prefix_le k xs))

row_short : (rows : List Row) (k : ℕ) → length (get_or (map row_bytes rows) k []) ≤ 32
row_short [] k = omega arith
row_short (r ∷ rows) zero = omega (arith, row_long r, row_length_le r)
row_short (r ∷ rows) (suc k) = row_short rows k

part_short : (c : Content) (k : ℕ) → length (part_at c k) ≤ 32
part_short c zero = omega arith
part_short c (suc k) = row_short c.rows k

module _ (c : Content) (k : ℕ) (h : k ≤ length c.rows) where
  pub parts_next : parts_before c (k + 1) ≡ parts_before c k ++ part_at c k
  parts_next =
      let long : k < length (parts c) = simp length-map (omega arith) in
      ap (flat_map (λ part. part)) (take_more (parts c) k [] long) ∙ joined_push (take k (parts c)) (part_at c k)

  pub place_next : place_of c (k + 1) ≡ place_of c k + length (part_at c k)
  place_next = ap length parts_next ∙ length-append (parts_before c k) (part_at c k)

  -- a part ends where the box does, or before
  pub within : place_of c k + length (part_at c k) ≤ length (box_of c)
  within =
      let n : ℕ = suc (length c.rows) in
      let same : take (k + 1) (take n (parts c)) ≡ take (k + 1) (parts c) = take-take (k + 1) n (parts c) (omega arith) in
      omega (arith, place_next, prefix_le (k + 1) (take n (parts c)), ap (λ ps. length (flat_map (λ part. part) ps)) same, parts_end c)

-- one more part, in a buffer that begins with those before it
module _
    (c : Content) (out now : List ℕ) (k p : ℕ) (h : k ≤ length c.rows) (room : length (box_of c) ≤ length out)
    (e : now ≡ put_at out 0 (parts_before c k)) (at : p ≡ place_of c k)
  where
    now_long : length now ≡ length out
    now_long =
        ap length e
        ∙ length-append (parts_before c k) (drop (0 + length (parts_before c k)) out)
        ∙ ap (λ n. length (parts_before c k) + n) (length-drop (0 + length (parts_before c k)) out)
        ∙ omega (arith, within c k h)

    granted : part_answer c k now p ≡ Ok (length (part_at c k))
    granted =
        cond-false _ _ _ (le-ltb (length c.rows) k h)
        ∙ cond-false _ _ _ (le-ltb (length now) (p + length (part_at c k)) (omega (arith, now_long, within c k h)))

    pub never : (why : Refusal) → Err why ≡ part_answer c k now p → ⊥
    never why is =
        let f : ◌≡◌ {A = Result ℕ Refusal} (Err why) (Ok (length (part_at c k))) = is ∙ granted in
        let z : ◌≡◌ {A = ℕ} 0 1 = cc in omega arith

    pub one_more : (size : ℕ) (new : List ℕ) → Ok size ≡ part_answer c k now p → new ≡ put_at now p (part_at c k) → p ≤ 32 * k →
        (new ≡ put_at out 0 (parts_before c (k + 1))) × (p + size ≡ place_of c (k + 1)) × (p + size ≤ 32 * (k + 1))
    one_more size new is put few =
        let f : ◌≡◌ {A = Result ℕ Refusal} (Ok size) (Ok (length (part_at c k))) = is ∙ granted in
        let s : size ≡ length (part_at c k) = cc in (
          put_next out 0 p (parts_before c k) (part_at c k) e put refl (omega (arith, at)) (omega (arith, within c k h))
              ∙ ap (put_at out 0) (sym (parts_next c k h)),
          omega (arith, place_next c k h),
          omega (arith, part_short c k),
        )

-- the size over the first four bytes makes the parts the box
pub sealed : (c : Content) (out now new size : List ℕ) (k p : ℕ) → k ≡ suc (length c.rows) → now ≡ put_at out 0 (parts_before c k) →
    p ≡ place_of c k → size ≡ word_bytes 4 p → new ≡ put_at now 0 size → (p ≡ length (box_of c)) × (new ≡ put_at out 0 (box_of c))
sealed c out now new size k p last e at is put =
    let all : List ℕ = head_bytes 0 (length c.rows) c.sides ++ rows_bytes c.rows in
    let end : p ≡ length (box_of c) = at ∙ ap (place_of c) last ∙ parts_end c in
    let long : p ≡ 26 + length (rows_bytes c.rows) = omega (arith, end) in
    let was : now ≡ put_at out 0 all = e ∙ ap (λ n. put_at out 0 (parts_before c n)) last ∙ ap (put_at out 0) (all_parts c) in (
      end,
      put
          ∙ ap (λ ys. put_at ys 0 size) was
          ∙ ap (put_at (put_at out 0 all) 0) (is ∙ ap (word_bytes 4) long),
    )

-- a box that is read is that of the sheet that it is read onto
module _ (input : List ℕ) (small : Bytes input) (m : Content) (e : Ok m ≡ box_of_bytes input) where
  pub same_box : box_of m ≡ input
  same_box = sym (box_back input small m e).1

  pub copies : (out : List ℕ) (size : ℕ) → length input ≤ length out → size ≡ length (box_of m) → Ok size ≡ copy_answer input out
  copies out size le is =
      ap Ok (is ∙ ap length same_box)
      ∙ sym (ap (λ r. copied r input out) (sym e) ∙ cond-false _ _ _ (le-ltb (length out) (length input) le))
