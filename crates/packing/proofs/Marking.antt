-- The claim map: rows marked from the last to the first, and what the marks say.
use Rattle.std.proofs.Common.{◌≡◌, ℕ, zero, suc, ◌+◌, ◌<◌, Bool, true, false, cond, eqb, List, [], ◌∷◌, ◌++◌, length, is_some, Some, None, Option, sym, refl, ap, ◌∙◌, ap₂, arith}
use Rattle.std.specs.Option.{option_map}
use Rattle.std.specs.List.{slice_get}
use Rattle.std.proofs.lemmas.Option.{none-some, same_Some}
use Rattle.std.proofs.lemmas.Iterator.Adapters.{option_map_id}
use Rattle.std.proofs.lemmas.Bool.{and_parts, cond-true, cond-false, eqb-true, false≢true, false_from_ne_true}
use Rattle.std.proofs.lemmas.Bool.Decides.{nat_tests}
use Rattle.geometry.specs.declared.place.Place.{Place}
use Rattle.geometry.specs.Boxes.{has, covers, body_box}
use Rattle.geometry.specs.Places.{at, by, inside}
use Rattle.geometry.proofs.Insides.{inside_from}
use Rattle.picture.specs.declared.mark.Mark.{Mark}
use Rattle.picture.specs.declared.mark.Mark.TheVariants.{Nobody, Body, Band}
use Rattle.picture.specs.Picture.{Picture, Sound}
use Rattle.picture.proofs.Pictures.{same_picture}
use Rattle.sheet.specs.declared.row.Row.{Row}
use Rattle.sheet.specs.Claims.{no_reach, widened, claim}
use Rattle.sheet.specs.Rules.{Content}
use Rattle.sheet.specs.Words.{InBody, Facts}
use Rattle.sheet.proofs.Apart.{body_claimed}
use Rattle.packing.specs.Maps.{mark_at, claim_map, Marked, filled, filled_all, marked}
use Rattle.packing.specs.Moves.{holds, is_packed}
use Rattle.packing.proofs.Filling.{box}

-- a body's box has the places that the body holds
pub body_has : (r : Row) (q : Place) → has (widened r.body no_reach) q.y q.x ≡ holds r q
body_has r q = grind (arith, nat_tests)

-- and so has the box that is filled
box_has : (r : Row) (q : Place) → has (body_box r.body) q.y q.x ≡ holds r q
box_has r q = grind (arith, nat_tests)

two_marks : (b e : Bool) (o : Option Mark) (body band : Mark) →
    cond b (option_map (λ (m : Mark). body) (cond e (option_map (λ (m : Mark). band) o) o)) (cond e (option_map (λ (m : Mark). band) o) o) ≡
    option_map (λ (m : Mark). cond b body (cond e band m)) o
two_marks true true None body band = refl
two_marks true true (Some m) body band = refl
two_marks true false None body band = refl
two_marks true false (Some m) body band = refl
two_marks false true None body band = refl
two_marks false true (Some m) body band = refl
two_marks false false None body band = refl
two_marks false false (Some m) body band = refl

-- a row's bands, and its body over them
pub row_marked : (p : Picture Mark) (n : ℕ) (r : Row) →
    filled (filled_all p (claim r) (Band n)) (body_box r.body) (Body n) ≡ marked n (r ∷ []) p
row_marked p n r =
    same_picture _ _ refl
    (λ q.
    let e : Bool = covers (claim r) q.y q.x in
    let o : Option Mark = p.at q in
    ap (λ b. cond b (option_map (λ (m : Mark). Body n) (cond e (option_map (λ (m : Mark). Band n) o) o)) (cond e (option_map (λ (m : Mark). Band n) o) o))
    (box_has r q)
    ∙ two_marks (holds r q) e o (Body n) (Band n))

-- no row marks nothing
pub marked_none : (p : Picture Mark) (n : ℕ) → marked n [] p ≡ p
marked_none p n = same_picture _ _ refl (λ q. option_map_id (p.at q))

mark_last : (n k : ℕ) (rows : List Row) (r : Row) (q : Place) (old : Mark) → k ≡ n + length rows →
    mark_at n rows q (mark_at k (r ∷ []) q old) ≡ mark_at n (rows ++ r ∷ []) q old
mark_last n k [] r q old e = let same : k ≡ n = omega arith in ap (λ m. mark_at m (r ∷ []) q old) same
mark_last n k (s ∷ rows) r q old e =
    ap (λ m. cond (holds s q) (Body n) (cond (covers (claim s) q.y q.x) (Band n) m)) (mark_last (n + 1) k rows r q old (omega arith))

-- the last row first, and then those before it
pub marked_last : (p : Picture Mark) (n k : ℕ) (rows : List Row) (r : Row) → k ≡ n + length rows →
    marked n rows (marked k (r ∷ []) p) ≡ marked n (rows ++ r ∷ []) p
marked_last p n k rows r e = same_picture _ _ refl (λ q. both q (p.at q))
  where
    both : (q : Place) (o : Option Mark) →
        option_map (mark_at n rows q) (option_map (mark_at k (r ∷ []) q) o) ≡ option_map (mark_at n (rows ++ r ∷ []) q) o
    both q None = refl
    both q (Some m) = ap Some (mark_last n k rows r q m e)

cleared : (t : Bool) (o : Option Mark) (f : Mark → Mark) → is_some o ≡ t →
    option_map f (cond t (option_map (λ (m : Mark). Nobody) o) o) ≡ cond t (Some (f Nobody)) None
cleared true None f e = absurd (false≢true e)
cleared false None f e = refl
cleared true (Some m) f e = refl
cleared false (Some m) f e = absurd (false≢true (sym e))

whole_has : (w h : ℕ) (q : Place) → has (box 0 h 0 w) q.y q.x ≡ inside (by w h) q
whole_has w h q = grind (arith, nat_tests)

-- all rows over a map of nobody's are the sheet's claim map
pub map_is : (c : Content) (p : Picture Mark) → Sound p → is_packed c p ≡ true →
    marked 0 c.rows (filled p (box 0 c.sides.packed.height 0 c.sides.packed.width) Nobody) ≡ claim_map c
map_is c p sound fits =
    same_picture _ _ sides
    (λ q.
    ap (λ t. option_map (mark_at 0 c.rows q) (cond t (option_map (λ (m : Mark). Nobody) (p.at q)) (p.at q))) (whole_has w h q)
    ∙ cleared (inside (by w h) q) (p.at q) (mark_at 0 c.rows q) (sound.full q ∙ ap (λ s. inside s q) sides))
  where
    w : ℕ
    w = c.sides.packed.width

    h : ℕ
    h = c.sides.packed.height

    sides : p.sides ≡ by w h
    sides =
        let (a, d) = and_parts (eqb p.sides.width w) (eqb p.sides.height h) fits in
        ap₂ by (eqb-true p.sides.width w a) (eqb-true p.sides.height h d)

held_claimed : (r : Row) (q : Place) → holds r q ≡ true → covers (claim r) q.y q.x ≡ true
held_claimed r q h = body_claimed r q.y q.x (body_has r q ∙ h)

-- the mark of a place that a row is the first to claim
mark_of : (m : ℕ) (rows : List Row) (n : ℕ) (r : Row) (q : Place) (old : Mark) → slice_get rows n ≡ Some r →
    covers (claim r) q.y q.x ≡ true →
    ((k : ℕ) (s : Row) → k < n → slice_get rows k ≡ Some s → covers (claim s) q.y q.x ≡ true → ⊥) →
    mark_at m rows q old ≡ cond (holds r q) (Body (m + n)) (Band (m + n))
mark_of m [] n r q old e claims first = absurd (none-some r e)
mark_of m (s ∷ rows) zero r q old e claims first =
    let same : s ≡ r = same_Some s r e in
    let here : m ≡ m + 0 = omega arith in
    ap (λ x. cond (holds s q) (Body m) x) (cond-true _ _ _ (ap (λ (t : Row). covers (claim t) q.y q.x) same ∙ claims))
    ∙ (λ i. cond (holds (same i) q) (Body (here i)) (Band (here i)))
mark_of m (s ∷ rows) (suc n) r q old e claims first =
    let on : m + 1 + n ≡ m + suc n = omega arith in
    cond-false _ _ _ (false_from_ne_true (holds s q) (λ t. first zero s (omega arith) refl (held_claimed s q t)))
    ∙ cond-false _ _ _ (false_from_ne_true (covers (claim s) q.y q.x) (first zero s (omega arith) refl))
    ∙ mark_of (m + 1) rows n r q old e claims (λ k t lt. first (suc k) t (omega arith))
    ∙ ap (λ k. cond (holds r q) (Body k) (Band k)) on

mark_none : (m : ℕ) (rows : List Row) (q : Place) (old : Mark) →
    ((n : ℕ) (r : Row) → slice_get rows n ≡ Some r → covers (claim r) q.y q.x ≡ true → ⊥) → mark_at m rows q old ≡ old
mark_none m [] q old none = refl
mark_none m (s ∷ rows) q old none =
    cond-false _ _ _ (false_from_ne_true (holds s q) (λ t. none zero s refl (held_claimed s q t)))
    ∙ cond-false _ _ _ (false_from_ne_true (covers (claim s) q.y q.x) (none zero s refl))
    ∙ mark_none (m + 1) rows q old (λ n r e. none (suc n) r e)

-- the claim map in words
pub map_words : (c : Content) → Facts c → Marked c (claim_map c)
map_words c facts y x wide high =
    record {
      body = λ n b.
          shown ∙ ap Some (first n b.row b.numbered (held_claimed b.row q (held b)) ∙ cond-true _ _ _ (held b) ∙ ap Body (from_zero n));
      band = λ n k off.
          shown ∙ ap Some (first n k.row k.numbered k.within
          ∙ cond-false _ _ _ (false_from_ne_true (holds k.row q) (λ t. off (record { row = k.row; numbered = k.numbered; within = body_has k.row q ∙ t })))
          ∙ ap Band (from_zero n));
      nobody = λ none.
          shown ∙ ap Some (mark_none 0 c.rows q Nobody (λ n r e t. none n (record { row = r; numbered = e; within = t })));
    }
  where
    q : Place
    q = at x y

    shown : (claim_map c).at q ≡ Some (mark_at 0 c.rows q Nobody)
    shown = cond-true _ _ _ (inside_from (by c.sides.packed.width c.sides.packed.height) q wide high)

    from_zero : (n : ℕ) → 0 + n ≡ n
    from_zero n = omega arith

    held : {n : ℕ} (b : InBody c.rows n y x) → holds b.row q ≡ true
    held b = sym (body_has b.row q) ∙ b.within

    first : (n : ℕ) (r : Row) → slice_get c.rows n ≡ Some r → covers (claim r) y x ≡ true →
        mark_at 0 c.rows q Nobody ≡ cond (holds r q) (Body (0 + n)) (Band (0 + n))
    first n r e t =
        mark_of 0 c.rows n r q Nobody e t
        (λ k s lt f g.
        let same : k ≡ n =
        facts.once k n y x (record { row = s; numbered = f; within = g }) (record { row = r; numbered = e; within = t }) in
        omega arith)
