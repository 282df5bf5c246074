-- A stretch of a line that is written place after place, piece after piece, or at once where the source keeps it together.
use Rattle.std.proofs.Common.{◌≡◌, ℕ, ◌+◌, ◌-◌, ◌^◌, ◌<◌, ◌≤◌, Bool, true, false, cond, eqb, ltb, leb, is_some, Some, None, Option, sym, refl, ap, ◌∙◌, ap₂, arith}
use Rattle.std.specs.Option.{option_map}
use Rattle.std.proofs.lemmas.Bool.{false_from_ne_true, and_parts, and_from, eqb-true, eq-eqb, leb-true, le-leb, ltb-true, lt-ltb, both_ways, cond-false}
use Rattle.std.proofs.lemmas.Bool.Decides.{nat_tests}
use Rattle.geometry.specs.declared.place.Place.{Place}
use Rattle.geometry.specs.declared.place.Sides.{Sides}
use Rattle.geometry.specs.Boxes.{lies}
use Rattle.geometry.specs.Places.{at, inside}
use Rattle.geometry.proofs.Insides.{within, inside_from}
use Rattle.picture.specs.Picture.{Picture, Sound, same_place, painted, shown_by}
use Rattle.picture.specs.Kept.{UnshownSame}
use Rattle.picture.specs.Laws.{Inverse, Together}
use Rattle.picture.specs.Lines.{on_stretch, lined}
use Rattle.picture.proofs.Pictures.{same_picture, some_mapped}

-- what the test of a stretch says
pub record On (lo n k : ℕ) : Type 0 where
  pub from : lo ≤ k
  pub before : k < lo + n

pub lies_on : (lo n k : ℕ) → lies lo (lo + n) k ≡ true → On lo n k
lies_on lo n k t =
    let (a, b) = and_parts (leb lo k) (ltb k (lo + n)) t in
    record { from = leb-true lo k a; before = ltb-true k (lo + n) b }

pub on_lies : (lo n k : ℕ) → lo ≤ k → k < lo + n → lies lo (lo + n) k ≡ true
on_lies lo n k a b = and_from _ _ (le-leb lo k a) (lt-ltb k (lo + n) b)

pub record OnStretch (place : Place) (n : ℕ) (q : Place) : Type 0 where
  pub line : q.y ≡ place.y
  pub from : place.x ≤ q.x
  pub before : q.x < place.x + n

pub stretch_on : (place : Place) (n : ℕ) (q : Place) → on_stretch place n q ≡ true → OnStretch place n q
stretch_on place n q t =
    let (a, b) = and_parts (eqb q.y place.y) (lies place.x (place.x + n) q.x) t in
    let on : On place.x n q.x = lies_on place.x n q.x b in
    record { line = eqb-true q.y place.y a; from = on.from; before = on.before }

pub on_stretch_from : (place : Place) (n : ℕ) (q : Place) → OnStretch place n q → on_stretch place n q ≡ true
on_stretch_from place n q on =
    and_from _ _ (eq-eqb q.y place.y on.line) (on_lies place.x n q.x on.from on.before)

-- the coordinates of a place inside fit 32 bits
pub place_fits : {A : Type 0} (p : Picture A) (q : Place) → Sound p → inside p.sides q ≡ true → (q.x < 2 ^ 32) × (q.y < 2 ^ 32)
place_fits p q sound h =
    let i = within p.sides q h in
    let w : p.sides.width < 2 ^ 32 = sound.across in
    let d : p.sides.height < 2 ^ 32 = sound.down in
    (omega (arith, i.across), omega (arith, i.down))

module _ {A : Type 0} where
  more_at : (e b c : Bool) (u o : Option A) (v : A) → (e ≡ true → (c ≡ true) × (u ≡ Some v) × (is_some (cond b u o) ≡ true)) →
      (e ≡ false → b ≡ c) → cond e (option_map (λ _. v) (cond b u o)) (cond b u o) ≡ cond c u o
  more_at true b c u o v h k =
      some_mapped (cond b u o) v (h refl).2 ∙ sym (h refl).1 ∙ ap (λ a. cond a u o) (sym (h refl).0)
  more_at false b c u o v h k = ap (λ a. cond a u o) (k refl)

  -- one place more
  pub lined_more : (p : Picture A) (place : Place) (n : ℕ) (f : ℕ → Option A) (v : A) → Sound (lined p place n f) →
      place.x + n < p.sides.width → place.y < p.sides.height → f n ≡ Some v →
      painted (lined p place n f) (at (place.x + n) place.y) v ≡ lined p place (n + 1) f
  lined_more p place n f v sound hx hy here =
      same_picture _ _ refl
      (λ q. more_at (same_place q (at (place.x + n) place.y)) (on_stretch place n q) (on_stretch place (n + 1) q) (f (q.x - place.x))
      (p.at q) v
      (λ t.
      let (a, b) = and_parts (eqb q.x (place.x + n)) (eqb q.y place.y) t in
      let ex : q.x ≡ place.x + n = eqb-true q.x (place.x + n) a in
      let ey : q.y ≡ place.y = eqb-true q.y place.y b in
      let number : q.x - place.x ≡ n = omega arith in (
        on_stretch_from place (n + 1) q (record { line = ey; from = omega arith; before = omega arith }),
        ap f number ∙ here,
        sound.full q ∙ inside_from p.sides q (omega arith) (omega arith),
      ))
      (λ t. grind (arith, nat_tests)))

  piece_at : (e r s : Bool) (u w o : Option A) → (e ≡ true → (s ≡ true) × (u ≡ w)) → (e ≡ false → r ≡ s) →
      cond e u (cond r w o) ≡ cond s w o
  piece_at true r s u w o h k = (h refl).1 ∙ ap (λ b. cond b w o) (sym (h refl).0)
  piece_at false r s u w o h k = ap (λ b. cond b w o) (k refl)

  -- one piece more
  pub lined_then : (p : Picture A) (place : Place) (s n : ℕ) (f : ℕ → Option A) →
      lined (lined p place s f) (at (place.x + s) place.y) n (λ i. f (s + i)) ≡ lined p place (s + n) f
  lined_then p place s n f =
      same_picture _ _ refl
      (λ q. piece_at (on_stretch (at (place.x + s) place.y) n q) (on_stretch place s q) (on_stretch place (s + n) q)
      (f (s + (q.x - (place.x + s)))) (f (q.x - place.x)) (p.at q)
      (λ t.
      let on = stretch_on (at (place.x + s) place.y) n q t in
      let line : q.y ≡ place.y = on.line in
      let lo : place.x + s ≤ q.x = on.from in
      let hi : q.x < place.x + s + n = on.before in
      let number : s + (q.x - (place.x + s)) ≡ q.x - place.x = omega arith in
      (on_stretch_from place (s + n) q (record { line = line; from = omega arith; before = omega arith }), ap f number))
      (λ t. grind (arith, nat_tests)))

both_say : (m e : Bool) → (m ≡ true → e ≡ true) → (e ≡ true → m ≡ true) → m ≡ e
both_say true e h k = sym (h refl)
both_say false true h k = k refl
both_say false false h k = refl

pub line_at : {A : Type 0} (b e m : Bool) (r u v o : Option A) → r ≡ cond m u o → (b ≡ true → m ≡ e) → (e ≡ true → (b ≡ true) × (u ≡ v)) →
    cond b r None ≡ cond e v (cond b o None)
line_at true true m r u v o h k l = h ∙ ap (λ a. cond a u o) (k refl) ∙ (l refl).1
line_at true false m r u v o h k l = h ∙ ap (λ a. cond a u o) (k refl)
line_at false true m r u v o h k l = absurd (both_ways false refl (l refl).0)
line_at false false m r u v o h k l = refl

module _ (sides : Sides ℕ) (spot : Place → ℕ) (inverse : Inverse sides spot) (place : Place) (n : ℕ) (together : Together spot place n)
    (room : place.x + n ≤ sides.width) (row : place.y < sides.height) where
  stretch_spot : (q : Place) → OnStretch place n q → spot q ≡ spot place + (q.x - place.x)
  stretch_spot q on =
      let lo : place.x ≤ q.x = on.from in
      let hi : q.x < place.x + n = on.before in
      let column : q.x ≡ place.x + (q.x - place.x) = omega arith in
      ap₂ (λ x y. spot (at x y)) column on.line ∙ together (q.x - place.x) (omega arith)

  stretch_inside : (k : ℕ) → k < n → inside sides (at (place.x + k) place.y) ≡ true
  stretch_inside k h = inside_from sides (at (place.x + k) place.y) (omega arith) row

  -- which spots the stretch has
  stretch_spots : (q : Place) → inside sides q ≡ true → lies (spot place) (spot place + n) (spot q) ≡ on_stretch place n q
  stretch_spots q h =
      both_say (lies (spot place) (spot place + n) (spot q)) (on_stretch place n q)
      (λ m.
      let on = lies_on (spot place) n (spot q) m in
      let lo : spot place ≤ spot q = on.from in
      let hi : spot q < spot place + n = on.before in
      let k : ℕ = spot q - spot place in
      let below : spot q - spot place < n = omega arith in
      let back : spot q ≡ spot place + (spot q - spot place) = omega arith in
      let other : Place = at (place.x + k) place.y in
      let one : q ≡ other =
      sym (inverse.again q h).1 ∙ ap inverse.back (back ∙ sym (together k below)) ∙ (inverse.again other (stretch_inside k below)).1 in
      let ex : q.x ≡ place.x + (spot q - spot place) = ap (λ a. a.x) one in
      on_stretch_from place n q (record { line = ap (λ a. a.y) one; from = omega arith; before = omega arith }))
      (λ e.
      let on = stretch_on place n q e in
      let lo : place.x ≤ q.x = on.from in
      let hi : q.x < place.x + n = on.before in
      let here : spot q ≡ spot place + (q.x - place.x) = stretch_spot q on in
      on_lies (spot place) n (spot q) (omega arith) (omega arith))

  module _ {A : Type 0} (from to : ℕ → Option A) (f : ℕ → Option A)
      (written : (k : ℕ) → to k ≡ cond (lies (spot place) (spot place + n) k) (f (k - spot place)) (from k)) where
    -- what is shown once the stretch is written
    pub shown_lined : shown_by sides spot to ≡ lined (shown_by sides spot from) place n f
    shown_lined =
        same_picture _ _ refl
        (λ q. line_at (inside sides q) (on_stretch place n q) (lies (spot place) (spot place + n) (spot q)) (to (spot q))
        (f (spot q - spot place)) (f (q.x - place.x)) (from (spot q)) (written (spot q)) (stretch_spots q)
        (λ e.
        let on = stretch_on place n q e in
        let line : q.y ≡ place.y = on.line in
        let lo : place.x ≤ q.x = on.from in
        let hi : q.x < place.x + n = on.before in
        let here : spot q ≡ spot place + (q.x - place.x) = stretch_spot q on in
        let number : spot q - spot place ≡ q.x - place.x = omega arith in
        (inside_from sides q (omega arith) (omega arith), ap f number)))

    -- and what is not shown stays
    pub shown_line_rest : UnshownSame sides spot from to
    shown_line_rest = λ k free. written k ∙ cond-false _ _ _ (false_from_ne_true _ (λ e.
        let on = lies_on (spot place) n k e in
        let lo : spot place ≤ k = on.from in
        let hi : k < spot place + n = on.before in
        let below : k - spot place < n = omega arith in
        let back : spot place + (k - spot place) ≡ k = omega arith in
        free (at (place.x + (k - spot place)) place.y) (stretch_inside (k - spot place) below)
        (together (k - spot place) below ∙ back)))
