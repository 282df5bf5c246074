-- The laws of serving.
use Rattle.std.proofs.Common.{◌≡◌, ℕ, suc, ◌+◌, ◌-◌, ◌<◌, ◌≤◌, Bool, true, false, cond, ltb, List, [], ◌∷◌, length, get_or, Some, None, Ok, Err, Option, sym, refl, ap, ◌∙◌, ap₂, arith}
use Rattle.std.specs.List.{position, position_from}
use Rattle.std.proofs.lemmas.Iterator.Adapters.{position_from-zero}
use Rattle.std.proofs.lemmas.Bool.{cond-true, cond-false}
use Rattle.std.proofs.lemmas.Bool.Decides.{nat_tests}
use Rattle.refusal.specs.declared.Refusal.{Refusal}
use Rattle.refusal.specs.declared.Refusal.TheVariants.{NotCovered}
use Rattle.geometry.specs.declared.place.Place.{Place}
use Rattle.geometry.specs.declared.place.Sides.{Sides}
use Rattle.geometry.specs.declared.turn.Turn.{Turn}
use Rattle.geometry.specs.Centre.{centre, centred}
use Rattle.geometry.specs.Places.{inside, at, sides_of}
use Rattle.geometry.specs.Turns.{turn, from_code, field, forwards, backwards, unturned}
use Rattle.geometry.proofs.Centres as centres
use Rattle.geometry.proofs.Insides.{Within, within, inside_from}
use Rattle.geometry.proofs.Turning as turning
use Rattle.sheet.specs.declared.row.Row.{Row}
use Rattle.sheet.specs.Serving.{turn_in, field_of, centre_sample, covers_place, served_place, serving, Fine, Coarse, Sided, ServingLaws}

-- a field's sides are those of a body, perhaps exchanged
field_pos : (t : Turn) (body : Sides ℕ) → 0 < body.width → 0 < body.height → (0 < (field t body).width) × (0 < (field t body).height)
field_pos t body w h = go t.transposed
  where
    go : (e : Bool) → (0 < (field (turn t.mirrored t.flipped e) body).width) × (0 < (field (turn t.mirrored t.flipped e) body).height)
    go true = (h, w)
    go false = (w, h)

-- a covered place, by its four bounds
pub record Covered (r : Row) (p : Place) : Type 0 where
  pub left : r.projected.left ≤ p.x
  pub right : p.x < r.projected.left + r.projected.width
  pub top : r.projected.top ≤ p.y
  pub bottom : p.y < r.projected.top + r.projected.height

pub covered : (r : Row) (p : Place) → covers_place r p ≡ true → Covered r p
covered r p h =
    record {
      left = grind (arith, nat_tests);
      right = grind (arith, nat_tests);
      top = grind (arith, nat_tests);
      bottom = grind (arith, nat_tests);
    }

covers_from : (r : Row) (p : Place) → Covered r p → covers_place r p ≡ true
covers_from r p c = grind (arith, nat_tests)

-- the field's place that a covered place falls to
abbrev cell : Row → Place → Place
cell r p =
    at (centre (field_of r).width r.projected.width (p.x - r.projected.left))
    (centre (field_of r).height r.projected.height (p.y - r.projected.top))

cell_inside : (r : Row) (p : Place) → Sided r → covers_place r p ≡ true → inside (field_of r) (cell r p) ≡ true
cell_inside r p s h =
    let c : Covered r p = covered r p h in
    let (a, d) = field_pos (turn_in r) (sides_of r.body) s.wide s.high in
    inside_from (field_of r) (cell r p)
    (centres.inside (field_of r).width r.projected.width (p.x - r.projected.left) a (omega (arith, c.left, c.right)))
    (centres.inside (field_of r).height r.projected.height (p.y - r.projected.top) d (omega (arith, c.top, c.bottom)))

served : (r : Row) (p : Place) → Sided r → covers_place r p ≡ true → inside (sides_of r.body) (served_place r p) ≡ true
served r p s h = (turning.back (turn_in r) (sides_of r.body) (cell r p) (cell_inside r p s h)).within

centred_in : (r : Row) (b : Place) → Sided r → inside (sides_of r.body) b ≡ true → covers_place r (centre_sample r b) ≡ true
centred_in r b s h =
    let k : Place = forwards (turn_in r) (sides_of r.body) b in
    let i : Within (field_of r) k = within (field_of r) k (turning.there (turn_in r) (sides_of r.body) b h).within in
    let across = centres.inside r.projected.width (field_of r).width k.x s.across i.across in
    let down = centres.inside r.projected.height (field_of r).height k.y s.down i.down in
    covers_from r (centre_sample r b) (record { left = omega arith; right = omega (arith, across); top = omega arith; bottom = omega (arith, down) })

-- one side of a fine row
fine_side : (left q a x : ℕ) → 0 < q → q ≤ a → left ≤ x → left + centre q a (centre a q (x - left)) ≡ x
fine_side left q a x q0 qa lx = omega (arith, centres.returns q a (x - left) q0 qa)

fine : (r : Row) (p : Place) → Sided r → Fine r → covers_place r p ≡ true → centre_sample r (served_place r p) ≡ p
fine r p s f h =
    let c : Covered r p = covered r p h in
    let back : forwards (turn_in r) (sides_of r.body) (served_place r p) ≡ cell r p =
    (turning.back (turn_in r) (sides_of r.body) (cell r p) (cell_inside r p s h)).again in
    ap (λ (k : Place). at (r.projected.left + centre r.projected.width (field_of r).width k.x) (r.projected.top + centre r.projected.height (field_of r).height k.y)) back
    ∙ ap₂ at
    (fine_side r.projected.left r.projected.width (field_of r).width p.x s.across f.across c.left)
    (fine_side r.projected.top r.projected.height (field_of r).height p.y s.down f.down c.top)

-- one side of a coarse row
coarse_side : (left q a k : ℕ) → 0 < a → a ≤ q → centre a q ((left + centre q a k) - left) ≡ k
coarse_side left q a k a0 aq =
    let e : (left + centre q a k) - left ≡ centre q a k = omega arith in
    ap (centre a q) e ∙ centres.returns a q k a0 aq

coarse : (r : Row) (b : Place) → Sided r → Coarse r → inside (sides_of r.body) b ≡ true → served_place r (centre_sample r b) ≡ b
coarse r b s f h =
    let k : Place = forwards (turn_in r) (sides_of r.body) b in
    let (a, d) = field_pos (turn_in r) (sides_of r.body) s.wide s.high in
    ap (backwards (turn_in r) (sides_of r.body))
    (ap₂ at
    (coarse_side r.projected.left r.projected.width (field_of r).width k.x a f.across)
    (coarse_side r.projected.top r.projected.height (field_of r).height k.y d f.down))
    ∙ (turning.there (turn_in r) (sides_of r.body) b h).back

pub laws : ServingLaws
laws = record { centred = centred_in; served = served; fine = fine; coarse = coarse }

-- what the steps of the call give
ok_of : {X : Type 0} (b : Bool) (x y : X) (e : Refusal) → Ok x ≡ cond b (Ok y) (Err e) → x ≡ y
ok_of true x y e h = cc
ok_of false x y e h = let z : ◌≡◌ {A = ℕ} 0 1 = cc in absurd (omega arith)

pub served_steps : (r : Row) (p : Place) (t : Turn) (x y : ℕ) → Sided r → covers_place r p ≡ true → Ok t ≡ from_code r.turn →
    Ok x ≡ centred (field t (sides_of r.body)).width r.projected.width (p.x - r.projected.left) →
    Ok y ≡ centred (field t (sides_of r.body)).height r.projected.height (p.y - r.projected.top) →
    unturned t (sides_of r.body) (at x y) ≡ Ok (served_place r p)
served_steps r p t x y s h et ex ey =
    let turned : t ≡ turn_in r = ok_of (ltb r.turn 8) t (turn_in r) _ et in
    let across : x ≡ (cell r p).x =
    ok_of _ x _ _ ex ∙ ap (λ (u : Turn). centre (field u (sides_of r.body)).width r.projected.width (p.x - r.projected.left)) turned in
    let down : y ≡ (cell r p).y =
    ok_of _ y _ _ ey ∙ ap (λ (u : Turn). centre (field u (sides_of r.body)).height r.projected.height (p.y - r.projected.top)) turned in
    ap₂ (λ (u : Turn) (q : Place). unturned u (sides_of r.body) q) turned (ap₂ at across down)
    ∙ cond-true (inside (field_of r) (cell r p)) (Ok (served_place r p)) _ (cell_inside r p s h)

-- what an array of rows reads where it has none
abbrev pub no_row : Row
no_row =
    record {
      projected = record { width = 0; height = 0; top = 0; left = 0 };
      turn = 0;
      body = record { width = 0; height = 0; top = 0; left = 0 };
      bands = None;
    }

-- The row with number i covers the place first, among rows that are numbered from n.
record ServedFirst (n i : ℕ) (rows : List Row) (p : Place) (d : Row) : Type 0 where
  pub k : ℕ
  pub numbered : i ≡ n + k
  pub inside : k < length rows
  pub covers : covers_place (get_or rows k d) p ≡ true
  pub serves : Ok (record { row = i; place = record { 0 = served_place (get_or rows k d) p } }) ≡ serving n rows p

serving_first : (n i : ℕ) (rows : List Row) (p : Place) (d : Row) → Some i ≡ position_from (λ r. covers_place r p) n rows →
    ServedFirst n i rows p d
serving_first n i [] p d h = let z : ◌≡◌ {A = ℕ} 0 1 = cc in absurd (omega arith)
serving_first n i (r ∷ rows) p d h = go (covers_place r p) refl h (λ f. serving_first (n + 1) i rows p d f)
  where
    later : Option ℕ
    later = position_from (λ x. covers_place x p) (n + 1) rows

    go : (b : Bool) → covers_place r p ≡ b → Some i ≡ cond b (Some n) later → (Some i ≡ later → ServedFirst (n + 1) i rows p d) →
        ServedFirst n i (r ∷ rows) p d
    go true e f ih =
        let here : i ≡ n = cc in
        record {
          k = 0;
          numbered = omega arith;
          inside = omega arith;
          covers = e;
          serves =
              ap (λ (m : ℕ). Ok (record { row = m; place = record { 0 = served_place r p } })) here
              ∙ sym (cond-true (covers_place r p) _ _ e);
        }
    go false e f ih =
        let s = ih f in
        record {
          k = suc s.k;
          numbered = omega (arith, s.numbered);
          inside = omega (arith, s.inside);
          covers = s.covers;
          serves = s.serves ∙ sym (cond-false (covers_place r p) _ _ e);
        }

serving_nowhere : (n : ℕ) (rows : List Row) (p : Place) → None ≡ position_from (λ r. covers_place r p) n rows →
    Err NotCovered ≡ serving n rows p
serving_nowhere n [] p h = refl
serving_nowhere n (r ∷ rows) p h = go (covers_place r p) refl h (serving_nowhere (n + 1) rows p)
  where
    later : Option ℕ
    later = position_from (λ x. covers_place x p) (n + 1) rows

    go : (b : Bool) → covers_place r p ≡ b → None ≡ cond b (Some n) later → (None ≡ later → Err NotCovered ≡ serving (n + 1) rows p) →
        Err NotCovered ≡ serving n (r ∷ rows) p
    go true e f ih = let z : ◌≡◌ {A = ℕ} 0 1 = cc in absurd (omega arith)
    go false e f ih = ih f ∙ sym (cond-false (covers_place r p) _ _ e)

-- what the search for the first row that covers a place tells: its number, or that there is none
module _ (rows : List Row) (p : Place) where
  pub found_serves : (i : ℕ) (d : Row) → Some i ≡ position (λ r. covers_place r p) rows →
      (covers_place (get_or rows i d) p ≡ true) × (Ok (record { row = i; place = record { 0 = served_place (get_or rows i d) p } }) ≡ serving 0 rows p)
  found_serves i d h =
      let s = serving_first 0 i rows p d (h ∙ position_from-zero (λ r. covers_place r p) rows) in
      let same : s.k ≡ i = omega (arith, s.numbered) in (
        ap (λ (m : ℕ). covers_place (get_or rows m d) p) (sym same) ∙ s.covers,
        ap (λ (m : ℕ). Ok (record { row = i; place = record { 0 = served_place (get_or rows m d) p } })) (sym same) ∙ s.serves,
      )

  pub none_serves : None ≡ position (λ r. covers_place r p) rows → Err NotCovered ≡ serving 0 rows p
  none_serves h = serving_nowhere 0 rows p (h ∙ position_from-zero (λ r. covers_place r p) rows)
