-- What returns, by a sheet whose rows are well shaped and whose bodies lie inside and apart.
use Rattle.std.proofs.Common.{◌≡◌, ℕ, ◌+◌, ◌-◌, ◌≤◌, Bool, true, false, Some, None, Ok, sym, refl, ap, ◌∙◌, ap₂, arith}
use Rattle.std.specs.Option.{option_map}
use Rattle.std.proofs.lemmas.Bool.{cond-true}
use Rattle.geometry.specs.declared.place.Place.{Place}
use Rattle.geometry.specs.Places.{at, sides_of}
use Rattle.geometry.proofs.Insides.{Within, within, inside_from}
use Rattle.picture.specs.Picture.{Picture}
use Rattle.picture.specs.Draws.{taken}
use Rattle.sheet.specs.declared.row.Row.{Row}
use Rattle.sheet.specs.Rules.{Content}
use Rattle.sheet.specs.Serving.{centre_sample, covers_place, served_place, serve_answer, Fine, Coarse, Sided}
use Rattle.sheet.specs.Words.{Shaped, Facts}
use Rattle.sheet.proofs.Serves.{Covered, covered, laws}
use Rattle.packing.specs.Carries.{counted}
use Rattle.packing.specs.Moves.{body_corner, holds, centre_of, server_of, pack_source, unpack_source, packed_of, unpacked_of, fit, fitted, Packs, Unpacks}
use Rattle.packing.specs.Promise.{Numbered, Serves, Alike, TakesCentres, TakesServed, FineReturns, CoarseReturns}
use Rattle.packing.proofs.Holding.{Among, among, spanned, counted_inside, held_in}
use Rattle.packing.proofs.Numbering.{all_at, lowest_is, lowest_none, serving_is}

pub granted : (b : Bool) → Ok tt ≡ fitted b → b ≡ true
granted true h = refl
granted false h = let z : ◌≡◌ {A = ℕ} 0 1 = cc in absurd (omega arith)

-- a place counted from a corner, counted back, is the place
there : (corner p : Place) → corner.x ≤ p.x → corner.y ≤ p.y → at (corner.x + (p.x - corner.x)) (corner.y + (p.y - corner.y)) ≡ p
there corner p x y =
    let ex : corner.x + (p.x - corner.x) ≡ p.x = omega arith in
    let ey : corner.y + (p.y - corner.y) ≡ p.y = omega arith in
    ap₂ at ex ey

back : (corner b : Place) → counted corner (at (corner.x + b.x) (corner.y + b.y)) ≡ b
back corner b =
    let ex : corner.x + b.x - corner.x ≡ b.x = omega arith in
    let ey : corner.y + b.y - corner.y ≡ b.y = omega arith in
    ap₂ at ex ey

module _ (r : Row) (sided : Sided r) where
  -- the place that serves a covered place lies in the body
  server_held : (p : Place) → covers_place r p ≡ true → holds r (server_of r p) ≡ true
  server_held p h =
      let i : Within (sides_of r.body) (served_place r p) = within (sides_of r.body) (served_place r p) (laws.served r p sided h) in
      spanned (body_corner r) (sides_of r.body) (server_of r p)
      (record { left = omega arith; right = omega (arith, i.across); top = omega arith; bottom = omega (arith, i.down) })

  fine_centre : (p : Place) → Fine r → covers_place r p ≡ true → centre_of r (server_of r p) ≡ p
  fine_centre p f h = ap (centre_sample r) (back (body_corner r) (served_place r p)) ∙ laws.fine r p sided f h

  coarse_server : (p : Place) → Coarse r → holds r p ≡ true → server_of r (centre_of r p) ≡ p
  coarse_server p f h =
      let i : Among (body_corner r) (sides_of r.body) p = among (body_corner r) (sides_of r.body) p h in
      ap (λ (b : Place). at (r.body.left + b.x) (r.body.top + b.y))
      (laws.coarse r (counted (body_corner r) p) sided f (counted_inside (body_corner r) (sides_of r.body) p h))
      ∙ there (body_corner r) p i.left i.top

module _ (c : Content) (facts : Facts c) where
  shaped : (n : ℕ) (r : Row) → Numbered c n r → Shaped c.sides r
  shaped n r e = all_at (Shaped c.sides) c.rows n r facts.shaped e

  -- where packed and projected places take their samples from
  packs_at : (n : ℕ) (r : Row) (p : Place) → Numbered c n r → holds r p ≡ true → pack_source c.rows p ≡ Some (centre_of r p)
  packs_at n r p e h =
      ap (option_map (λ (s : Row). centre_of s p))
      (lowest_is (λ s. holds s p) c.rows n r e h
      (λ k s lt f g.
      let same : k ≡ n =
      facts.bodies.apart k n p.y p.x (held_in c.rows k s p f g) (held_in c.rows n r p e h) in
      omega arith))

  unpacks_at : (r : Row) (p : Place) → Serves c r p → unpack_source c.rows p ≡ Some (server_of r p)
  unpacks_at r p v =
      ap (option_map (λ (s : Row). server_of s p))
      (lowest_is (λ s. covers_place s p) c.rows v.number r v.numbered v.covering v.lowest)

  -- the place that serves a fine row's sample takes that sample
  fine_source : (r : Row) (p : Place) → Serves c r p → Fine r → pack_source c.rows (server_of r p) ≡ Some p
  fine_source r p v f =
      let sided = (shaped v.number r v.numbered).sided in
      packs_at v.number r (server_of r p) v.numbered (server_held r sided p v.covering)
      ∙ ap Some (fine_centre r sided p f v.covering)

  pub serve_is : (r : Row) (p : Place) (v : Serves c r p) →
      serve_answer c (record { 0 = p }) ≡ Ok (record { row = v.number; place = record { 0 = served_place r p } })
  serve_is r p v =
      let s : Shaped c.sides r = shaped v.number r v.numbered in
      let i : Covered r p = covered r p v.covering in
      let here : 0 + v.number ≡ v.number = omega arith in
      cond-true _ _ _
      (inside_from c.sides.projected p (omega (arith, s.across, i.right)) (omega (arith, s.down, i.bottom)))
      ∙ serving_is 0 c.rows v.number r p v.numbered v.covering v.lowest
      ∙ (λ j. Ok (record { row = here j; place = record { 0 = served_place r p } }))

  module _ {A : Type 0} where
    -- what granted calls leave
    packs_is : (from to left : Picture A) → Packs c (Ok tt) from to left → left ≡ packed_of c from to
    packs_is from to left p = p.after ∙ cond-true _ _ _ (granted (fit c from to) p.answer)

    unpacks_is : (from to left : Picture A) → Unpacks c (Ok tt) from to left → left ≡ unpacked_of c from to
    unpacks_is from to left u = u.after ∙ cond-true _ _ _ (granted (fit c to from) u.answer)

    pub packs : (from to left : Picture A) → Packs c (Ok tt) from to left → TakesCentres c from to left
    packs from to left k =
        let same : (p : Place) → left.at p ≡ (packed_of c from to).at p = λ p. ap (λ (q : Picture A). q.at p) (packs_is from to left k) in
        record {
          body = λ n r p e h. same p ∙ ap (λ s. taken from s (to.at p)) (packs_at n r p e h);
          rest = λ p none.
              same p ∙ ap (λ s. taken from (option_map (λ (r : Row). centre_of r p) s) (to.at p)) (lowest_none (λ r. holds r p) c.rows none);
        }

    pub unpacks : (from to left : Picture A) → Unpacks c (Ok tt) from to left → TakesServed c from to left
    unpacks from to left u =
        let same : (p : Place) → left.at p ≡ (unpacked_of c from to).at p = λ p. ap (λ (q : Picture A). q.at p) (unpacks_is from to left u) in
        record {
          covered = λ r p v. same p ∙ ap (λ s. taken from s (to.at p)) (unpacks_at r p v);
          rest = λ p none.
              same p
              ∙ ap (λ s. taken from (option_map (λ (r : Row). server_of r p) s) (to.at p)) (lowest_none (λ r. covers_place r p) c.rows none);
        }

    pub fine : (first packed packed-left last last-left : Picture A) → Packs c (Ok tt) first packed packed-left →
        Unpacks c (Ok tt) packed-left last last-left → FineReturns c first last-left
    fine first packed packed-left last last-left k u r p v f =
        ap (λ (q : Picture A). q.at p)
        (unpacks_is packed-left last last-left u ∙ ap (λ q. unpacked_of c q last) (packs_is first packed packed-left k))
        ∙ ap (λ s. taken (packed_of c first packed) s (last.at p)) (unpacks_at r p v)
        ∙ ap (λ s. taken first s (packed.at (server_of r p))) (fine_source r p v f)

    pub unlike : (one other : Picture A) (r : Row) (p : Place) → Serves c r p → Fine r → (one.at p ≡ other.at p → ⊥) → Alike c one other → ⊥
    unlike one other r p v f differ alike =
        let s = fine_source r p v f in
        differ (ap (λ a. taken one a None) (sym s) ∙ alike (server_of r p) ∙ ap (λ a. taken other a None) s)

    pub coarse : (first unpacked unpacked-left last last-left : Picture A) → Unpacks c (Ok tt) first unpacked unpacked-left →
        Packs c (Ok tt) unpacked-left last last-left → CoarseReturns c first last-left
    coarse first unpacked unpacked-left last last-left u k n r p e h f v =
        ap (λ (q : Picture A). q.at p)
        (packs_is unpacked-left last last-left k ∙ ap (λ q. packed_of c q last) (unpacks_is first unpacked unpacked-left u))
        ∙ ap (λ s. taken (unpacked_of c first unpacked) s (last.at p)) (packs_at n r p e h)
        ∙ ap (λ s. taken first s (unpacked.at (centre_of r p))) (unpacks_at r (centre_of r p) v)
        ∙ ap first.at (coarse_server r (shaped n r e).sided p f h)
