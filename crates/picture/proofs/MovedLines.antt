-- Lines and columns through a view that moves each place by as much.
use Rattle.std.proofs.Common.{◌≡◌, ℕ, ◌+◌, ◌-◌, ◌^◌, ◌<◌, ◌≤◌, Bool, true, false, cond, Option, sym, refl, ap, ◌∙◌, ap₂, add_assoc, arith}
use Rattle.std.proofs.lemmas.Bool.{false_from_ne_true, cond-false}
use Rattle.std.proofs.lemmas.Bool.Decides.{nat_tests}
use Rattle.geometry.specs.declared.place.Place.{Place}
use Rattle.geometry.specs.declared.place.Sides.{Sides}
use Rattle.geometry.specs.Places.{at, inside}
use Rattle.geometry.proofs.Insides.{within, inside_from}
use Rattle.picture.specs.declared.track.Track.{Track}
use Rattle.picture.specs.Kept.{KeptBelow}
use Rattle.picture.specs.Laws.{Inner}
use Rattle.picture.specs.Lines.{along, on_stretch, lined}
use Rattle.picture.specs.Picture.{Picture, Sound}
use Rattle.picture.specs.Views.{View, viewed}
use Rattle.picture.proofs.Pictures.{same_picture}
use Rattle.picture.proofs.Stretches.{place_fits, stretch_on, line_at}

-- where a place lies below
abbrev pub moved : Place → Place → Place
moved c q = at (c.x + q.x) (c.y + q.y)

-- the track below shows the same places
pub along_below : (c : Place) (t r : Track) (k : ℕ) → r ≡ record { start = moved c t.start; down = t.down } →
    along r k ≡ moved c (along t k)
along_below c t r k e = ap (λ a. along a k) e ∙ go t.down t.start.x t.start.y
  where
    go : (b : Bool) (x y : ℕ) →
        cond b (at (c.x + x) (c.y + y + k)) (at (c.x + x + k) (c.y + y)) ≡
        moved c (cond b (at x (y + k)) (at (x + k) y))
    go true x y = ap (at (c.x + x)) (add_assoc c.y y k)
    go false x y = ap (λ a. at a (c.y + y)) (add_assoc c.x x k)

module _ {A : Type 0} (view : View) (c : Place) (shifts : (s : Sides ℕ) (q : Place) → view.spot s q ≡ moved c q) (p : Picture A) where
  -- and it starts at numbers of 32 bits, if it shows a place
  pub start_fits : Inner view → Sound p → (t : Track) (k : ℕ) → inside (view.sides p.sides) (along t k) ≡ true →
      (c.x + t.start.x < 2 ^ 32) × (c.y + t.start.y < 2 ^ 32)
  start_fits inner sound t k h =
      let there : inside p.sides (moved c (along t k)) ≡ true =
      ap (inside p.sides) (sym (shifts p.sides (along t k))) ∙ inner p.sides (along t k) h in
      let fits = place_fits p (moved c (along t k)) sound there in
      go t.down t.start.x t.start.y fits.0 fits.1
    where
      go : (b : Bool) (x y : ℕ) →
          let q : Place = cond b (at x (y + k)) (at (x + k) y) in
          c.x + q.x < 2 ^ 32 → c.y + q.y < 2 ^ 32 → (c.x + x < 2 ^ 32) × (c.y + y < 2 ^ 32)
      go true x y across down = (omega arith, omega arith)
      go false x y across down = (omega arith, omega arith)

  -- a line that shows through the view lies inside the picture below
  pub line_below : Inner view → (place : Place) (n : ℕ) → 0 < n → place.x + n ≤ (view.sides p.sides).width →
      place.y < (view.sides p.sides).height → (c.x + place.x + n ≤ p.sides.width) × (c.y + place.y < p.sides.height)
  line_below inner place n some across down =
      let last : Place = at (place.x + (n - 1)) place.y in
      let end : place.x + (n - 1) < (view.sides p.sides).width = omega arith in
      let shown : inside (view.sides p.sides) last ≡ true = inside_from (view.sides p.sides) last end down in
      let there : inside p.sides (moved c last) ≡ true = ap (inside p.sides) (sym (shifts p.sides last)) ∙ inner p.sides last shown in
      let i = within p.sides (moved c last) there in
      let x : c.x + (place.x + (n - 1)) < p.sides.width = i.across in
      let y : c.y + place.y < p.sides.height = i.down in
      (omega arith, y)

  module _ (place : Place) (n : ℕ) (held : ℕ → Option A) (across : place.x + n ≤ (view.sides p.sides).width)
      (down : place.y < (view.sides p.sides).height) where
    -- a line put below is seen through the view
    pub moved_lined : viewed view (lined p (moved c place) n held) ≡ lined (viewed view p) place n held
    moved_lined =
        same_picture _ _ refl
        (λ q. line_at (inside (view.sides p.sides) q) (on_stretch place n q) (on_stretch (moved c place) n (view.spot p.sides q)) _
        (held ((view.spot p.sides q).x - (c.x + place.x))) (held (q.x - place.x)) (p.at (view.spot p.sides q)) refl
        (λ _. ap (on_stretch (moved c place) n) (shifts p.sides q) ∙ same_stretch q)
        (λ e.
        let on = stretch_on place n q e in
        let line : q.y ≡ place.y = on.line in
        let hi : q.x < place.x + n = on.before in
        let number : c.x + q.x - (c.x + place.x) ≡ q.x - place.x = omega arith in (
          inside_from (view.sides p.sides) q (omega arith) (omega arith),
          ap (λ a. held (a.x - (c.x + place.x))) (shifts p.sides q) ∙ ap held number,
        )))
      where
        same_stretch : (q : Place) → on_stretch (moved c place) n (moved c q) ≡ on_stretch place n q
        same_stretch q = grind (arith, nat_tests)

    -- and what the view does not show stays
    pub moved_line_rest : KeptBelow view p (lined p (moved c place) n held)
    moved_line_rest =
        record {
          same_sides = refl;
          rest = λ k free. cond-false _ _ _ (false_from_ne_true _ (λ e.
              let on = stretch_on (moved c place) n k e in
              let line : k.y ≡ c.y + place.y = on.line in
              let lo : c.x + place.x ≤ k.x = on.from in
              let hi : k.x < c.x + place.x + n = on.before in
              let q : Place = at (k.x - c.x) (k.y - c.y) in
              let ex : c.x + (k.x - c.x) ≡ k.x = omega arith in
              let ey : c.y + (k.y - c.y) ≡ k.y = omega arith in
              free q (inside_from (view.sides p.sides) q (omega arith) (omega arith)) (shifts p.sides q ∙ ap₂ at ex ey)));
        }
