-- A rectangle carried line after line and strip after strip: where its places come from, and what is drawn so far.
use Rattle.std.proofs.Common.{◌≡◌, ℕ, ◌+◌, ◌-◌, ◌<◌, ◌≤◌, Bool, true, false, cond, Option, sym, refl, ap, ◌∙◌, ap₂, add-zero, arith}
use Rattle.std.specs.Bool.{then_some}
use Rattle.std.proofs.lemmas.Bool.{and_from}
use Rattle.std.proofs.lemmas.Bool.Decides.{nat_tests}
use Rattle.geometry.specs.declared.place.Place.{Place}
use Rattle.geometry.specs.declared.place.Sides.{Sides}
use Rattle.geometry.specs.Places.{at, by, inside}
use Rattle.geometry.proofs.Centres as centres
use Rattle.geometry.proofs.Insides.{inside_from}
use Rattle.geometry.proofs.Turning.{mirror_inside}
use Rattle.picture.specs.declared.track.Track.{Track}
use Rattle.picture.specs.Draws.{taken, drawn}
use Rattle.picture.specs.Lines.{along, on_stretch, lined}
use Rattle.picture.specs.Picture.{Picture}
use Rattle.picture.proofs.Drawing.{drawn_then}
use Rattle.picture.proofs.Pictures.{same_picture}
use Rattle.picture.proofs.RowByRow.{or_when}
use Rattle.picture.proofs.Stretches.{stretch_on, on_lies}
use Rattle.packing.specs.declared.carry.Carry.{Carry}
use Rattle.packing.specs.declared.course.Course.{Course}
use Rattle.packing.specs.Carries.{CarryFits, step, source, counted, spans, written, carried}
use Rattle.packing.specs.Strips.{track_of, strip}

pub step_inside : (c : Course) (i : ℕ) → i < c.parts → step c i < c.side
step_inside c i h =
    let cell = mirror_inside c.before c.parts i h in
    mirror_inside c.after c.side _ (centres.inside c.side c.parts _ c.some_side cell)

-- a step of a line's track is where a place of that line comes from
pub track_source : (c : Carry) (t : Track) (k i j : ℕ) → t ≡ track_of c j → k ≡ step c.across i → along t k ≡ source c (at i j)
track_source c t k i j et ek = ap₂ along et ek ∙ go c.crossed c.from.x c.from.y (step c.across i) (step c.down j)
  where
    go : (b : Bool) (x y a d : ℕ) →
        along (record { start = cond b (at (x + d) y) (at x (y + d)); down = b }) a ≡ cond b (at (x + d) (y + a)) (at (x + a) (y + d))
    go true x y a d = refl
    go false x y a d = refl

module _ (c : Carry) (from to : Sides ℕ) (fits : CarryFits c from to) (j : ℕ) (line : j < c.down.parts) where
  -- the rectangle read lies inside, whichever way round
  abbrev Reads : Bool → Type 0
  Reads b =
      let read : Sides ℕ = cond b (by c.down.side c.across.side) (by c.across.side c.down.side) in
      (c.from.x + read.width ≤ from.width) × (c.from.y + read.height ≤ from.height)

  -- where a place comes from lies inside
  pub source_inside : (i : ℕ) → i < c.across.parts → inside from (source c (at i j)) ≡ true
  source_inside i column =
      go c.crossed (step c.across i) (step c.down j) (step_inside c.across i column)
      (step_inside c.down j line) (fits.from_right, fits.from_bottom)
    where
      go : (b : Bool) (k m : ℕ) → k < c.across.side → m < c.down.side → Reads b →
          inside from (cond b (at (c.from.x + m) (c.from.y + k)) (at (c.from.x + k) (c.from.y + m))) ≡ true
      go true k m hk hm reads = inside_from from (at (c.from.x + m) (c.from.y + k)) (omega arith) (omega arith)
      go false k m hk hm reads = inside_from from (at (c.from.x + k) (c.from.y + m)) (omega arith) (omega arith)

  -- and so does the start of its track
  pub track_inside : ((track_of c j).start.x < from.width) × ((track_of c j).start.y < from.height)
  track_inside =
      go c.crossed (step c.down j) (step_inside c.down j line) c.across.some_side
      (fits.from_right, fits.from_bottom)
    where
      go : (b : Bool) (m : ℕ) → m < c.down.side → 0 < c.across.side → Reads b →
          let start : Place = cond b (at (c.from.x + m) c.from.y) (at c.from.x (c.from.y + m)) in
          (start.x < from.width) × (start.y < from.height)
      go true m hm hk reads = (omega arith, omega arith)
      go false m hm hk reads = (omega arith, omega arith)

module _ {A : Type 0} where
  none_at : (b : Bool) (p : Picture A) (s : Place) (o : Option A) → b ≡ false → o ≡ taken p (then_some b s) o
  none_at true p s o e = ap (λ b. taken p (then_some b s) o) (sym e)
  none_at false p s o e = refl

  -- no line yet
  pub no_line : (c : Carry) (p q : Picture A) (start n : ℕ) → q ≡ drawn (strip c start n 0) p q
  no_line c p q start n =
      same_picture _ _ refl
      (λ a.
      none_at (spans (at (c.to.x + start) c.to.y) (by n 0) a) p (source c (counted c.to a)) (q.at a) (grind (arith, nat_tests)))

  -- no strip yet
  pub no_strip : (c : Carry) (p q : Picture A) (m : ℕ) → q ≡ drawn (strip c 0 0 m) p q
  no_strip c p q m =
      same_picture _ _ refl
      (λ a.
      none_at (spans (at (c.to.x + 0) c.to.y) (by 0 m) a) p (source c (counted c.to a)) (q.at a) (grind (arith, nat_tests)))

  line_at : (e r t : Bool) (p : Picture A) (s : Place) (u o : Option A) → (e ≡ true → (t ≡ true) × (u ≡ p.at s)) →
      (e ≡ false → r ≡ t) → cond e u (taken p (then_some r s) o) ≡ taken p (then_some t s) o
  line_at true r t p s u o h k = (h refl).1 ∙ ap (λ b. taken p (then_some b s) o) (sym (h refl).0)
  line_at false r t p s u o h k = ap (λ b. taken p (then_some b s) o) (k refl)

  -- one line more
  pub line_more : (c : Carry) (p q : Picture A) (start n j : ℕ) (held : ℕ → Option A) →
      ((i : ℕ) → i < n → held i ≡ p.at (source c (at (start + i) j))) →
      lined (drawn (strip c start n j) p q) (at (c.to.x + start) (c.to.y + j)) n held ≡ drawn (strip c start n (j + 1)) p q
  line_more c p q start n j held same =
      same_picture _ _ refl
      (λ a. line_at (on_stretch (at (x + start) (y + j)) n a) (spans (at (x + start) y) (by n j) a)
      (spans (at (x + start) y) (by n (j + 1)) a) p (source c (counted c.to a)) (held (a.x - (x + start))) (q.at a)
      (λ t.
      let on = stretch_on (at (x + start) (y + j)) n a t in
      let line : a.y ≡ y + j = on.line in
      let lo : x + start ≤ a.x = on.from in
      let hi : a.x < x + start + n = on.before in
      let column : start + (a.x - (x + start)) ≡ a.x - x = omega arith in
      let row : j ≡ a.y - y = omega arith in (
        and_from _ _ (on_lies (x + start) n a.x lo hi) (on_lies y (j + 1) a.y (omega arith) (omega arith)),
        same (a.x - (x + start)) (omega arith) ∙ ap₂ (λ k m. p.at (source c (at k m))) column row,
      ))
      (λ t. grind (arith, nat_tests)))
    where
      x : ℕ
      x = c.to.x

      y : ℕ
      y = c.to.y

  -- one strip more
  pub strip_more : (c : Carry) (p q : Picture A) (start n m : ℕ) →
      drawn (strip c start n m) p (drawn (strip c 0 start m) p q) ≡ drawn (strip c 0 (start + n) m) p q
  strip_more c p q start n m =
      drawn_then (strip c 0 start m) (strip c start n m) (strip c 0 (start + n) m) p q
      (λ a. or_when (spans (at (c.to.x + 0) c.to.y) (by (start + n) m) a) (spans (at (c.to.x + start) c.to.y) (by n m) a)
      (spans (at (c.to.x + 0) c.to.y) (by start m) a) (source c (counted c.to a)) (grind (arith, nat_tests)))

  pub strip_then : (c : Carry) (p q mid left : Picture A) (start n m end : ℕ) → left ≡ drawn (strip c start n m) p mid →
      mid ≡ drawn (strip c 0 start m) p q → start + n ≡ end → left ≡ drawn (strip c 0 end m) p q
  strip_then c p q mid left start n m end last before e =
      last
      ∙ ap (drawn (strip c start n m) p) before
      ∙ strip_more c p q start n m
      ∙ ap (λ k. drawn (strip c 0 k m) p q) e

  -- every strip
  pub all_strips : (c : Carry) (p q : Picture A) → drawn (strip c 0 c.across.parts c.down.parts) p q ≡ drawn (carried c) p q
  all_strips c p q =
      ap (λ x. drawn (λ a. then_some (spans (at x c.to.y) (written c) a) (source c (counted c.to a))) p q) (add-zero c.to.x)
