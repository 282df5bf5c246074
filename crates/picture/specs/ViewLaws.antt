-- Lemmas, here and not under proofs/ since ghost members cite them: what the two views owe.
use Rattle.std.specs.Prelude.{◌≡◌, ℕ, ◌+◌, ◌-◌, ◌^◌, ◌<◌, ◌≤◌, Bool, true, false, cond, ◌&&◌}
use Rattle.std.proofs.Common.{ap, ◌∙◌, ap₂, leb, arith}
use Rattle.std.proofs.lemmas.Bool.{and_parts, and_from, leb-true, le-leb}
use Rattle.std.proofs.lemmas.Option.{none-some}
use Rattle.geometry.specs.declared.place.Place.{Place}
use Rattle.geometry.specs.declared.place.Rectangle.{Rectangle}
use Rattle.geometry.specs.declared.place.Sides.{Sides}
use Rattle.geometry.specs.declared.turn.Turn.{Turn}
use Rattle.geometry.specs.Places.{at, by, inside}
use Rattle.geometry.specs.Turns.{forwards}
use Rattle.geometry.proofs.Insides.{Within, within, inside_from}
use Rattle.geometry.proofs.Turning as turning
use Rattle.picture.specs.Laws.{Inner, Backed, Narrow, Shifts}
use Rattle.picture.specs.Views.{part, window_view, window_shift, turn_view, turn_shift}

pub window_inner : (f : Rectangle ℕ) → Inner (window_view f)
window_inner f s q h =
    let b : Within ((window_view f).sides s) q = within ((window_view f).sides s) q h in
    let a : q.x < part f.left f.width s.width = b.across in
    let d : q.y < part f.top f.height s.height = b.down in
    inside_from s ((window_view f).spot s q) (omega arith) (omega arith)

pub window_narrow : (f : Rectangle ℕ) → Narrow (window_view f)
window_narrow f s w h = (omega arith, omega arith)

pub window_shifts : (f : Rectangle ℕ) → Shifts (window_view f) (window_shift f)
window_shifts f c e s q = cc

pub turn_inner : (t : Turn) → Inner (turn_view t)
turn_inner t s q h = (turning.back t s q h).within

pub turn_narrow : (t : Turn) → Narrow (turn_view t)
turn_narrow t = field_fits t.transposed
  where
    field_fits : (e : Bool) (s : Sides ℕ) → s.width < 2 ^ 32 → s.height < 2 ^ 32 →
        let f : Sides ℕ = cond e (by s.height s.width) s in (f.width < 2 ^ 32) × (f.height < 2 ^ 32)
    field_fits true s w h = (h, w)
    field_fits false s w h = (w, h)

pub turn_shifts : (t : Turn) → Shifts (turn_view t) (turn_shift t)
turn_shifts t c e = absurd (none-some c e)

pub window_backed : (f : Rectangle ℕ) → Backed (window_view f)
window_backed f s =
    record {
      has = λ k. past k && inside field (back k);
      back = back;
      there = λ k h.
          let (p, i) = and_parts (past k) (inside field (back k)) h in
          let (l, t) = and_parts (leb f.left k.x) (leb f.top k.y) p in
          let across : f.left ≤ k.x = leb-true _ _ l in
          let down : f.top ≤ k.y = leb-true _ _ t in
          (i, ap₂ at (omega arith) (omega arith));
      again = λ q h.
          let e : back (spot q) ≡ q = ap₂ at (omega arith) (omega arith) in
          let p : past (spot q) ≡ true =
          and_from _ _ (le-leb f.left (f.left + q.x) (omega arith)) (le-leb f.top (f.top + q.y) (omega arith)) in
          (and_from _ _ p (ap (inside field) e ∙ h), e);
    }
  where
    field : Sides ℕ
    field = (window_view f).sides s

    spot : Place → Place
    spot = (window_view f).spot s

    past : Place → Bool
    past k = leb f.left k.x && leb f.top k.y

    back : Place → Place
    back k = at (k.x - f.left) (k.y - f.top)

pub turn_backed : (t : Turn) → Backed (turn_view t)
turn_backed t s =
    record {
      has = inside s;
      back = forwards t s;
      there = λ k h. let e = turning.there t s k h in (e.within, e.back);
      again = λ q h. let e = turning.back t s q h in (e.within, e.again);
    }
