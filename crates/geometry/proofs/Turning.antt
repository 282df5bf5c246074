-- The laws of the turns, each by one argument over the three motions.
use Rattle.std.proofs.Common.{◌≡◌, ℕ, zero, suc, ◌<◌, Bool, true, false, refl, ap₂, arith}
use Rattle.geometry.specs.declared.place.Place.{Place}
use Rattle.geometry.specs.declared.place.Sides.{Sides}
use Rattle.geometry.specs.declared.turn.Turn.{Turn}
use Rattle.geometry.specs.Places.{inside, at, by}
use Rattle.geometry.specs.Turns.{turn, turn_of, code_of, mirror, field, forwards}
use Rattle.geometry.specs.TurnLaws.{Line, Table, There, Back, TurnLaws}
use Rattle.geometry.proofs.Insides.{Within, within, inside_from}

table : (w h x y : ℕ) → Table w h x y
table w h x y =
    record {
      line_0 = line 0;
      line_1 = line 1;
      line_2 = line 2;
      line_3 = line 3;
      line_4 = line 4;
      line_5 = line 5;
      line_6 = line 6;
      line_7 = line 7;
    }
  where
    line : (code : ℕ) →
        let p : Place = forwards (turn_of code) (by w h) (at x y) in
        let f : Sides ℕ = field (turn_of code) (by w h) in
        Line code w h x y p.x p.y f.width f.height
    line code = record { place = refl; sides = refl }

decoded : (code : ℕ) → code < 8 → code_of (turn_of code) ≡ code
decoded zero lt = refl
decoded (suc zero) lt = refl
decoded (suc (suc zero)) lt = refl
decoded (suc (suc (suc zero))) lt = refl
decoded (suc (suc (suc (suc zero)))) lt = refl
decoded (suc (suc (suc (suc (suc zero))))) lt = refl
decoded (suc (suc (suc (suc (suc (suc zero)))))) lt = refl
decoded (suc (suc (suc (suc (suc (suc (suc zero))))))) lt = refl
decoded (suc (suc (suc (suc (suc (suc (suc (suc n)))))))) lt = absurd (omega arith)

encoded : (t : Turn) → (code_of t < 8) × (turn_of (code_of t) ≡ t)
encoded t = go t.mirrored t.flipped t.transposed
  where
    go : (x y e : Bool) → (code_of (turn x y e) < 8) × (turn_of (code_of (turn x y e)) ≡ turn x y e)
    go true true true = (omega arith, refl)
    go true true false = (omega arith, refl)
    go true false true = (omega arith, refl)
    go true false false = (omega arith, refl)
    go false true true = (omega arith, refl)
    go false true false = (omega arith, refl)
    go false false true = (omega arith, refl)
    go false false false = (omega arith, refl)

pub mirror_inside : (b : Bool) (n x : ℕ) → x < n → mirror b n x < n
mirror_inside true n x h = omega arith
mirror_inside false n x h = h

pub mirror_twice : (b : Bool) (n x : ℕ) → x < n → mirror b n (mirror b n x) ≡ x
mirror_twice true n x h = omega arith
mirror_twice false n x h = refl

pub there : (t : Turn) (body : Sides ℕ) (p : Place) → inside body p ≡ true → There t body p
there t body p h = go t.transposed
  where
    i : Within body p
    i = within body p h

    w : ℕ
    w = body.width

    d : ℕ
    d = body.height

    go : (e : Bool) → There (turn t.mirrored t.flipped e) body p
    go true =
        record {
          within = inside_from (by d w) _ (mirror_inside t.flipped d p.y i.down) (mirror_inside t.mirrored w p.x i.across);
          back = ap₂ at (mirror_twice t.mirrored w p.x i.across) (mirror_twice t.flipped d p.y i.down);
        }
    go false =
        record {
          within = inside_from body _ (mirror_inside t.mirrored w p.x i.across) (mirror_inside t.flipped d p.y i.down);
          back = ap₂ at (mirror_twice t.mirrored w p.x i.across) (mirror_twice t.flipped d p.y i.down);
        }

pub back : (t : Turn) (body : Sides ℕ) (p : Place) → inside (field t body) p ≡ true → Back t body p
back t body p h = go t.transposed (within (field t body) p h)
  where
    w : ℕ
    w = body.width

    d : ℕ
    d = body.height

    go : (e : Bool) → Within (field (turn t.mirrored t.flipped e) body) p → Back (turn t.mirrored t.flipped e) body p
    go true i =
        record {
          within = inside_from body _ (mirror_inside t.mirrored w p.y i.down) (mirror_inside t.flipped d p.x i.across);
          again = ap₂ at (mirror_twice t.flipped d p.x i.across) (mirror_twice t.mirrored w p.y i.down);
        }
    go false i =
        record {
          within = inside_from body _ (mirror_inside t.mirrored w p.x i.across) (mirror_inside t.flipped d p.y i.down);
          again = ap₂ at (mirror_twice t.mirrored w p.x i.across) (mirror_twice t.flipped d p.y i.down);
        }

pub laws : TurnLaws
laws = record { table = table; decoded = decoded; encoded = encoded; there = there; back = back }
