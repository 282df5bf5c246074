-- Lemmas, here and not under proofs/ since ghost members cite them: what the four stores show is sound.
use Rattle.std.specs.Prelude.{◌≡◌, ℕ, zero, suc, ◌^◌, ◌<◌, Bool, true, false, cond, List, [], ◌∷◌, length, is_some, None, Option, refl}
use Rattle.std.proofs.Common.{◌∙◌, arith}
use Rattle.std.specs.List.{slice_get}
use Rattle.geometry.specs.declared.place.Place.{Place}
use Rattle.geometry.specs.declared.place.Sides.{Sides}
use Rattle.geometry.specs.Places.{inside, by}
use Rattle.geometry.proofs.Insides.{within}
use Rattle.picture.specs.Laws.{Fits, Lawful, Inner, Narrow}
use Rattle.picture.specs.Picture.{Picture, Sound, shown_by}
use Rattle.picture.specs.Runs.{Layout, fitting, laid}
use Rattle.picture.specs.Views.{View, viewed}

some_cond : {A : Type 0} (b : Bool) (o : Option A) → (b ≡ true → is_some o ≡ true) → is_some (cond b o None) ≡ b
some_cond true o h = h refl
some_cond false o h = refl

-- a source that has something at each spot shown makes a sound picture
pub shown_sound : {A X : Type 0} (sides : Sides ℕ) (spot : Place → X) (source : X → Option A) →
    sides.width < 2 ^ 32 → sides.height < 2 ^ 32 → ((q : Place) → inside sides q ≡ true → is_some (source (spot q)) ≡ true) →
    Sound (shown_by sides spot source)
shown_sound sides spot source w h there =
    record { across = w; down = h; full = λ q. some_cond (inside sides q) (source (spot q)) (there q) }

pub nth_in : {A : Type 0} (xs : List A) (i : ℕ) → i < length xs → is_some (slice_get xs i) ≡ true
nth_in [] i h = absurd (omega arith)
nth_in (x ∷ xs) zero h = refl
nth_in (x ∷ xs) (suc i) h = nth_in xs i (omega arith)

pub laid_room : (layout : Layout) → Lawful layout → (sides : Sides ℕ) (n : ℕ) (q : Place) →
    inside (fitting layout sides n) q ≡ true → layout.spot sides.width q < n
laid_room layout lawful sides n q = go (layout.takes sides n) (lawful sides n)
  where
    go : (b : Bool) → (b ≡ true → Fits layout sides n) → inside (cond b sides (by 0 0)) q ≡ true → layout.spot sides.width q < n
    go true fits h = (fits refl).room q h
    go false fits h = let none : q.x < 0 = (within (by 0 0) q h).across in absurd (omega arith)

pub laid_sound : {A : Type 0} (layout : Layout) → Lawful layout → (sides : Sides ℕ) (run : List A) → Sound (laid layout sides run)
laid_sound layout lawful sides run =
    shown_sound _ _ (slice_get run) (go (layout.takes sides n) (lawful sides n)).0 (go (layout.takes sides n) (lawful sides n)).1
    (λ q h. nth_in run (layout.spot sides.width q) (laid_room layout lawful sides n q h))
  where
    n : ℕ
    n = length run

    go : (b : Bool) → (b ≡ true → Fits layout sides n) → ((cond b sides (by 0 0)).width < 2 ^ 32) × ((cond b sides (by 0 0)).height < 2 ^ 32)
    go true fits = let f : Fits layout sides n = fits refl in (omega (arith, f.across), omega (arith, f.down))
    go false fits = (omega arith, omega arith)

-- a view that shows places inside makes a sound picture of one, if the sides shown fit 32 bits
pub viewed_sound : {A : Type 0} (view : View) → Inner view → (p : Picture A) → Sound p →
    (view.sides p.sides).width < 2 ^ 32 → (view.sides p.sides).height < 2 ^ 32 → Sound (viewed view p)
viewed_sound view inner p sound w h =
    shown_sound _ _ p.at w h (λ q i. sound.full (view.spot p.sides q) ∙ inner p.sides q i)

-- so of every sound picture, if the sides shown always fit
pub narrow_sound : {A : Type 0} (view : View) → Inner view → Narrow view → (p : Picture A) → Sound p → Sound (viewed view p)
narrow_sound view inner narrow p sound =
    let (w, h) = narrow p.sides sound.across sound.down in viewed_sound view inner p sound w h
