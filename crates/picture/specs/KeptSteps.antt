-- Lemmas, here and not under proofs/ since ghost members cite them: what is kept over no change and over two.
use Rattle.std.specs.Prelude.{◌≡◌, ℕ, List, length, refl}
use Rattle.std.proofs.Common.{subst, ◌∙◌}
use Rattle.std.specs.List.{slice_get}
use Rattle.geometry.specs.declared.place.Sides.{Sides}
use Rattle.picture.specs.Picture.{Picture}
use Rattle.picture.specs.Runs.{Layout, fitting}
use Rattle.picture.specs.Views.{View}
use Rattle.picture.specs.Kept.{Keeps, UnshownSame, KeptRun, KeptBelow}
use Rattle.picture.specs.Stores.{bottom_kept, layer_kept}

kept_run_same : {A : Type 0} (layout : Layout) (sides : Sides ℕ) (run : List A) → KeptRun layout sides run sides run
kept_run_same layout sides run = record { same_sides = refl; same_length = refl; rest = λ k free. refl }

kept_run_chain : {A : Type 0} (layout : Layout) (s : Sides ℕ) (xs : List A) (t : Sides ℕ) (ys : List A) (u : Sides ℕ) (zs : List A) →
    KeptRun layout s xs t ys → KeptRun layout t ys u zs → KeptRun layout s xs u zs
kept_run_chain layout s xs t ys u zs a b =
    let Rest : Sides ℕ → ℕ → Type 0 = λ v n. UnshownSame (fitting layout v n) (layout.spot v.width) (slice_get ys) (slice_get zs) in
    let later : Rest s (length xs) = subst (Rest s) a.same_length (subst (λ v. Rest v (length ys)) a.same_sides b.rest) in
    record {
      same_sides = b.same_sides ∙ a.same_sides;
      same_length = b.same_length ∙ a.same_length;
      rest = λ k free. later k free ∙ a.rest k free;
    }

pub kept_below_same : {A : Type 0} (view : View) (p : Picture A) → KeptBelow view p p
kept_below_same view p = record { same_sides = refl; rest = λ k free. refl }

-- the second change is seen through an equal view
kept_below_chain : {A L : Type 0} (view : L → View) (l m : L) (p q r : Picture A) →
    m ≡ l → KeptBelow (view l) p q → KeptBelow (view m) q r → KeptBelow (view l) p r
kept_below_chain {L = L} view l m p q r e a b =
    let Rest : L → Sides ℕ → Type 0 = λ n s. UnshownSame ((view n).sides s) ((view n).spot s) q.at r.at in
    let later : Rest l p.sides = subst (Rest l) a.same_sides (subst (λ n. Rest n q.sides) e b.rest) in
    record { same_sides = b.same_sides ∙ a.same_sides; rest = λ k free. later k free ∙ a.rest k free }

pub bottom_keeps : {T L : Type 0} (layout : Layout) → Keeps (bottom_kept {T = T} {L = L} layout)
bottom_keeps layout =
    record {
      same = λ s. (kept_run_same layout _ _, refl);
      chain = λ s t u a b. (kept_run_chain layout _ _ _ _ _ _ a.0 b.0, b.1 ∙ a.1);
    }

pub layer_keeps : {S V A : Type 0} (view : V → View) (shown : S → Picture A) (kept : S → S → Type 0) → Keeps kept →
    Keeps (layer_kept view shown kept)
layer_keeps view shown kept keeps =
    record {
      same = λ s. (refl, keeps.same s.below, kept_below_same _ _);
      chain = λ s t u a b. (
        b.0 ∙ a.0,
        keeps.chain s.below t.below u.below a.1 b.1,
        kept_below_chain view _ _ _ _ _ a.0 a.2 b.2,
      );
    }
