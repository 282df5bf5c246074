-- What a jump passes over is taken: to the right, and down.
use Rattle.std.proofs.Common.{◌≡◌, ℕ, ◌+◌, ◌<◌, ◌≤◌, min, Bool, true, false, cond, ◌||◌, ltb, leb, ◌⊎◌, List, [], ◌∷◌, length, get_or, drop, sym, refl, ◌∙◌, inl, inr, arith}
use Rattle.std.proofs.lemmas.List.{at_drop_more, at_drop_all}
use Rattle.std.proofs.lemmas.Bool.{and_parts, and_from, or_parts, or_left, or_right, leb-true, ltb-true, ltb-false, le-leb, lt-ltb, le-ltb, cond-true, cond-false, cond_both, cases_Bool, cases_lt, both_ways, not-false, not_from_true}
use Rattle.geometry.specs.declared.bounds.Bounds.{Bounds}
use Rattle.geometry.specs.Boxes.{lies, has, covers}
use Rattle.geometry.specs.FirstFree.{first_left, clear}
use Rattle.geometry.specs.Jumps.{past, next}
use Rattle.geometry.proofs.Leasts as leasts

pub lies_in : (lo hi x : ℕ) → lies lo hi x ≡ true → (lo ≤ x) × (x < hi)
lies_in lo hi x h = let (a, b) = and_parts (leb lo x) (ltb x hi) h in (leb-true lo x a, ltb-true x hi b)

pub in_lies : (lo hi x : ℕ) → lo ≤ x → x < hi → lies lo hi x ≡ true
in_lies lo hi x a b = and_from (leb lo x) (ltb x hi) (le-leb lo x a) (lt-ltb x hi b)

-- a box's test, by its two sides
has_parts : (o : Bounds) (t l : ℕ) → has o t l ≡ true → (lies o.top o.bottom t ≡ true) × (lies o.left o.right l ≡ true)
has_parts o t l h = and_parts (lies o.top o.bottom t) (lies o.left o.right l) h

-- a box that has a spot has those to its right up to the box's end, and those below
has_right : (o : Bounds) (t l l' : ℕ) → has o t l ≡ true → l ≤ l' → l' < o.right → has o t l' ≡ true
has_right o t l l' h a b =
    let (ht, hl) = has_parts o t l h in
    let (from, _) = lies_in o.left o.right l hl in
    and_from (lies o.top o.bottom t) (lies o.left o.right l') ht (in_lies o.left o.right l' (omega arith) b)

has_down : (o : Bounds) (t t' l : ℕ) → has o t l ≡ true → t ≤ t' → t' < o.bottom → has o t' l ≡ true
has_down o t t' l h a b =
    let (ht, hl) = has_parts o t l h in
    let (from, _) = lies_in o.top o.bottom t ht in
    and_from (lies o.top o.bottom t') (lies o.left o.right l) (in_lies o.top o.bottom t' (omega arith) b) hl

in_tail : (a b : Bool) → a ≡ false → (a || b) ≡ true → b ≡ true
in_tail a b e h = rw e at h

-- a jump from a taken spot goes to the right, over taken spots
past_jump : (os : List Bounds) (t l : ℕ) → covers os t l ≡ true →
    (l < past os t l) × ((l' : ℕ) → l ≤ l' → l' < past os t l → covers os t l' ≡ true)
past_jump [] t l h = absurd (both_ways false refl h)
past_jump (o ∷ os) t l h =
    cond_both (has o t l) o.right (past os t l)
    (λ r. (l < r) × ((l' : ℕ) → l ≤ l' → l' < r → covers (o ∷ os) t l' ≡ true))
    (λ e.
    let (_, hl) = has_parts o t l e in
    ((lies_in o.left o.right l hl).1, λ l' a b. or_left (has o t l') (covers os t l') (has_right o t l l' e a b)))
    (λ e.
    let (lt, all) = past_jump os t l (in_tail (has o t l) (covers os t l) e h) in
    (lt, λ l' a b. or_right (has o t l') (covers os t l') (all l' a b)))

-- a jump from a free spot goes nowhere
past_free : (os : List Bounds) (t l : ℕ) → covers os t l ≡ false → past os t l ≡ l
past_free [] t l h = refl
past_free (o ∷ os) t l h =
    let (a, b) = or_parts (has o t l) (covers os t l) h in
    cond-false (has o t l) o.right (past os t l) a ∙ past_free os t l b

pub past_same : (os : List Bounds) (t l : ℕ) → past os t l ≡ l → covers os t l ≡ false
past_same os t l e =
    elim (cases_Bool (covers os t l)) [ inl h ↦ absurd (omega (arith, (past_jump os t l h).0)) | inr h ↦ h ]

pub past_up : (os : List Bounds) (t l : ℕ) → (past os t l ≡ l → ⊥) → l < past os t l
past_up os t l ne =
    elim (cases_Bool (covers os t l)) [ inl h ↦ (past_jump os t l h).0 | inr h ↦ absurd (ne (past_free os t l h)) ]

-- where all spots up to here are taken, so are all up to the end of the jump
pub past_all : (os : List Bounds) (t l : ℕ) → ((l' : ℕ) → l' < l → covers os t l' ≡ true) →
    (l' : ℕ) → l' < past os t l → covers os t l' ≡ true
past_all os t l all l' lt = go (cases_lt l' l) (cases_Bool (covers os t l))
  where
    go : ((l' < l) ⊎ (l ≤ l')) → ((covers os t l ≡ true) ⊎ (covers os t l ≡ false)) → covers os t l' ≡ true
    go (inl a) b = all l' a
    go (inr a) (inl b) = (past_jump os t l b).1 l' a lt
    go (inr a) (inr b) = all l' (omega (arith, past_free os t l b))

next_most : (os : List Bounds) (H t : ℕ) → next os H t ≤ H
next_most [] H t = omega arith
next_most (o ∷ os) H t =
    cond_both (lies o.top o.bottom t) (min o.bottom (next os H t)) (next os H t) (λ r. r ≤ H)
    (λ e. omega (arith, next_most os H t)) (λ e. next_most os H t)

-- a jump down moves
pub next_moves : (os : List Bounds) (H t : ℕ) → t < H → t < next os H t
next_moves [] H t h = h
next_moves (o ∷ os) H t h =
    cond_both (lies o.top o.bottom t) (min o.bottom (next os H t)) (next os H t) (λ r. t < r)
    (λ e. omega (arith, next_moves os H t h, (lies_in o.top o.bottom t e).1)) (λ e. next_moves os H t h)

next_tail : (o : Bounds) (os : List Bounds) (H t : ℕ) → next (o ∷ os) H t ≤ next os H t
next_tail o os H t =
    cond_both (lies o.top o.bottom t) (min o.bottom (next os H t)) (next os H t) (λ r. r ≤ next os H t)
    (λ e. omega arith) (λ e. omega arith)

next_head : (o : Bounds) (os : List Bounds) (H t : ℕ) → lies o.top o.bottom t ≡ true → next (o ∷ os) H t ≤ o.bottom
next_head o os H t e =
    omega (arith, cond-true (lies o.top o.bottom t) (min o.bottom (next os H t)) (next os H t) e)

-- what is taken at a top is taken at every top that the jump passes
next_jump : (os : List Bounds) (H t t' l : ℕ) → covers os t l ≡ true → t ≤ t' → t' < next os H t → covers os t' l ≡ true
next_jump [] H t t' l h a b = h
next_jump (o ∷ os) H t t' l h a b = go (next_jump os H t t' l) (cases_Bool (has o t l))
  where
    go : (covers os t l ≡ true → t ≤ t' → t' < next os H t → covers os t' l ≡ true) →
        ((has o t l ≡ true) ⊎ (has o t l ≡ false)) → covers (o ∷ os) t' l ≡ true
    go ih (inl e) =
        let (ht, _) = has_parts o t l e in
        or_left (has o t' l) (covers os t' l) (has_down o t t' l e a (omega (arith, next_head o os H t ht)))
    go ih (inr e) =
        or_right (has o t' l) (covers os t' l)
        (ih (in_tail (has o t l) (covers os t l) e h) a (omega (arith, next_tail o os H t)))

-- at a top without a free spot every spot is taken
shut : (os : List Bounds) (W t l : ℕ) → ltb (first_left (clear os) W t) W ≡ false → l < W → covers os t l ≡ true
shut os W t l e lt =
    not-false (covers os t l) ((leasts.is_least W (clear os t)).first l (omega (arith, ltb-false (first_left (clear os) W t) W e)))

-- so the tops that the jump passes have none either
pub shut_below : (os : List Bounds) (H W t : ℕ) → ltb (first_left (clear os) W t) W ≡ false →
    (t' : ℕ) → t ≤ t' → t' < next os H t → ltb (first_left (clear os) W t') W ≡ false
shut_below os H W t e t' a b =
    le-ltb (first_left (clear os) W t') W
    (omega (
      arith,
      leasts.none W (clear os t') W (omega arith)
          (λ l lt. not_from_true (covers os t' l) (next_jump os H t t' l (shut os W t l e lt) a b)),
    ))

-- the steps of the loop that looks for the box to jump past
pub past_here : (os : List Bounds) (t l i : ℕ) (d : Bounds) → i < length os → past os t l ≡ past (drop i os) t l →
    true ≡ has (get_or os i d) t l → (get_or os i d).right ≡ past os t l
past_here os t l i d lt inv h =
    sym (inv ∙ at_drop_more (λ xs. past xs t l) os i d lt
    ∙ cond-true (has (get_or os i d) t l) (get_or os i d).right (past (drop (i + 1) os) t l) (sym h))

pub past_more : (os : List Bounds) (t l i : ℕ) (d : Bounds) → i < length os → past os t l ≡ past (drop i os) t l →
    false ≡ has (get_or os i d) t l → past os t l ≡ past (drop (i + 1) os) t l
past_more os t l i d lt inv h =
    inv ∙ at_drop_more (λ xs. past xs t l) os i d lt
    ∙ cond-false (has (get_or os i d) t l) (get_or os i d).right (past (drop (i + 1) os) t l) (sym h)

pub past_end : (os : List Bounds) (t l i : ℕ) → length os ≤ i → past os t l ≡ past (drop i os) t l → l ≡ past os t l
past_end os t l i le inv = sym (inv ∙ at_drop_all (λ xs. past xs t l) os i le)

-- what the loop that looks for the nearest end keeps: its end so far, and what is left to look at
pub record Nearest (os : List Bounds) (H t i end : ℕ) : Type 0 where
  pub rest : min end (next (drop i os) H t) ≡ next os H t
  pub most : end ≤ H

pub nearest_none : (os : List Bounds) (H t : ℕ) → Nearest os H t 0 H
nearest_none os H t = record { rest = omega (arith, next_most os H t); most = omega arith }

pub nearest_more : (os : List Bounds) (H t i end end' : ℕ) (d : Bounds) → i < length os → Nearest os H t i end →
    ((lies (get_or os i d).top (get_or os i d).bottom t ≡ true) × (end' ≡ min end (get_or os i d).bottom))
    ⊎ ((lies (get_or os i d).top (get_or os i d).bottom t ≡ false) × (end' ≡ end)) →
    Nearest os H t (i + 1) end'
nearest_more os H t i end end' d lt n way = go way
  where
    o : Bounds
    o = get_or os i d

    later : ℕ
    later = next (drop (i + 1) os) H t

    here : next (drop i os) H t ≡ cond (lies o.top o.bottom t) (min o.bottom later) later
    here = at_drop_more (λ xs. next xs H t) os i d lt

    go : ((lies o.top o.bottom t ≡ true) × (end' ≡ min end o.bottom))
        ⊎ ((lies o.top o.bottom t ≡ false) × (end' ≡ end)) → Nearest os H t (i + 1) end'
    go (inl (e, v)) =
        let s : next (drop i os) H t ≡ min o.bottom later = here ∙ cond-true (lies o.top o.bottom t) (min o.bottom later) later e in
        record { rest = omega (arith, s, n.rest, v); most = omega (arith, n.most, v) }
    go (inr (e, v)) =
        let s : next (drop i os) H t ≡ later = here ∙ cond-false (lies o.top o.bottom t) (min o.bottom later) later e in
        record { rest = omega (arith, s, n.rest, v); most = omega (arith, n.most, v) }

pub nearest_all : (os : List Bounds) (H t i end : ℕ) → length os ≤ i → Nearest os H t i end → end ≡ next os H t
nearest_all os H t i end le n =
    let s : next (drop i os) H t ≡ H = at_drop_all (λ xs. next xs H t) os i le in omega (arith, n.rest, n.most)
