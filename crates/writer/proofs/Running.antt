-- Runs of a job over one buffer.
use Rattle.std.proofs.Common.{◌≡◌, ℕ, zero, suc, ◌+◌, ◌<◌, ◌≤◌, Bool, true, false, cond, eqb, ltb, List, [], ◌∷◌, ◌++◌, length, is_ok, Ok, Err, Result, sym, refl, ap, ◌∙◌, subst, arith, length-append, length-drop, length-take}
use Rattle.std.proofs.lemmas.Bool.{ltb-false, eqb-true, true≢false, cond-true, cond-false, eq-eqb, le-ltb}
use Rattle.refusal.specs.declared.Refusal.{Refusal}
use Rattle.refusal.specs.declared.Refusal.TheVariants.{NoRows, AllWritten, PartDue, BufferShort}
use Rattle.rwpk.specs.Boxes.{box_of_bytes}
use Rattle.rwpk.specs.Bytes.{word_bytes, head_bytes, rows_bytes, box_of}
use Rattle.rwpk.specs.Parts.{part_at, parts_before, place_of}
use Rattle.rwpk.specs.Writing.{put_at, part_answer, part_out}
use Rattle.rwpk.proofs.Copied.{parts_next}
use Rattle.rwpk.proofs.Parted.{all_parts, parts_end, rows_long}
use Rattle.rwpk.proofs.Puts.{put_next}
use Rattle.sheet.specs.Rules.{Content}
use Rattle.writer.specs.Runs.{done_after, HandedOn, Finished, ReadsBack, Sealing}
use Rattle.writer.specs.Steps.{step_answer, step_done, seal_answer, seal_out}

-- a granted call passed each of its tests
test_passed : (b : Bool) (e : Refusal) (x : Result ℕ Refusal) (n : ℕ) → Ok n ≡ cond b (Err e) x → (b ≡ false) × (Ok n ≡ x)
test_passed true e x n h = let z : ◌≡◌ {A = ℕ} 0 1 = cc in absurd (omega arith)
test_passed false e x n h = (refl, h)

-- and a granted seal came after all the parts
seal_passed : (b : Bool) (x : Result ℕ Refusal) (n : ℕ) → Ok n ≡ cond b x (Err PartDue) → (b ≡ true) × (Ok n ≡ x)
seal_passed true x n h = (refl, h)
seal_passed false x n h = let z : ◌≡◌ {A = ℕ} 0 1 = cc in absurd (omega arith)

-- a granted part was due, had room, and its length is answered
pub record Stepped (c : Content) (k p n : ℕ) (out : List ℕ) : Type 0 where
  pub due : k ≤ length c.rows
  pub room : p + length (part_at c k) ≤ length out
  pub long : n ≡ length (part_at c k)

pub part_passed : (c : Content) (k p n : ℕ) (out : List ℕ) → Ok n ≡ part_answer c k out p → Stepped c k p n out
part_passed c k p n out e =
    let (b, e2) = test_passed (ltb (length c.rows) k) AllWritten _ n e in
    let (d, e3) = test_passed (ltb (length out) (p + length (part_at c k))) BufferShort (Ok (length (part_at c k))) n e2 in
    record { due = ltb-false (length c.rows) k b; room = ltb-false (length out) (p + length (part_at c k)) d; long = cc }

-- once k parts are written to one buffer it begins with them, and the rest is as it was
record Begun (c : Content) (start : List ℕ) (k : ℕ) (out : List ℕ) : Type 0 where
  pub holds : out ≡ put_at start 0 (parts_before c k)
  pub long : length out ≡ length start

length_put : (out : List ℕ) (p : ℕ) (bytes : List ℕ) → p + length bytes ≤ length out → length (put_at out p bytes) ≡ length out
length_put out p bytes h = simp (length-append, length-take, length-drop) (omega arith)

begun_step : (c : Content) (start : List ℕ) (k n : ℕ) (out : List ℕ) → Begun c start k out → Ok n ≡ step_answer c k out →
    Begun c start (k + 1) (put_at out (place_of c k) (part_at c k))
begun_step c start k n out b e =
    let (some, e1) = test_passed (eqb (length c.rows) 0) NoRows _ n e in
    let s : Stepped c k (place_of c k) n out = part_passed c k (place_of c k) n out e1 in
    record {
      holds =
          put_next start 0 (place_of c k) (parts_before c k) (part_at c k) b.holds refl refl (omega arith) (omega (arith, b.long, s.room))
          ∙ ap (put_at start 0) (sym (parts_next c k s.due));
      long = length_put out (place_of c k) (part_at c k) s.room ∙ b.long;
    }

-- granted or refused
begun_either : (c : Content) (start : List ℕ) (k : ℕ) (o out : List ℕ) (r : Result ℕ Refusal) → r ≡ step_answer c k o →
    (is_ok r ≡ true → o ≡ out) → Begun c start k out → Begun c start (step_done r k) (part_out r out (place_of c k) (part_at c k))
begun_either c start k o out (Ok n) e same b = begun_step c start k n out b (e ∙ ap (step_answer c k) (same refl))
begun_either c start k o out (Err x) e same b = b

-- all the steps
begun_all : (c : Content) (start : List ℕ) (k : ℕ) (out : List ℕ) (outs : List (List ℕ)) (last : List ℕ) → Begun c start k out →
    HandedOn c k out outs last → Begun c start (done_after c k outs) last
begun_all c start k out [] last b h = subst (λ o. Begun c start k o) (sym h) b
begun_all c start k out (o ∷ outs) last b (same, h) =
    begun_all c start (step_done (step_answer c k o) k) (part_out (step_answer c k o) out (place_of c k) (part_at c k)) outs last
    (begun_either c start k o out (step_answer c k o) refl same b) h

-- the size over the first four bytes
sized : (c : Content) (n : ℕ) (start : List ℕ) →
    put_at (put_at start 0 (head_bytes 0 (length c.rows) c.sides ++ rows_bytes c.rows)) 0 (word_bytes 4 n)
    ≡ put_at start 0 (head_bytes n (length c.rows) c.sides ++ rows_bytes c.rows)
sized c n start = refl

-- once sealed, the buffer begins with the box
begun_seal : (c : Content) (start : List ℕ) (k n : ℕ) (out : List ℕ) → Begun c start k out → Ok n ≡ seal_answer c k out →
    seal_out (Ok n) out ≡ put_at start 0 (box_of c)
begun_seal c start k n out b e =
    let (all, e1) = seal_passed (eqb k (suc (length c.rows))) _ n e in
    let (room, same) = test_passed (ltb (length out) (length (box_of c))) BufferShort (Ok (length (box_of c))) n e1 in
    let here : k ≡ suc (length c.rows) = eqb-true k (suc (length c.rows)) all in
    let is : n ≡ length (box_of c) = cc in
    let size : n ≡ 26 + length (rows_bytes c.rows) = omega arith in
    ap (λ o. put_at o 0 (word_bytes 4 n)) (b.holds ∙ ap (λ j. put_at start 0 (parts_before c j)) here ∙ ap (put_at start 0) (all_parts c))
    ∙ sized c n start
    ∙ ap (λ m. put_at start 0 (head_bytes m (length c.rows) c.sides ++ rows_bytes c.rows)) size

-- no step is granted without rows, and so no seal
none_done : (c : Content) → length c.rows ≡ 0 → (k : ℕ) (outs : List (List ℕ)) → done_after c k outs ≡ k
none_done c none k [] = refl
none_done c none k (o ∷ outs) =
    ap (λ r. done_after c (step_done r k) outs) (cond-true (eqb (length c.rows) 0) (Err NoRows) _ (eq-eqb (length c.rows) 0 none))
    ∙ none_done c none k outs

rows_there : (c : Content) (outs : List (List ℕ)) (k n : ℕ) (out : List ℕ) → done_after c 0 outs ≡ k → Ok n ≡ seal_answer c k out →
    0 < length c.rows
rows_there c outs k n out done e =
    let (all, rest) = seal_passed (eqb k (suc (length c.rows))) _ n e in
    let here : k ≡ suc (length c.rows) = eqb-true k (suc (length c.rows)) all in
    go (length c.rows) refl here
  where
    go : (m : ℕ) → length c.rows ≡ m → k ≡ suc (length c.rows) → 0 < length c.rows
    go zero is here = let z : 0 ≡ k = sym (none_done c is 0 outs) ∙ done in absurd (omega arith)
    go (suc m) is here = omega arith

-- the law over whole runs
pub finished : (c : Content) (k : ℕ) (out : List ℕ) (r : Result ℕ Refusal) (new : List ℕ) → r ≡ seal_answer c k out → new ≡ seal_out r out →
    Finished c k out r new
finished c k out r new is e start outs h done ok = e ∙ go r is ok
  where
    begun : Begun c start k out
    begun = subst (λ j. Begun c start j out) done (begun_all c start 0 start outs out (record { holds = refl; long = refl }) h)

    go : (x : Result ℕ Refusal) → x ≡ seal_answer c k out → is_ok x ≡ true → seal_out x out ≡ put_at start 0 (box_of c)
    go (Err y) i o = absurd (true≢false (sym o))
    go (Ok n) i o = begun_seal c start k n out begun i

-- and what a granted seal finished is read back
pub reads_back : (c : Content) (k : ℕ) (out : List ℕ) (r : Result ℕ Refusal) → r ≡ seal_answer c k out →
    (0 < length c.rows → box_of_bytes (box_of c) ≡ Ok c) → ReadsBack c k r
reads_back c k out r is back outs done ok = back (some r is ok)
  where
    some : (x : Result ℕ Refusal) → x ≡ seal_answer c k out → is_ok x ≡ true → 0 < length c.rows
    some (Err y) i o = absurd (true≢false (sym o))
    some (Ok n) i o = rows_there c outs k n out done i

pub sealing : (c : Content) (k place : ℕ) → length c.rows ≤ 255 → place ≡ place_of c k → Sealing c k place
sealing c k place few at =
    record {
      end = λ e. at ∙ ap (place_of c) e ∙ parts_end c;
      large = omega arith;
      small = omega (arith, rows_long c.rows);
      run = λ out r is. finished c k out r (seal_out r out) is refl;
    }

pub seal_granted : (c : Content) (k place : ℕ) (out : List ℕ) → k ≡ suc (length c.rows) → place ≡ length (box_of c) →
    length (box_of c) ≤ length out → Ok place ≡ seal_answer c k out
seal_granted c k place out all end room =
    ap Ok end
    ∙ sym (cond-true (eqb k (suc (length c.rows))) _ (Err PartDue) (eq-eqb k (suc (length c.rows)) all)
    ∙ cond-false (ltb (length out) (length (box_of c))) (Err BufferShort) (Ok (length (box_of c))) (le-ltb (length out) (length (box_of c)) room))
