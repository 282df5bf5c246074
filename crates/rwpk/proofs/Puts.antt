-- Writes into a buffer, one after the other.
use Rattle.std.proofs.Common.{◌≡◌, ℕ, ◌+◌, ◌*◌, ◌≤◌, List, ◌++◌, length, take, drop, sym, refl, ap, ◌∙◌, append_assoc, add_assoc, arith, length-append}
use Rattle.std.proofs.lemmas.List.{take_at, drop_at, drop-drop, length-take-le}
use Rattle.rwpk.specs.Bytes.{word_bytes}
use Rattle.rwpk.specs.Writing.{put_at}
use Rattle.rwpk.proofs.Numbers.{word_long}

join : (out : List ℕ) (a : ℕ) (xs ys : List ℕ) → a + length xs ≤ length out →
    put_at (put_at out a xs) (a + length xs) ys ≡ put_at out a (xs ++ ys)
join out a xs ys h =
    let b : ℕ = a + length xs in
    let p : List ℕ = take a out ++ xs in
    let len : length p ≡ b = length-append (take a out) xs ∙ ap (λ n. n + length xs) (length-take-le a out (omega arith)) in
    let split : put_at out a xs ≡ p ++ drop b out = sym (append_assoc (take a out) xs (drop b out)) in
    let rest : drop (b + length ys) (p ++ drop b out) ≡ drop (a + length (xs ++ ys)) out =
    sym (drop-drop (length ys) b (p ++ drop b out))
    ∙ ap (drop (length ys)) (drop_at p (drop b out) b len)
    ∙ drop-drop (length ys) b out
    ∙ ap (λ n. drop n out) (add_assoc a (length xs) (length ys) ∙ ap (λ n. a + n) (sym (length-append xs ys))) in
    ap (λ ws. put_at ws b ys) split
    ∙ ap (λ ws. ws ++ (ys ++ drop (b + length ys) (p ++ drop b out))) (take_at p (drop b out) b len)
    ∙ ap (λ ws. p ++ (ys ++ ws)) rest
    ∙ append_assoc (take a out) xs (ys ++ drop (a + length (xs ++ ys)) out)
    ∙ ap (λ ws. take a out ++ ws) (sym (append_assoc xs ys (drop (a + length (xs ++ ys)) out)))

-- a write right after another is one write: `was` is the buffer before the write of zs, which is ys, and `new` the one after it
pub put_next : {was new zs : List ℕ} (out : List ℕ) (a b : ℕ) (xs ys : List ℕ) → was ≡ put_at out a xs → new ≡ put_at was b zs → zs ≡ ys →
    b ≡ a + length xs → b ≤ length out → new ≡ put_at out a (xs ++ ys)
put_next {was} {new} {zs} out a b xs ys e f is h k =
    f
    ∙ ap (λ ws. put_at ws b zs) e
    ∙ ap (put_at (put_at out a xs) b) is
    ∙ ap (λ n. put_at (put_at out a xs) n ys) h
    ∙ join out a xs ys (omega arith)

-- two numbers of n bytes, one after the other
pub put_two : {o1 o2 : List ℕ} {p1 : ℕ} (n : ℕ) (out : List ℕ) (p a b : ℕ) → o1 ≡ put_at out p (word_bytes n a) →
    o2 ≡ put_at o1 p1 (word_bytes n b) → p1 ≡ p + n → p + 2 * n ≤ length out → o2 ≡ put_at out p (word_bytes n a ++ word_bytes n b)
put_two {o1} {o2} {p1} n out p a b e1 e2 at h =
    put_next out p p1 (word_bytes n a) (word_bytes n b) e1 e2 refl (omega (arith, word_long n a)) (omega arith)

-- and four of them
pub put_four : {o1 o2 o3 o4 : List ℕ} {p1 p2 p3 : ℕ} (n : ℕ) (out : List ℕ) (p a b c d : ℕ) → o1 ≡ put_at out p (word_bytes n a) →
    o2 ≡ put_at o1 p1 (word_bytes n b) → o3 ≡ put_at o2 p2 (word_bytes n c) → o4 ≡ put_at o3 p3 (word_bytes n d) →
    p1 ≡ p + n → p2 ≡ p + 2 * n → p3 ≡ p + 3 * n → p + 4 * n ≤ length out →
    o4 ≡ put_at out p (word_bytes n a ++ (word_bytes n b ++ (word_bytes n c ++ word_bytes n d)))
put_four {o1} {o2} {o3} {o4} {p1} {p2} {p3} n out p a b c d e1 e2 e3 e4 at1 at2 at3 h =
    let A : List ℕ = word_bytes n a in
    let B : List ℕ = word_bytes n b in
    let C : List ℕ = word_bytes n c in
    let D : List ℕ = word_bytes n d in
    let two : length (A ++ B) ≡ 2 * n = omega (arith, length-append A B, word_long n a, word_long n b) in
    let three : length ((A ++ B) ++ C) ≡ 3 * n = omega (arith, two, length-append (A ++ B) C, word_long n c) in
    put_next out p p3 ((A ++ B) ++ C) D
    (put_next out p p2 (A ++ B) C (put_two n out p a b e1 e2 at1 (omega arith)) e3 refl (omega (arith, two)) (omega arith))
    e4 refl (omega (arith, three)) (omega arith)
    ∙ ap (put_at out p) (append_assoc (A ++ B) C D ∙ append_assoc A B (C ++ D))
