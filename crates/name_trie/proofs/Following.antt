-- To which node a text leads: byte by byte, and no other text to the same.
use Rattle.std.specs.Prelude.{◌≡◌, ℕ, ◌<◌, List, [], ◌∷◌, ◌++◌, Option, Some, None, option_and_then, reverse, refl}
use Rattle.std.proofs.Common.{sym, ◌∙◌, ap, arith}
use Rattle.std.proofs.lemmas.List.{reverse-append, reverse-reverse}
use Rattle.name_trie.specs.Tree.{NextNode, follow, AreTree}

-- ---- one byte more

then-some : (o : Option ℕ) → option_and_then (λ m. Some m) o ≡ o
then-some None = refl
then-some (Some m) = refl

pub follow-more : (s : NextNode) (node : ℕ) (text : List ℕ) (b : ℕ) → follow s node (text ++ b ∷ []) ≡ option_and_then (λ m. s m b) (follow s node text)
follow-more s node [] b = then-some (s node b)
follow-more s node (x ∷ xs) b = by (s node x) (λ m. follow-more s m xs b)
  where
    by : (o : Option ℕ) → ((m : ℕ) → follow s m (xs ++ b ∷ []) ≡ option_and_then (λ k. s k b) (follow s m xs))
        → option_and_then (λ m. follow s m (xs ++ b ∷ [])) o ≡ option_and_then (λ k. s k b) (option_and_then (λ m. follow s m xs) o)
    by None rest = refl
    by (Some m) rest = rest m

-- ---- back from a node

record Came (f : ℕ → Option ℕ) (o : Option ℕ) (m : ℕ) : Type 0 where
  from : ℕ
  there : o ≡ Some from
  on : f from ≡ Some m

came : (f : ℕ → Option ℕ) (o : Option ℕ) (m : ℕ) → option_and_then f o ≡ Some m → Came f o m
came f None m e = absurd cc
came f (Some k) m e = record { from = k; there = refl; on = e }

-- the text that ends in a byte
turned-more : (s : NextNode) (x : ℕ) (xs : List ℕ) → follow s 0 (reverse (x ∷ xs)) ≡ option_and_then (λ k. s k x) (follow s 0 (reverse xs))
turned-more s x xs = ap (follow s 0) (reverse-append (x ∷ []) xs) ∙ follow-more s 0 (reverse xs) x

not-root : (s : NextNode) (count x : ℕ) (xs : List ℕ) → AreTree s count → follow s 0 (reverse (x ∷ xs)) ≡ Some 0 → ⊥
not-root s count x xs tree e =
    let c = came (λ k. s k x) (follow s 0 (reverse xs)) 0 (sym (turned-more s x xs) ∙ e) in
    let h : 0 < 0 = (tree.to_node c.from x 0 c.on).0 in
    omega (arith, h)

-- of texts that are read from their ends
one-turned : (s : NextNode) (count : ℕ) → AreTree s count → (xs ys : List ℕ) (m : ℕ) → follow s 0 (reverse xs) ≡ Some m → follow s 0 (reverse ys) ≡ Some m → xs ≡ ys
one-turned s count tree [] [] m e f = refl
one-turned s count tree (x ∷ xs) [] m e f = absurd (not-root s count x xs tree (e ∙ sym f))
one-turned s count tree [] (y ∷ ys) m e f = absurd (not-root s count y ys tree (f ∙ sym e))
one-turned s count tree (x ∷ xs) (y ∷ ys) m e f =
    let c = came (λ k. s k x) (follow s 0 (reverse xs)) m (sym (turned-more s x xs) ∙ e) in
    let d = came (λ k. s k y) (follow s 0 (reverse ys)) m (sym (turned-more s y ys) ∙ f) in
    let same = tree.apart c.from x d.from y m c.on d.on in
    (λ i. same.1 i ∷ one-turned s count tree xs ys d.from (c.there ∙ ap (λ k. Some k) same.0) d.there i)

pub one-text : (s : NextNode) (count : ℕ) (xs ys : List ℕ) (m : ℕ) → AreTree s count → follow s 0 xs ≡ Some m → follow s 0 ys ≡ Some m → xs ≡ ys
one-text s count xs ys m tree e f =
    sym (reverse-reverse xs) ∙ ap reverse (one-turned s count tree (reverse xs) (reverse ys) m (ap (follow s 0) (reverse-reverse xs) ∙ e) (ap (follow s 0) (reverse-reverse ys) ∙ f))
    ∙ reverse-reverse ys
