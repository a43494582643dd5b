-- The names that lead to a scope are those of the scopes that it stands in.
use Rattle.std.proofs.Common.{◌≡◌, ℕ, zero, suc, ◌<◌, List, [], ◌∷◌, ◌++◌, length, reverse, refl, sym, ◌∙◌, ap, subst, arith, append_assoc, append-nil}
use Rattle.std.specs.Prelude.{All, map, Option, Some, None, IfSome, Result, Ok, Err, OnOk, is_ok, if◌then◌else◌}
use Rattle.std.proofs.lemmas.List.{reverse-append, map-append, length-map}
use Rattle.std.proofs.lemmas.List.Elements.{All-nil, All-cons, All-head, All-tail}
use Rattle.sg_circuit.specs.declared.circuits.Parts.{Parts}
use Rattle.sg_circuit.specs.Seen.{circuit_seen, scope_seen}
use Rattle.sg_circuit.specs.Circuit.{Circuit, scope_at}
use Rattle.sg_circuit.specs.Closed.{IsClosed}
use Rattle.written_model.specs.Names.{name_text, names_text, below, names_in, names_to}
use Rattle.written_text.specs.Instances.{above, chain_in, chain, marked_names}
use Rattle.written_model.specs.Text.{instance_text}

abbrev name_at : Circuit → ℕ → List ℕ
name_at c s = (scope_at c s).name

-- turns that are enough: scopes stand after their parents
module _ (c : Circuit) (parents : (s : ℕ) → s < length c.scopes → IfSome (scope_at c s).parent (λ p. p < s)) where
  pub enough : (t u s : ℕ) → s < t → s < u → s < length c.scopes → chain_in t c s ≡ chain_in u c s
  enough zero u s l m n = absurd (omega (arith, l))
  enough (suc t) zero s l m n = absurd (omega (arith, m))
  enough (suc t) (suc u) s l m n = by (scope_at c s).parent (parents s n) (enough t u)
    where
      by : (o : Option ℕ) → IfSome o (λ p. p < s) → ((r : ℕ) → r < t → r < u → r < length c.scopes → chain_in t c r ≡ chain_in u c r) → above (chain_in t c) s o ≡ above (chain_in u c) s o
      by None h rec = refl
      by (Some p) h rec = ap (λ x. s ∷ x) (rec p (omega (arith, h, l)) (omega (arith, h, m)) (omega (arith, h, n)))

  pub chain_top : (s : ℕ) → s < length c.scopes → (scope_at c s).parent ≡ None → chain c s ≡ []
  chain_top s l e = enough (length c.scopes) (suc s) s l (omega arith) l ∙ ap (λ o. above (chain_in s c) s o) e

  pub chain_more : (s p : ℕ) → s < length c.scopes → (scope_at c s).parent ≡ Some p → p < s → chain c s ≡ s ∷ chain c p
  chain_more s p l e m =
      enough (length c.scopes) (suc s) s l (omega arith) l
      ∙ (ap (λ o. above (chain_in s c) s o) e ∙ ap (λ x. s ∷ x) (enough s (length c.scopes) p m (omega (arith, l, m)) (omega (arith, l, m))))

  pub parent_below : (s p : ℕ) → s < length c.scopes → (scope_at c s).parent ≡ Some p → p < s
  parent_below s p l e = subst (λ o. IfSome o (λ q. q < s)) e (parents s l)

-- one scope more of a chain
pub chain_step : (c : Circuit) → IsClosed c → (s p : ℕ) → s < length c.scopes → (scope_at c s).parent ≡ Some p → (front all : List ℕ) → front ++ chain c s ≡ all → (front ++ s ∷ []) ++ chain c p ≡ all
chain_step c closed s p l e front all h =
    append_assoc front (s ∷ []) (chain c p) ∙ (ap (λ x. front ++ x) (sym (chain_more c closed.parents s p l e (parent_below c closed.parents s p l e))) ∙ h)

pub chain_end : (c : Circuit) → IsClosed c → (s : ℕ) → s < length c.scopes → (scope_at c s).parent ≡ None → (front all : List ℕ) → front ++ chain c s ≡ all → front ≡ all
chain_end c closed s l e front all h = sym (append-nil front) ∙ (ap (λ x. front ++ x) (sym (chain_top c closed.parents s l e)) ∙ h)

-- ---- names

names-chain : (c : Circuit) (t s : ℕ) → names_in t c s ≡ map (name_at c) (reverse (chain_in t c s))
names-chain c zero s = refl
names-chain c (suc t) s = by (scope_at c s).parent (names-chain c t)
  where
    by : (o : Option ℕ) → ((p : ℕ) → names_in t c p ≡ map (name_at c) (reverse (chain_in t c p))) → below (names_in t c) (name_at c s) o ≡ map (name_at c) (reverse (above (chain_in t c) s o))
    by None rec = refl
    by (Some p) rec =
        ap (λ ns. ns ++ name_at c s ∷ []) (rec p)
        ∙ (sym (map-append (name_at c) (reverse (chain_in t c p)) (s ∷ [])) ∙ ap (λ x. map (name_at c) x) (sym (reverse-append (s ∷ []) (chain_in t c p))))

names-marked : (c : Circuit) (s : ℕ) (ss : List ℕ) → names_text (map (name_at c) (s ∷ ss)) ≡ name_text (name_at c s) ++ marked_names c 47 ss
names-marked c s [] = sym (append-nil (name_text (name_at c s)))
names-marked c s (r ∷ rs) = ap (λ x. name_text (name_at c s) ++ (47 ∷ x)) (names-marked c r rs)

pub instance-marked : (c : Circuit) (ss : List ℕ) → instance_text (map (name_at c) ss) ≡ marked_names c 32 ss
instance-marked c [] = refl
instance-marked c (s ∷ ss) = ap (λ x. 32 ∷ x) (names-marked c s ss)

pub instance_is : (c : Circuit) (s : ℕ) → marked_names c 32 (reverse (chain c s)) ≡ instance_text (names_to c s)
instance_is c s = sym (instance-marked c (reverse (chain c s))) ∙ ap instance_text (sym (names-chain c (length c.scopes) s))

-- ---- as they are written

pub long_scopes : (parts : Parts) (s : ℕ) → s < length parts.scopes.items → s < length (circuit_seen parts).scopes
long_scopes parts s l = let n = length-map parts.scopes.items (λ x. scope_seen x) in omega (arith, n, l)

pub all_front : {A : Type 0} (P : A → Type 0) (xs ys : List A) → All P (xs ++ ys) → All P xs
all_front P [] ys h = All-nil P
all_front P (x ∷ xs) ys h = All-cons P x xs (All-head P x (xs ++ ys) h) (all_front P xs ys (All-tail P x (xs ++ ys) h))

-- one name more
pub name_step : (c : Circuit) (mark next : ℕ) (left new text first second all name : List ℕ) → left ≡ new ++ next ∷ [] → first ≡ text ++ mark ∷ [] → second ≡ first ++ name_text name → name ≡ (scope_at c next).name
    → text ++ marked_names c mark (reverse left) ≡ all → second ++ marked_names c 47 (reverse new) ≡ all
name_step c mark next left new text first second all name popped a b is h =
    let turned : reverse left ≡ next ∷ reverse new = ap reverse popped ∙ reverse-append new (next ∷ []) in
    let rest = marked_names c 47 (reverse new) in
    ap (λ t. t ++ rest) (b ∙ (ap (λ t. t ++ name_text name) a ∙ ap (λ n. (text ++ mark ∷ []) ++ name_text n) is))
    ∙ (append_assoc (text ++ mark ∷ []) (name_text (scope_at c next).name) rest
    ∙ (append_assoc text (mark ∷ []) (name_text (scope_at c next).name ++ rest)
    ∙ (ap (λ ss. text ++ marked_names c mark ss) (sym turned) ∙ h)))

-- five pieces, the last of two parts
pub five_added : {E : Type 0} (r : Result Unit E) (text a t b i d e first second third fourth new : List ℕ) → first ≡ text ++ a → second ≡ first ++ t → third ≡ second ++ b → fourth ≡ third ++ i
    → new ≡ (if is_ok r then fourth ++ (d ++ e) else fourth) → OnOk r (new ≡ text ++ ((a ++ (t ++ (b ++ (i ++ d)))) ++ e))
five_added (Err x) text a t b i d e first second third fourth new p q u v w = tt
five_added (Ok x) text a t b i d e first second third fourth new p q u v w =
    w ∙ (ap (λ z. z ++ (d ++ e)) (v ∙ (ap (λ z. z ++ i) (u ∙ (ap (λ z. z ++ b) (q ∙ ap (λ z. z ++ t) p)))))
    ∙ (append_assoc (((text ++ a) ++ t) ++ b) i (d ++ e)
    ∙ (append_assoc ((text ++ a) ++ t) b (i ++ (d ++ e))
    ∙ (append_assoc (text ++ a) t (b ++ (i ++ (d ++ e)))
    ∙ (append_assoc text a (t ++ (b ++ (i ++ (d ++ e))))
    ∙ ap (λ z. text ++ z)
    (ap (λ z. a ++ (t ++ (b ++ z))) (sym (append_assoc i d e))
    ∙ (ap (λ z. a ++ (t ++ z)) (sym (append_assoc b (i ++ d) e))
    ∙ (ap (λ z. a ++ z) (sym (append_assoc t (b ++ (i ++ d)) e)) ∙ sym (append_assoc a (t ++ (b ++ (i ++ d))) e)))))))))

pub last_is : {A : Type 0} (P : A → Type 0) (xs : List A) (x : A) → All P (xs ++ x ∷ []) → P x
last_is P [] x h = All-head P x [] h
last_is P (y ∷ ys) x h = last_is P ys x (All-tail P y (ys ++ x ∷ []) h)
