-- A tree with one node more, and with one name more.
use Rattle.std.specs.Prelude.{◌≡◌, ◌≢◌, ◌⊎◌, ℕ, zero, suc, ◌+◌, ◌<◌, ◌&&◌, ◌||◌, ◌==◌, Bool, true, false, cond, List, [], ◌∷◌, ◌++◌, Option, Some, None, bytes_eq, length, option_and_then, slice_index_or, slice_set, refl}
use Rattle.std.proofs.Common.{sym, ◌∙◌, ap, arith, inl, inr, subst}
use Rattle.std.proofs.lemmas.Bool.Decides.{eqb_tells}
use Rattle.std.proofs.lemmas.List.{get_or_push, get_or-set_same, get_or-set_other, length-append}
use Rattle.std.proofs.lemmas.Slice.Eq.{bytes_eq-Decides}
use Rattle.name_trie.specs.Tree.{NextNode, steps_of, follow, flag, AreTree, IsTree, Steps}
use Rattle.name_trie.specs.declared.tries.Trie.{Trie}
use Rattle.name_trie.proofs.Following.{follow-more, one-text}

-- past the end is false, and so is one more there
one-false-more : (ends : List Bool) (n : ℕ) → slice_index_or (ends ++ false ∷ []) n false ≡ slice_index_or ends n false
one-false-more [] zero = refl
one-false-more [] (suc n) = refl
one-false-more (x ∷ xs) zero = refl
one-false-more (x ∷ xs) (suc n) = one-false-more xs n

-- ---- a step to a new node

-- s has no step from the node by the byte; t has one, to a new node
pub record IsGrown (s t : NextNode) (count node byte : ℕ) : Type 0 where
  pub tree : AreTree s count
  pub within : node < count
  pub absent : s node byte ≡ None
  pub grown : (q : ℕ × ℕ) → t q.0 q.1 ≡ cond ((node == q.0) && (byte == q.1)) (Some count) (s q.0 q.1)

module _ (s t : NextNode) (count node byte : ℕ) (g : IsGrown s t count node byte) where
  -- a step of t is one of s, or the new one
  data StepOf (n b : ℕ) : Type 0 where
    as_before : t n b ≡ s n b → StepOf n b
    is_new : node ≡ n → byte ≡ b → t n b ≡ Some count → StepOf n b

  step : (n b : ℕ) → StepOf n b
  step n b = by (eqb_tells node n) (eqb_tells byte b)
    where
      told : (x y : Bool) → (node == n) ≡ x → (byte == b) ≡ y → t n b ≡ cond (x && y) (Some count) (s n b)
      told x y e f = g.grown (n, b) ∙ ap (λ z. cond (z && (byte == b)) (Some count) (s n b)) e ∙ ap (λ z. cond (x && z) (Some count) (s n b)) f

      by : (((node == n) ≡ true) × (node ≡ n)) ⊎ (((node == n) ≡ false) × (node ≢ n)) → (((byte == b) ≡ true) × (byte ≡ b)) ⊎ (((byte == b) ≡ false) × (byte ≢ b)) → StepOf n b
      by (inl e) (inl f) = is_new e.1 f.1 (told true true e.0 f.0)
      by (inl e) (inr f) = as_before (told true false e.0 f.0)
      by (inr e) (inl f) = as_before (told false true e.0 f.0)
      by (inr e) (inr f) = as_before (told false false e.0 f.0)

  from-new : (n b m : ℕ) → StepOf n b → t n b ≡ Some m → n < count
  from-new n b m (as_before h) e = g.tree.from_node n b m (sym h ∙ e)
  from-new n b m (is_new h k to) e = subst (λ x. x < count) h g.within

  to-new : (n b m : ℕ) → StepOf n b → t n b ≡ Some m → (0 < m) × (m < count + 1)
  to-new n b m (as_before h) e = let r = g.tree.to_node n b m (sym h ∙ e) in (r.0, omega (arith, r.1))
  to-new n b m (is_new h k to) e =
      let w : 0 < count = g.tree.rooted in
      let f : Some count ≡ Some m = sym to ∙ e in
      let same : count ≡ m = cc in
      (omega (arith, w, same), omega (arith, same))

  apart-new : (n b o c m : ℕ) → StepOf n b → StepOf o c → t n b ≡ Some m → t o c ≡ Some m → (n ≡ o) × (b ≡ c)
  apart-new n b o c m (as_before h) (as_before k) e f = g.tree.apart n b o c m (sym h ∙ e) (sym k ∙ f)
  apart-new n b o c m (is_new h k to) (is_new i j at) e f = (sym h ∙ i, sym k ∙ j)
  apart-new n b o c m (as_before h) (is_new i j at) e f =
      let r : m < count = (g.tree.to_node n b m (sym h ∙ e)).1 in
      let x : Some count ≡ Some m = sym at ∙ f in
      let same : count ≡ m = cc in
      absurd (omega (arith, r, same))
  apart-new n b o c m (is_new i j at) (as_before h) e f =
      let r : m < count = (g.tree.to_node o c m (sym h ∙ f)).1 in
      let x : Some count ≡ Some m = sym at ∙ e in
      let same : count ≡ m = cc in
      absurd (omega (arith, r, same))

  pub tree-grown : AreTree t (count + 1)
  tree-grown = record {
    rooted = omega arith;
    from_node = λ n b m e. let r = from-new n b m (step n b) e in omega (arith, r);
    to_node = λ n b m e. to-new n b m (step n b) e;
    apart = λ n b o c m e f. apart-new n b o c m (step n b) (step o c) e f;
  }

  -- ---- where texts lead now

  -- to the same node, or now to the new one
  data LeadsOf (n : ℕ) (text : List ℕ) : Type 0 where
    still : follow t n text ≡ follow s n text → LeadsOf n text
    newly : follow s n text ≡ None → follow t n text ≡ Some count → LeadsOf n text

  none-of : (o : Option ℕ) → ((m : ℕ) → o ≡ Some m → ⊥) → o ≡ None
  none-of None h = refl
  none-of (Some m) h = absurd (h m refl)

  -- no step leads on from the new node
  no-step : (b : ℕ) → t count b ≡ None
  no-step b = none-of (t count b) (λ m e. let r = from-new count b m (step count b) e in omega (arith, r))

  none-there : (text : List ℕ) → s node byte ≡ None → follow s node (byte ∷ text) ≡ None
  none-there text e = ap (option_and_then (λ m. follow s m text)) e

  at-new : (n b : ℕ) (text : List ℕ) → node ≡ n → byte ≡ b → t n b ≡ Some count → LeadsOf n (b ∷ text)
  at-new n b [] h k to =
      newly (ap (option_and_then (λ m. Some m)) ((λ i. s (sym h i) (sym k i)) ∙ g.absent)) (ap (option_and_then (λ m. Some m)) to)
  at-new n b (x ∷ xs) h k to =
      still (ap (option_and_then (λ m. follow t m (x ∷ xs))) to ∙ ap (option_and_then (λ m. follow t m xs)) (no-step x)
      ∙ sym (ap (option_and_then (λ m. follow s m (x ∷ xs))) ((λ i. s (sym h i) (sym k i)) ∙ g.absent)))

  leads : (n : ℕ) (text : List ℕ) → LeadsOf n text
  leads n [] = still refl
  leads n (b ∷ bs) = by (step n b) (λ m. leads m bs)
    where
      on : (o : Option ℕ) → t n b ≡ o → s n b ≡ o → ((m : ℕ) → LeadsOf m bs) → LeadsOf n (b ∷ bs)
      on None e f rest = still (ap (option_and_then (λ m. follow t m bs)) e ∙ sym (ap (option_and_then (λ m. follow s m bs)) f))
      on (Some k) e f rest = to-next (rest k)
        where
          in-t : follow t n (b ∷ bs) ≡ follow t k bs
          in-t = ap (option_and_then (λ m. follow t m bs)) e

          in-s : follow s n (b ∷ bs) ≡ follow s k bs
          in-s = ap (option_and_then (λ m. follow s m bs)) f

          to-next : LeadsOf k bs → LeadsOf n (b ∷ bs)
          to-next (still h) = still (in-t ∙ h ∙ sym in-s)
          to-next (newly h i) = newly (in-s ∙ h) (in-t ∙ i)

      by : StepOf n b → ((m : ℕ) → LeadsOf m bs) → LeadsOf n (b ∷ bs)
      by (as_before h) rest = on (s n b) h refl rest
      by (is_new h k to) rest = at-new n b bs h k to

  -- ---- the names stay

  pub names-stay : (ends : List Bool) → length ends ≡ count → (text : List ℕ) → flag (ends ++ false ∷ []) (follow t 0 text) ≡ flag ends (follow s 0 text)
  names-stay ends c text = by (leads 0 text)
    where
      at : (o : Option ℕ) → flag (ends ++ false ∷ []) o ≡ flag ends o
      at None = refl
      at (Some n) = one-false-more ends n

      by : LeadsOf 0 text → flag (ends ++ false ∷ []) (follow t 0 text) ≡ flag ends (follow s 0 text)
      by (still h) = ap (flag (ends ++ false ∷ [])) h ∙ at (follow s 0 text)
      by (newly h i) = ap (flag (ends ++ false ∷ [])) i ∙ get_or_push ends false false count c ∙ sym (ap (flag ends) h)

  -- what led to the node leads on to the new one
  pub leads-on : (text : List ℕ) → follow s 0 text ≡ Some node → follow t 0 (text ++ byte ∷ []) ≡ Some count
  leads-on text e = follow-more t 0 text byte ∙ ap (option_and_then (λ m. t m byte)) (by (leads 0 text)) ∙ here (step node byte)
    where
      by : LeadsOf 0 text → follow t 0 text ≡ Some node
      by (still h) = h ∙ e
      by (newly h i) = let x : Some node ≡ None = sym e ∙ h in absurd cc

      here : StepOf node byte → t node byte ≡ Some count
      here (as_before h) = g.grown (node, byte) ∙ both (eqb_tells node node) (eqb_tells byte byte)
        where
          both : (((node == node) ≡ true) × (node ≡ node)) ⊎ (((node == node) ≡ false) × (node ≢ node))
              → (((byte == byte) ≡ true) × (byte ≡ byte)) ⊎ (((byte == byte) ≡ false) × (byte ≢ byte))
              → cond ((node == node) && (byte == byte)) (Some count) (s node byte) ≡ Some count
          both (inl x) (inl y) = ap (λ z. cond (z && (byte == byte)) (Some count) (s node byte)) x.0 ∙ ap (λ z. cond z (Some count) (s node byte)) y.0
          both (inr x) y = absurd (x.1 refl)
          both (inl x) (inr y) = absurd (y.1 refl)
      here (is_new h k to) = to

-- ---- in tries

pub old-step : (t : Trie) (node byte next : ℕ) → IsTree t → steps_of t node byte ≡ Some next → Steps t t node byte next
old-step t node byte next tree e = record {
  tree = tree;
  within = (tree.to_node node byte next e).1;
  names = λ text. refl;
  leads = λ text h. follow-more (steps_of t) 0 text byte ∙ ap (option_and_then (λ m. steps_of t m byte)) h ∙ e;
}

pub new-step : (old new : Trie) (node byte next : ℕ) → IsTree old → node < length old.ends.items → next ≡ length old.ends.items → steps_of old node byte ≡ None
    → ((q : ℕ × ℕ) → steps_of new q.0 q.1 ≡ cond ((node == q.0) && (byte == q.1)) (Some next) (steps_of old q.0 q.1)) → new.ends.items ≡ old.ends.items ++ false ∷ [] → Steps old new node byte next
new-step old new node byte next tree within count absent grown more = record {
  tree = subst (AreTree (steps_of new)) (sym longer) (tree-grown (steps_of old) (steps_of new) next node byte g);
  within = omega (arith, longer);
  names = λ text. ap (λ ends. flag ends (follow (steps_of new) 0 text)) more ∙ names-stay (steps_of old) (steps_of new) next node byte g old.ends.items (sym count) text;
  leads = leads-on (steps_of old) (steps_of new) next node byte g;
}
  where
    g : IsGrown (steps_of old) (steps_of new) next node byte
    g = record { tree = subst (AreTree (steps_of old)) (sym count) tree; within = subst (λ n. node < n) (sym count) within; absent = absent; grown = grown }

    longer : length new.ends.items ≡ next + 1
    longer = ap length more ∙ length-append old.ends.items (false ∷ []) ∙ ap (λ n. n + 1) (sym count)

-- ---- a name more

-- its node is marked
pub name-added : (s : NextNode) (ends : List Bool) (name : List ℕ) (node : ℕ) → AreTree s (length ends) → node < length ends → follow s 0 name ≡ Some node
    → (text : List ℕ) → flag (slice_set ends node true) (follow s 0 text) ≡ (bytes_eq name text || flag ends (follow s 0 text))
name-added s ends name node tree lt e text = by (follow s 0 text) refl
  where
    said : (b : Bool) → bytes_eq name text ≡ b → (b ≡ true → name ≡ text)
    said b h f = (bytes_eq-Decides name text).0 (h ∙ f)

    -- another text
    other : (o : Option ℕ) → follow s 0 text ≡ o → (o ≡ Some node → ⊥) → bytes_eq name text ≡ false
    other o h away = at (bytes_eq name text) refl
      where
        at : (b : Bool) → bytes_eq name text ≡ b → b ≡ false
        at false k = refl
        at true k = absurd (away (sym h ∙ ap (follow s 0) (sym ((bytes_eq-Decides name text).0 k)) ∙ e))

    by : (o : Option ℕ) → follow s 0 text ≡ o → flag (slice_set ends node true) o ≡ (bytes_eq name text || flag ends o)
    by None h = sym (ap (λ b. b || false) (other None h (λ x. absurd cc)))
    by (Some m) h = at (eqb_tells m node)
      where
        at : (((m == node) ≡ true) × (m ≡ node)) ⊎ (((m == node) ≡ false) × (m ≢ node)) → slice_index_or (slice_set ends node true) m false ≡ (bytes_eq name text || slice_index_or ends m false)
        at (inl q) =
            ap (λ k. slice_index_or (slice_set ends node true) k false) q.1 ∙ get_or-set_same ends node true false lt
            ∙ sym (ap (λ b. b || slice_index_or ends m false) ((bytes_eq-Decides name text).1 (one-text s (length ends) name text node tree e (h ∙ ap (λ k. Some k) q.1))))
        at (inr q) =
            get_or-set_other ends node m true false q.1
            ∙ sym (ap (λ b. b || slice_index_or ends m false) (other (Some m) h (λ x. q.1 cc)))
