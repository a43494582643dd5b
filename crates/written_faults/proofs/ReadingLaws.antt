-- Pairs read into a look-up: two differ exactly where a later one differs from the first with its key.
use Rattle.std.proofs.Common.{◌≡◌, refl, sym, ◌∙◌, ap, subst, ℕ, zero, suc, ◌+◌, ◌<◌, ◌≤◌, Bool, true, false, List, [], ◌∷◌, ◌++◌, length, take, drop, Option, Some, None, slice_get, slice_index_or, inl, inr, arith, append-nil, append_assoc}
use Rattle.std.specs.Prelude.{◌≢◌, ◌⊎◌, ◌↔◌, IsTrue, cond, flat_map, not}
use Rattle.std.specs.Option.{option_map}
use Rattle.std.specs.Map.{lookup}
use Rattle.std.proofs.lemmas.Grind.{flat_map-append}
use Rattle.std.proofs.lemmas.List.{take-append-drop, take_all}
use Rattle.indexmap.specs.IndexMap.{IndexMap, IsEmpty, get_by}
use Rattle.written_faults.specs.Reading.{Differ, AreRead, ComesTo, Reads}
use Rattle.written_faults.proofs.PlaceLaws.{get-left, get-last, get-either}
use Rattle.written_faults.proofs.DisagreeLaws.{disagree-more}

-- ---- one pair more

module _ {K V : Type 0} where
  pub read-none : (lookup : K → Option V) → ((k : K) → lookup k ≡ None) → AreRead [] lookup
  read-none lookup none = record { each = λ i p e. absurd cc; only = λ k v e. absurd (let h : None ≡ Some v = sym (none k) ∙ e in cc) }

  -- its key was met, and has this value
  pub reads-same : (lookup : K → Option V) (k : K) (v : V) → lookup k ≡ Some v → Reads ((k, v) ∷ []) lookup lookup false
  reads-same lookup k v known = λ seen r. record {
    each = λ i p e. by i p (get-either seen (k, v) i p e) r;
    only = λ q w e. let found = r.only q w e in (found.0, get-left seen ((k, v) ∷ []) found.0 (q, w) found.1);
  }
    where
      by : {seen : List (K × V)} (i : ℕ) (p : K × V) → (slice_get seen i ≡ Some p) ⊎ ((k, v) ≡ p) → AreRead seen lookup → lookup p.0 ≡ Some p.1
      by i p (inl e) r = r.each i p e
      by i p (inr e) r = subst (λ (q : K × V). lookup q.0 ≡ Some q.1) e known

  -- its key was met, and has another value
  pub reads-other : (lookup : K → Option V) (k : K) (v before : V) → lookup k ≡ Some before → before ≢ v → Reads ((k, v) ∷ []) lookup lookup true
  reads-other lookup k v before known differ = λ seen r.
      let found = r.only k before known in record {
        one = (k, before);
        other = (k, v);
        place = found.0;
        other_place = length seen;
        stands = get-left seen ((k, v) ∷ []) found.0 (k, before) found.1;
        other_stands = get-last seen (k, v);
        same = refl;
        differ = differ;
      }

  -- its key is new
  pub reads-new : (eq : K → K → Bool) → ((a b : K) → eq a b ≡ true → a ≡ b) → ((a : K) → eq a a ≡ true) → (old new : K → Option V) (k : K) (v : V) → old k ≡ None → ((q : K) → new q ≡ cond (eq k q) (Some v) (old q))
      → Reads ((k, v) ∷ []) old new false
  reads-new eq exact itself old new k v unknown updates = λ seen r. record {
    each = λ i p e. each-by i p (get-either seen (k, v) i p e) r;
    only = λ q w e. only-by (eq k q) q refl w e r;
  }
    where
      known : (p : K × V) (b : Bool) → eq k p.0 ≡ b → old p.0 ≡ Some p.1 → new p.0 ≡ Some p.1
      known p true e f = absurd (let h : None ≡ Some p.1 = sym unknown ∙ ap old (exact k p.0 e) ∙ f in cc)
      known p false e f = updates p.0 ∙ ap (λ c. cond c (Some v) (old p.0)) e ∙ f

      each-by : {seen : List (K × V)} (i : ℕ) (p : K × V) → (slice_get seen i ≡ Some p) ⊎ ((k, v) ≡ p) → AreRead seen old → new p.0 ≡ Some p.1
      each-by i p (inl e) r = known p (eq k p.0) refl (r.each i p e)
      each-by i p (inr e) r = subst (λ (q : K × V). new q.0 ≡ Some q.1) e (updates k ∙ ap (λ c. cond c (Some v) (old k)) (itself k))

      only-by : {seen : List (K × V)} (b : Bool) (q : K) → eq k q ≡ b → (w : V) → new q ≡ Some w → AreRead seen old → (i : ℕ) × (slice_get (seen ++ (k, v) ∷ []) i ≡ Some (q, w))
      only-by {seen} true q e w at r =
          let h : Some v ≡ Some w = sym (updates q ∙ ap (λ c. cond c (Some v) (old q)) e) ∙ at in
          let same : v ≡ w = cc in
          (length seen, get-last seen (k, v) ∙ (ap {B = Option (K × V)} (λ x. Some (x, v)) (exact k q e) ∙ ap {B = Option (K × V)} (λ x. Some (q, x)) same))
      only-by {seen} false q e w at r =
          let found = r.only q w (sym (updates q ∙ ap (λ c. cond c (Some v) (old q)) e) ∙ at) in
          (found.0, get-left seen ((k, v) ∷ []) found.0 (q, w) found.1)

  -- ---- several

  pub reads-none : (lookup : K → Option V) → Reads [] lookup lookup false
  reads-none lookup = λ seen r. subst (λ xs. AreRead xs lookup) (sym (append-nil seen)) r

  pub reads-more : (xs ys : List (K × V)) (old middle new : K → Option V) (b : Bool) → Reads xs old middle false → Reads ys middle new b → Reads (xs ++ ys) old new b
  reads-more xs ys old middle new b before then = λ seen r. subst (λ zs. ComesTo b zs new) (append_assoc seen xs ys) (then (seen ++ xs) (before seen r))

  pub reads-enough : (xs ys : List (K × V)) (old new : K → Option V) → Reads xs old new true → Reads (xs ++ ys) old new true
  reads-enough xs ys old new before = λ seen r. subst (λ zs. Differ zs) (append_assoc seen xs ys) (disagree-more _ _ (seen ++ xs) ys (before seen r))

  -- a key that was met, and whether it has this value
  pub reads-met : (lookup : K → Option V) (k : K) (v before : V) (b : Bool) → lookup k ≡ Some before → IsTrue b ↔ (before ≡ v) → Reads ((k, v) ∷ []) lookup lookup (not b)
  reads-met lookup k v before true known same = reads-same lookup k v (known ∙ ap (λ x. Some x) (same.0 refl))
  reads-met lookup k v before false known same = reads-other lookup k v before known (λ e. absurd (let h : false ≡ true = same.1 e in cc))

  -- ---- all

  none-differ : (seen : List (K × V)) (lookup : K → Option V) → AreRead seen lookup → Differ seen → ⊥
  none-differ seen lookup r d =
      let h : Some d.one.1 ≡ Some d.other.1 = sym (r.each d.place d.one d.stands) ∙ (ap lookup d.same ∙ r.each d.other_place d.other d.other_stands) in
      let same : d.one.1 ≡ d.other.1 = cc in
      d.differ same

  comes-to : (b : Bool) (seen : List (K × V)) (lookup : K → Option V) → ComesTo b seen lookup → IsTrue b ↔ Differ seen
  comes-to true seen lookup d = (λ t. d, λ e. refl)
  comes-to false seen lookup r = (λ t. absurd cc, λ d. absurd (none-differ seen lookup r d))

  pub all-read : (pairs : List (K × V)) (old new : K → Option V) (b : Bool) → ((k : K) → old k ≡ None) → Reads pairs old new b → IsTrue b ↔ Differ pairs
  all-read pairs old new b none reads = comes-to b pairs new (reads [] (read-none old none))

-- an empty table
pub nothing-in : {K W S : Type 0} (test : K → Bool) (seen : IndexMap K W S) → IsEmpty seen → get_by test seen ≡ None
nothing-in {K} {W} test seen e = ap {B = Option W} (λ (es : List (K × W)). lookup test es) e

-- a table whose values stand for others
pub mapped : {W V : Type 0} (f : W → V) (b : Bool) (w : W) (o : Option W) → option_map f (cond b (Some w) o) ≡ cond b (Some (f w)) (option_map f o)
mapped f true w o = refl
mapped f false w o = refl

-- ---- in turn

flat-next : {A B : Type 0} (f : A → List B) (xs : List A) (i : ℕ) (d : A) → i < length xs → flat_map f (take (i + 1) xs) ≡ flat_map f (take i xs) ++ f (slice_index_or xs i d)
flat-next f [] i d l = absurd (omega (arith, l))
flat-next f (x ∷ xs) zero d l = append-nil (f x)
flat-next f (x ∷ xs) (suc i) d l =
    subst (λ n. flat_map f (take n (x ∷ xs)) ≡ flat_map f (take (suc i) (x ∷ xs)) ++ f (slice_index_or xs i d)) (let e : suc (i + 1) ≡ suc i + 1 = omega arith in e)
    (ap (λ ys. f x ++ ys) (flat-next f xs i d (omega (arith, l))) ∙ sym (append_assoc (f x) (flat_map f (take i xs)) (f (slice_index_or xs i d))))

flat-parts : {A B : Type 0} (f : A → List B) (xs : List A) (i : ℕ) → flat_map f (take i xs) ++ flat_map f (drop i xs) ≡ flat_map f xs
flat-parts f xs i = sym (flat_map-append f (take i xs) (drop i xs)) ∙ ap (flat_map f) (take-append-drop i xs)

-- the pairs of one item more
module _ {A K V : Type 0} (pairs : A → List (K × V)) (xs : List A) (i : ℕ) (d x : A) (ps : List (K × V)) (old middle new : K → Option V) (b : Bool)
    (within : i < length xs) (is : x ≡ slice_index_or xs i d) (made : ps ≡ pairs x) (before : Reads (flat_map pairs (take i xs)) old middle false) (here : Reads ps middle new b) where
  one-read : Reads (flat_map pairs (take (i + 1) xs)) old new b
  one-read =
      subst (λ qs. Reads qs old new b) (sym (flat-next pairs xs i d within))
      (reads-more (flat_map pairs (take i xs)) (pairs (slice_index_or xs i d)) old middle new b before (subst (λ qs. Reads qs middle new b) (made ∙ ap pairs is) here))

  pub goes-on : b ≡ false → Reads (flat_map pairs (take (i + 1) xs)) old new false
  goes-on e = subst (λ c. Reads (flat_map pairs (take (i + 1) xs)) old new c) e one-read

  -- two differ, whatever comes behind
  pub stops : b ≡ true → Reads (flat_map pairs xs) old new true
  stops e =
      subst (λ qs. Reads qs old new true) (flat-parts pairs xs (i + 1))
      (reads-enough (flat_map pairs (take (i + 1) xs)) (flat_map pairs (drop (i + 1) xs)) old new (subst (λ c. Reads (flat_map pairs (take (i + 1) xs)) old new c) e one-read))

pub ends : {A K V : Type 0} (pairs : A → List (K × V)) (xs : List A) (i : ℕ) (old new : K → Option V) → length xs ≤ i → Reads (flat_map pairs (take i xs)) old new false → Reads (flat_map pairs xs) old new false
ends pairs xs i old new l all = subst (λ ys. Reads (flat_map pairs ys) old new false) (take_all i xs l) all
