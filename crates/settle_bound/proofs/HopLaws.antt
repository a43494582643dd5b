-- Whether hops are a cycle, test by test.
use Rattle.std.specs.Prelude.{◌≡◌, ◌≢◌, ◌↔◌, ℕ, zero, suc, ◌+◌, ◌-◌, ◌<◌, ◌≤◌, Bool, true, false, All, AllPairs, Contains, IsTrue, List, [], ◌∷◌, length, drop, slice_get, slice_index_or, Option, Some, None}
use Rattle.std.proofs.Common.{sym, ◌∙◌, subst, arith}
use Rattle.std.proofs.lemmas.List.{drop_more, drop_all, get_or_default}
use Rattle.sg_circuit.specs.Circuit.{Circuit}
use Rattle.sg_circuit.specs.FanOut.{has}
use Rattle.settle_bound.specs.declared.hops.Hop.{Hop}
use Rattle.settle_bound.specs.Hops.{IsHop, nets_read, net_driven, Reads}
use Rattle.settle_bound.specs.Chains.{AreOnce, Follow, last_of, IsCycle}
use Rattle.settle_bound.proofs.Numbers.{has-at, has-found}

pub has-contains : (xs : List ℕ) (k : ℕ) → Contains xs k → has k xs ≡ true
has-contains xs k h = subst (λ n. has n xs ≡ true) h.2 (has-at xs h.0 k h.1)

pub contains-has : (xs : List ℕ) (k : ℕ) → has k xs ≡ true → Contains xs k
contains-has xs k e = let f = has-found k xs e in (f.0, f.1, subst (λ x. x ≡ k) (sym (default f.0 f.1)) f.2)
  where
    default : (i : ℕ) → i < length xs → slice_index_or xs i k ≡ slice_index_or xs i 0
    default i l = get_or_default xs i k 0 l

pub reads-exact : (c : Circuit) (before hop : Hop) (net : ℕ) (o : Option ℕ) (b : Bool) → o ≡ net_driven c before → o ≡ Some net → b ≡ has net (nets_read c hop) → IsTrue b ↔ Reads c before hop
reads-exact c before hop net o b e f g = (
  λ t. record { net = net; driven = sym e ∙ f; read = contains-has (nets_read c hop) net (sym g ∙ t) },
  λ r. g ∙ has-contains (nets_read c hop) net (let q : Some net ≡ Some r.net = sym f ∙ (e ∙ r.driven) in let s : net ≡ r.net = cc in subst (λ n. Contains (nets_read c hop) n) (sym s) r.read),
)

-- each hop follows the one before
pub record Follows (c : Circuit) (first before : Hop) (hops : List Hop) (i : ℕ) : Type 0 where
  pub known : IsHop c before
  pub rest : Follow c first hops ↔ Follow c before (drop i hops)

pub follows-more : (c : Circuit) (first before : Hop) (hops : List Hop) (i : ℕ) (d : Hop) (b : Bool) → Follows c first before hops i → i < length hops → IsHop c (slice_index_or hops i d) → IsTrue b ↔ Reads c before (slice_index_or hops i d) → b ≡ true
    → Follows c first (slice_index_or hops i d) hops (i + 1)
follows-more c first before hops i d b h l is reads t = record {
  known = is;
  rest = (
    λ f. (let g : Follow c before (slice_index_or hops i d ∷ drop (i + 1) hops) = subst (Follow c before) (drop_more hops i d l) (h.rest.0 f) in g.1),
    λ f. h.rest.1 (subst (Follow c before) (sym (drop_more hops i d l)) (reads.0 t, f)),
  );
}

pub follows-not : (c : Circuit) (first before : Hop) (hops : List Hop) (i : ℕ) (d : Hop) (b : Bool) → Follows c first before hops i → i < length hops → IsTrue b ↔ Reads c before (slice_index_or hops i d) → b ≡ false → Follow c first hops → ⊥
follows-not c first before hops i d b h l reads t f =
    let g : Follow c before (slice_index_or hops i d ∷ drop (i + 1) hops) = subst (Follow c before) (drop_more hops i d l) (h.rest.0 f) in
    let yes = reads.1 g.0 in
    let q : true ≡ false = sym yes ∙ t in cc

pub follows-all : (c : Circuit) (first before : Hop) (hops : List Hop) (i : ℕ) → Follows c first before hops i → length hops ≤ i → Follow c first hops
follows-all c first before hops i h l = h.rest.1 (subst (Follow c before) (sym (drop_all i hops l)) tt)

-- no hop stands twice
pub pairs-cons : (h : Hop) (hops : List Hop) → AllPairs (λ one other. one ≢ other) (h ∷ hops) ↔ (All (λ x. h ≢ x) hops × AllPairs (λ one other. one ≢ other) hops)
pairs-cons h hops = (
  λ p. ((λ k d l. p 0 (suc k) d (omega arith) (omega arith)), (λ i j d l m. p (suc i) (suc j) d (omega arith) (omega arith))),
  λ q. (λ i j d l m. at q i j d l m),
)
  where
    at : All (λ x. h ≢ x) hops × AllPairs (λ one other. one ≢ other) hops → (i j : ℕ) (d : Hop) → i < j → j < suc (length hops) → slice_index_or (h ∷ hops) i d ≢ slice_index_or (h ∷ hops) j d
    at q zero zero d l m = absurd (omega arith)
    at q zero (suc j) d l m = q.0 j d (omega arith)
    at q (suc i) zero d l m = absurd (omega arith)
    at q (suc i) (suc j) d l m = q.1 i j d (omega arith) (omega arith)

pub once-pairs : (hops : List Hop) → AreOnce hops ↔ AllPairs (λ one other. one ≢ other) hops
once-pairs [] = (λ o i j d l m. absurd (omega arith), λ p. tt)
once-pairs (h ∷ hops) = (
  λ o. (pairs-cons h hops).1 (o.0, (once-pairs hops).0 o.1),
  λ p. (((pairs-cons h hops).0 p).0, (once-pairs hops).1 ((pairs-cons h hops).0 p).1),
)

-- the last of a list
last-got : (h last : Hop) (hops : List Hop) (n : ℕ) → n ≡ length hops → Some last ≡ slice_get (h ∷ hops) n → last ≡ last_of h hops
last-got h last [] zero e f = (let g : Some last ≡ Some h = f in cc)
last-got h last [] (suc n) e f = absurd (omega arith)
last-got h last (i ∷ hops) zero e f = absurd (omega arith)
last-got h last (i ∷ hops) (suc n) e f = last-got i last hops n (omega arith) f

last-is : (h last : Hop) (hops : List Hop) → Some last ≡ slice_get (h ∷ hops) (length (h ∷ hops) - 1) → last ≡ last_of h hops
last-is h last hops e = last-got h last hops (length (h ∷ hops) - 1) (omega arith) e

-- where hops don't follow one another they are no cycle
pub cycle-not : (c c' : Circuit) (hops : List Hop) (last : Hop) (b : Bool) → c' ≡ c → Some last ≡ slice_get hops (length hops - 1) → IsTrue b ↔ Follow c' last hops → b ≡ false → IsTrue false ↔ IsCycle c hops
cycle-not c c' hops last b same at f t = (λ e. absurd (let g : false ≡ true = e in cc), λ cycle. absurd (by hops (subst (λ x. IsTrue b ↔ Follow x last hops) same f) at cycle))
  where
    no : (d : Bool) → d ≡ false → d ≡ true → ⊥
    no d e g = let f : false ≡ true = sym e ∙ g in cc

    by : (xs : List Hop) → IsTrue b ↔ Follow c last xs → Some last ≡ slice_get xs (length xs - 1) → IsCycle c xs → ⊥
    by [] g e cycle = cycle
    by (h ∷ hs) g e cycle = no b t (g.1 (subst (λ x. Follow c x (h ∷ hs)) (sym (last-is h last hs e)) cycle.1))

-- where they do, and are hops, they are one if they differ
pub cycle-is : (c c' : Circuit) (hops : List Hop) (last : Hop) (h f b : Bool) → c' ≡ c → Some last ≡ slice_get hops (length hops - 1) → IsTrue h ↔ All (IsHop c') hops → h ≡ true → IsTrue f ↔ Follow c' last hops → f ≡ true → IsTrue b ↔ AreOnce hops
    → IsTrue b ↔ IsCycle c hops
cycle-is c c' hops last h f b same at all t follow u once =
    by hops at (subst (λ x. All (IsHop x) hops) same (all.0 t)) (subst (λ x. Follow x last hops) same (follow.0 u)) once
  where
    by : (xs : List Hop) → Some last ≡ slice_get xs (length xs - 1) → All (IsHop c) xs → Follow c last xs → IsTrue b ↔ AreOnce xs → IsTrue b ↔ IsCycle c xs
    by [] e a g o = absurd (let q : Some last ≡ None = e in cc)
    by (i ∷ is) e a g o = (
      λ d. (a, subst (λ x. Follow c x (i ∷ is)) (last-is i last is e) g, (once-pairs (i ∷ is)).0 (o.0 d)),
      λ cycle. o.1 ((once-pairs (i ∷ is)).1 cycle.2),
    )
