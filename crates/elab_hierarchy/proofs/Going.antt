-- Placing the children of an instance, one after another.
use Rattle.std.specs.Prelude.{◌≡◌, ℕ, zero, suc, ◌+◌, ◌-◌, ◌<◌, ◌==◌, List, [], ◌∷◌, ◌++◌, Bool, false, ◌||◌, Some, flat_map, length, slice_index_or, refl, bytes_eq, if◌then◌else◌}
use Rattle.std.specs.Global.{Vec}
use Rattle.std.specs.List.{list_any}
use Rattle.std.proofs.Common.{sym, ◌∙◌, ap, arith, subst, drop, drop-cons, append_assoc, append-nil, add-one, length-append}
use Rattle.std.proofs.Math.Bool.{or-false, or_comm}
use Rattle.std.proofs.lemmas.Grind.{flat_map-append}
use Rattle.std.proofs.lemmas.List.Folds.{list_any-append}
use Rattle.vl_tree.specs.Tree.{Source}
use Rattle.elab_model.specs.declared.kinds.ElabKind.TheVariants.{SelfInstance}
use Rattle.elab_model.specs.Faults.{Fault, fault_if}
use Rattle.elab_model.specs.Hierarchy.{Step, Instance, Child, children_in, size, instances_from, text_of}
use Rattle.elab_model.specs.HierarchyFaults.{has_round, is_above, self_instances, past_limit, two_definitions}
use Rattle.elab_hierarchy.specs.Children.{IsChild, AreChildren}
use Rattle.elab_hierarchy.specs.Growing.{below, IsChain, IsAt, AreFaultless, Grown, ended}
use Rattle.elab_hierarchy.specs.Placing.{IsPlaced, ArePlaced}
use Rattle.elab_hierarchy.specs.Tops.{StandsAt}
use Rattle.elab_hierarchy.specs.declared.children.Child as code_child
use Rattle.elab_hierarchy.specs.declared.instances.Placed.{Placed}
use Rattle.elab_hierarchy.proofs.Apart.{names-tell}
use Rattle.elab_hierarchy.proofs.Listed.{placed-append, placed-length}
use Rattle.elab_hierarchy.proofs.Sizes.{size-is, with-below, below_from, child_instance, child-below}

abbrev pub self_at : Instance → Child → List Fault
self_at s c = fault_if (is_above s c.definition) SelfInstance c.place

pub faultless-append : (source : Source) (ss ts : List Instance) → AreFaultless source ss → AreFaultless source ts → AreFaultless source (ss ++ ts)
faultless-append source ss ts h k = (
  flat_map-append (self_instances source) ss ts ∙ ap (λ xs. xs ++ flat_map (self_instances source) ts) h.0 ∙ k.0,
  flat_map-append (past_limit source) ss ts ∙ ap (λ xs. xs ++ flat_map (past_limit source) ts) h.1 ∙ k.1,
)

-- the first k children are placed, and these are left
pub record Going (source : Source) (n : ℕ) (s : Instance) (cs : List code_child.Child) (k : ℕ) (old now : List Placed) : Type 0 where
  pub left : List Child
  pub are : AreChildren source (drop k cs) left
  pub added : List Placed
  pub grown : now ≡ old ++ added
  pub done : List Instance
  pub placed : ArePlaced source added done
  pub rest : done ++ below_from source n s (length now) left ≡ below source n s
  pub self : flat_map (self_at s) left ≡ self_instances source s
  pub faultless : AreFaultless source done
  pub deep : n ≡ 0 → left ≡ children_in source s.step.definition

-- ---- at first

all-left : (source : Source) (n : ℕ) (s : Instance) (next : ℕ) → next ≡ suc s.step.number → below_from source n s next (children_in source s.step.definition) ≡ below source n s
all-left source zero s next e = refl
all-left source (suc d) s next e = ap (λ k. below_from source (suc d) s k (children_in source s.step.definition)) e

pub begun : (source : Source) (n : ℕ) (s : Instance) (cs : List code_child.Child) (old : List Placed) → AreChildren source cs (children_in source s.step.definition)
    → length old ≡ suc s.step.number → has_round (s.step ∷ s.above) ≡ false → Going source n s cs 0 old old
begun source n s cs old are e no_round = record {
  left = children_in source s.step.definition;
  are = are;
  added = [];
  grown = sym (append-nil old);
  done = [];
  placed = tt;
  rest = all-left source n s (length old) e;
  self = ap (λ (b : Bool). if b then [] else flat_map (self_at s) (children_in source s.step.definition)) (sym no_round);
  faultless = (refl, refl);
  deep = λ z. refl;
}

-- ---- the next child

pub record Next (source : Source) (x : code_child.Child) (cs : List code_child.Child) (k : ℕ) (left : List Child) : Type 0 where
  pub child : Child
  pub others : List Child
  pub cut : left ≡ child ∷ others
  pub same : IsChild source x child
  pub are : AreChildren source (drop (suc k) cs) others

pub next-child : (source : Source) (d x : code_child.Child) (cs : List code_child.Child) (k : ℕ) (left : List Child) → k < length cs → x ≡ slice_index_or cs k d → AreChildren source (drop k cs) left
    → Next source x cs k left
next-child source d x cs k left lt e h = by left (subst (λ xs. AreChildren source xs left) (drop-cons cs k d lt) h)
  where
    by : (left : List Child) → AreChildren source (slice_index_or cs k d ∷ drop (suc k) cs) left → Next source x cs k left
    by [] g = absurd g
    by (c ∷ left) g = record { child = c; others = left; cut = refl; same = subst (λ y. IsChild source y c) (sym e) g.0; are = g.1 }

-- the chain, with one definition more
pub chain-more : (source : Source) (chain : List ℕ) (steps : List Step) (j : ℕ) (step : Step) → two_definitions source ≡ [] → StandsAt source j step.definition → IsChain source chain steps
    → IsChain source (chain ++ j ∷ []) (step ∷ steps)
chain-more source chain steps j step once stands h i m at =
    list_any-append (λ k. k == i) chain (j ∷ [])
    ∙ ap (λ b. b || ((j == i) || false)) (h i m at)
    ∙ ap (λ b. list_any (λ t. bytes_eq m.name.text t.definition.name.text) steps || (b || false)) (names-tell source once i j m step.definition at stands)
    ∙ ap (λ b. list_any (λ t. bytes_eq m.name.text t.definition.name.text) steps || b) (or-false (bytes_eq m.name.text step.definition.name.text))
    ∙ or_comm (list_any (λ t. bytes_eq m.name.text t.definition.name.text) steps) (bytes_eq m.name.text step.definition.name.text)

pub chain-one : (source : Source) (j : ℕ) (step : Step) → two_definitions source ≡ [] → StandsAt source j step.definition → IsChain source (j ∷ []) (step ∷ [])
chain-one source j step once stands = chain-more source [] [] j step once stands (λ i m at. refl)

-- the code is at the child
pub at-child : (source : Source) (all : List (Vec code_child.Child)) (n d definition number : ℕ) (chain : List ℕ) (c count : ℕ) (s : Instance) (x : code_child.Child) (child : Child) (next : ℕ)
    → IsAt source all n definition number chain c s → IsChild source x child → list_any (λ k. k == x.definition) chain ≡ false → count ≡ suc next
    → IsAt source all d x.definition next (chain ++ x.definition ∷ []) count (child_instance d s child next)
at-child source all n d definition number chain c count s x child next h same other e = record {
  tree = h.tree;
  stands = same.stands;
  numbered = refl;
  leveled = refl;
  chained = chain-more source chain (s.step ∷ s.above) x.definition (child_instance d s child next).step h.tree.once same.stands h.chained;
  no_round = ap (λ b. b || has_round (s.step ∷ s.above)) (sym (h.chained x.definition child.definition same.stands) ∙ other) ∙ h.no_round;
  last = e;
}

pub one-longer : (now mid : List Placed) (p : Placed) → mid ≡ now ++ p ∷ [] → length mid ≡ length now + 1
one-longer now mid p e = ap length e ∙ length-append now (p ∷ [])

-- the same, where the code has put the child at the end of the chain and of the list
pub code-at-child : (source : Source) (all : List (Vec code_child.Child)) (n definition number : ℕ) (chain chain_now pushed : List ℕ) (c : ℕ) (s : Instance) (x : code_child.Child) (child : Child)
    (own : ℕ) (now mid : List Placed) (p : Placed) → IsAt source all n definition number chain c s → IsChild source x child → list_any (λ k. k == x.definition) chain ≡ false
    → own ≡ length now → chain_now ≡ chain
    → pushed ≡ chain_now ++ x.definition ∷ [] → mid ≡ now ++ p ∷ [] → IsAt source all (n - 1) x.definition own pushed (length mid) (child_instance (n - 1) s child own)
code-at-child source all n definition number chain chain_now pushed c s x child own now mid p h same other e f g k =
    let l = one-longer now mid p k in
    let m : length mid ≡ suc own = omega arith in
    subst (λ xs. IsAt source all (n - 1) x.definition own xs (length mid) (child_instance (n - 1) s child own)) (sym (g ∙ ap (λ xs. xs ++ x.definition ∷ []) f))
    (at-child source all n (n - 1) definition number chain c (length mid) s x child own h same other m)

pub one-less : (n : ℕ) → 0 < n → n ≡ suc (n - 1)
one-less n h = omega arith

-- ---- one child more

abbrev pub placed_child : ℕ → code_child.Child → Placed
placed_child number x = record { definition = x.definition; parent = Some number; member = x.member; text = Some x.text; end = 0 }

-- the list, after the child and those below it
pub record Longer (source : Source) (d : ℕ) (s : Instance) (now new : List Placed) (end : ℕ) (p : Placed) : Type 0 where
  pub added : List Placed
  pub list : new ≡ now ++ ended p end ∷ added
  pub placed : ArePlaced source added (below source d s)
  pub count : length new ≡ length now + size source d s.step.definition
  pub at_end : end ≡ length new
  pub faultless : AreFaultless source (instances_from source d s)

pub longer : (source : Source) (d : ℕ) (s : Instance) (now mid after new : List Placed) (p : Placed) → mid ≡ now ++ p ∷ [] → Grown source d s mid after
    → ((before behind : List Placed) (q : Placed) → after ≡ before ++ q ∷ behind → length now ≡ length before → new ≡ before ++ ended q (length after) ∷ behind)
    → Longer source d s now new (length after) p
longer source d s now mid after new p e g set =
    let cut : after ≡ now ++ p ∷ g.added = g.grown ∙ ap (λ xs. xs ++ g.added) e ∙ append_assoc now (p ∷ []) g.added in
    let is : new ≡ now ++ ended p (length after) ∷ g.added = set now g.added p cut refl in
    let a : length new ≡ length now + suc (length g.added) = ap length is ∙ length-append now (ended p (length after) ∷ g.added) in
    let b : length after ≡ length now + suc (length g.added) = ap length cut ∙ length-append now (p ∷ g.added) in
    let f : suc (length g.added) ≡ size source d s.step.definition =
    ap suc (placed-length source g.added (below source d s) g.placed) ∙ ap length (sym (with-below source d s)) ∙ size-is source d s in
    record { added = g.added; list = is; placed = g.placed; count = a ∙ ap (λ m. length now + m) f; at_end = b ∙ sym a; faultless = g.faultless }

pub is-placed : (source : Source) (d number : ℕ) (s : Instance) (x : code_child.Child) (child : Child) (next end : ℕ) → s.step.number ≡ number → IsChild source x child
    → end ≡ next + size source d child.definition → IsPlaced source (ended (placed_child number x) end) (child_instance d s child next)
is-placed source d number s x child next end e same f = record {
  definition = same.stands;
  parent = ap Some (sym e);
  member = same.member;
  text = record { name = ap text_of (sym same.name); place = sym same.place; connections = sym same.connections };
  end = f;
}

pub gone-on : (source : Source) (d number : ℕ) (s : Instance) (x : code_child.Child) (cs : List code_child.Child) (k : ℕ) (old now new : List Placed) (end : ℕ) (chain : List ℕ)
    → (h : Going source (suc d) s cs k old now) → (n : Next source x cs k h.left) → s.step.number ≡ number → IsChain source chain (s.step ∷ s.above)
    → list_any (λ k. k == x.definition) chain ≡ false → Longer source d (child_instance d s n.child (length now)) now new end (placed_child number x)
    → Going source (suc d) s cs (k + 1) old new
gone-on source d number s x cs k old now new end chain h n e chained other g =
    let t = child_instance d s n.child (length now) in
    let skipped : self_at s n.child ≡ [] = ap (λ b. fault_if b SelfInstance n.child.place) (sym (chained x.definition n.child.definition n.same.stands) ∙ other) in
    record {
      left = n.others;
      are = rw add-one n.are;
      added = h.added ++ ended (placed_child number x) end ∷ g.added;
      grown = g.list ∙ ap (λ xs. xs ++ ended (placed_child number x) end ∷ g.added) h.grown ∙ append_assoc old h.added (ended (placed_child number x) end ∷ g.added);
      done = h.done ++ t ∷ below source d t;
      placed = placed-append source h.added (ended (placed_child number x) end ∷ g.added) h.done (t ∷ below source d t) h.placed
          (is-placed source d number s x n.child (length now) end e n.same (g.at_end ∙ g.count), g.placed);
      rest = append_assoc h.done (t ∷ below source d t) (below_from source (suc d) s (length new) n.others)
          ∙ ap (λ xs. h.done ++ (xs ++ below_from source (suc d) s (length new) n.others)) (sym (with-below source d t))
          ∙ ap (λ m. h.done ++ (instances_from source d t ++ below_from source (suc d) s m n.others)) g.count
          ∙ ap (λ xs. h.done ++ xs) (sym (child-below source d s (length now) n.child n.others))
          ∙ ap (λ xs. h.done ++ below_from source (suc d) s (length now) xs) (sym n.cut)
          ∙ h.rest;
      self = ap (λ xs. xs ++ flat_map (self_at s) n.others) (sym skipped) ∙ ap (flat_map (self_at s)) (sym n.cut) ∙ h.self;
      faultless = faultless-append source h.done (t ∷ below source d t) h.faultless (subst (AreFaultless source) (with-below source d t) g.faultless);
      deep = λ z. absurd (omega arith);
    }

-- the same, where the levels and the number are the code's
pub code-gone-on : (source : Source) (n d own number : ℕ) (s : Instance) (x : code_child.Child) (cs : List code_child.Child) (k : ℕ) (old now new : List Placed) (end : ℕ) (chain : List ℕ) → n ≡ suc d
    → own ≡ length now → (h : Going source n s cs k old now) → (next : Next source x cs k h.left) → s.step.number ≡ number → IsChain source chain (s.step ∷ s.above)
    → list_any (λ k. k == x.definition) chain ≡ false → Longer source d (child_instance d s next.child own) now new end (placed_child number x)
    → Going source n s cs (k + 1) old new
code-gone-on source zero d own number s x cs k old now new end chain e f h next numbered chained other g = absurd (omega arith)
code-gone-on source (suc m) d own number s x cs k old now new end chain e f h next numbered chained other g =
    let q : d ≡ m = omega arith in
    gone-on source m number s x cs k old now new end chain h next numbered chained other
    (subst (λ o. Longer source m (child_instance m s next.child o) now new end (placed_child number x)) f
    (subst (λ l. Longer source l (child_instance l s next.child own) now new end (placed_child number x)) q g))
