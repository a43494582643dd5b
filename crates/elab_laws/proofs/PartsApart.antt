-- The nets that no variable names are distinct.
use Rattle.std.specs.Prelude.{◌≡◌, ℕ, zero, suc, ◌+◌, ◌==◌, List, [], ◌∷◌, ◌++◌, Bool, true, false, ◌&&◌, Option, Some, None, map, flat_map, filter_map, slice_get, refl, if◌then◌else◌, bytes_eq}
use Rattle.std.specs.List.{AllByRecursion, enumerate_from, cons_option}
use Rattle.std.proofs.Common.{sym, ◌∙◌, ap, arith, subst, add-zero}
use Rattle.std.proofs.lemmas.Bool.{eq-eqb, eqb-true}
use Rattle.std.proofs.lemmas.Slice.Eq.{bytes_eq-Decides}
use Rattle.elab_laws.proofs.Lists.{all-flat, all-flat_in, all-weaker, all-anyway, Pairwise, pairwise-flat, pairwise-map, pairwise-map_back, range-apart, enumerate-apart}
use Rattle.elab_laws.proofs.Chains.{IsBelow, children-below}
use Rattle.elab_laws.proofs.Firsts.{and-both}
use Rattle.elab_laws.proofs.Apart.{Other, AreApart, and-false, variables-apart}
use Rattle.elab_model.specs.Bits.{Bit, net, constant, positions}
use Rattle.elab_model.specs.Connections.{connection_at, port_values}
use Rattle.elab_model.specs.Definitions.{module_of}
use Rattle.elab_model.specs.Elements.{child_at, bound_above}
use Rattle.elab_model.specs.Hierarchy.{Step, Instance, Child, children_in, child_of_member, child_of, children, children_at, children_from, size}
use Rattle.elab_model.specs.Homes.{outside, terminal, has_leg}
use Rattle.elab_model.specs.Members.{Member, assignment, supply, gate, instance, path, check, members}
use Rattle.elab_model.specs.Names.{Variable, variables}
use Rattle.elab_model.specs.Nets.{OwnNet, terminal_net, terminal_nets, outside_net, is_unbound, unbound_net, unbound_nets}
use Rattle.elab_model.specs.Ports.{port_list}
use Rattle.sg_circuit.specs.Closed.{width_of}
use Rattle.vl_tree.specs.Tree.{Module, Source}

pub all-if : {A : Type 0} (P : A → Type 0) (b : Bool) (xs : List A) → AllByRecursion P xs → AllByRecursion P (if b then xs else [])
all-if P true xs h = h
all-if P false xs h = tt

pub pairwise-if : {A : Type 0} (R : A → A → Type 0) (b : Bool) (xs : List A) → Pairwise R xs → Pairwise R (if b then xs else [])
pairwise-if R true xs h = h
pairwise-if R false xs h = tt

-- f has what the list has, so each element stands at its place
pub enumerate-places : {A : Type 0} (f : ℕ → Option A) (a : ℕ) (xs : List A) → ((j : ℕ) → f (a + j) ≡ slice_get xs j) → AllByRecursion (λ x. f x.0 ≡ Some x.1) (enumerate_from a xs)
enumerate-places f a [] h = tt
enumerate-places f a (x ∷ xs) h = (
  subst (λ k. f k ≡ Some x) (add-zero a) (h 0),
  enumerate-places f (a + 1) xs (λ j. let e : (a + 1) + j ≡ a + suc j = omega arith in rw e (h (suc j))),
)

pub places-are : {A : Type 0} (xs : List A) → AllByRecursion (λ x. slice_get xs x.0 ≡ Some x.1) (enumerate_from 0 xs)
places-are xs = enumerate-places (slice_get xs) 0 xs (λ j. let e : 0 + j ≡ j = omega arith in ap (slice_get xs) e)

-- a filter_map is a flat_map
pub option_items : {A : Type 0} → Option A → List A
option_items None = []
option_items (Some x) = x ∷ []

filter_map-flat : {A B : Type 0} (h : A → Option B) (xs : List A) → filter_map h xs ≡ flat_map (λ x. option_items (h x)) xs
unfolding option_items
filter_map-flat h [] = refl
filter_map-flat {A} {B} h (x ∷ xs) = by (h x) ∙ ap (λ ys. option_items (h x) ++ ys) (filter_map-flat h xs)
  where
    by : (o : Option B) → cons_option o (filter_map h xs) ≡ option_items o ++ filter_map h xs
    by None = refl
    by (Some y) = refl

-- ---- the children of an instance are different members

abbrev IsAt : ℕ × Member → Child → Type 0
IsAt p i = i.member ≡ p.0

inner-at : (source : Source) (p : ℕ × Member) → AllByRecursion (IsAt p) (option_items (child_of_member source p.0 p.1))
unfolding option_items
inner-at source (k, assignment j) = tt
inner-at source (k, supply n v) = tt
inner-at source (k, gate g d i) = tt
inner-at source (k, path p) = tt
inner-at source (k, check t) = tt
inner-at source (k, instance n d i) = by (module_of source n.text)
  where
    by : (o : Option Module) → AllByRecursion (IsAt (k, instance n d i)) (option_items (child_of o k i))
    by None = tt
    by (Some m) = (refl, tt)

one-item : {A : Type 0} (R : A → A → Type 0) (o : Option A) → Pairwise R (option_items o)
unfolding option_items
one-item R None = tt
one-item R (Some x) = (tt, tt)

pub inner-apart : (source : Source) (m : Module) → Pairwise (λ i j. (i.member == j.member) ≡ false) (children_in source m)
inner-apart source m =
    subst (Pairwise (λ i j. (i.member == j.member) ≡ false)) (sym (filter_map-flat (λ p. child_of_member source p.0 p.1) (enumerate_from 0 (members m))))
    (pairwise-flat (λ i j. (i.member == j.member) ≡ false) (λ p q. (p.0 == q.0) ≡ false) IsAt (λ p. option_items (child_of_member source p.0 p.1)) (enumerate_from 0 (members m))
    (inner-at source) (λ p q e i j h g. rw (h, g) e)
    (all-anyway (λ p. Pairwise (λ i j. (i.member == j.member) ≡ false) (option_items (child_of_member source p.0 p.1))) (enumerate_from 0 (members m)) (λ p. one-item (λ i j. (i.member == j.member) ≡ false) (child_of_member source p.0 p.1)))
    (enumerate-apart 0 (members m)))

children-parts : (source : Source) (d : ℕ) (above : List Step) (next : ℕ) (is : List Child) → map (λ c. c.step.member) (children_from source d above next is) ≡ map (λ i. i.member) is
children-parts source d above next [] = refl
children-parts source d above next (i ∷ is) = ap (λ ks. i.member ∷ ks) (children-parts source d above (next + size source d i.definition) is)

pub children-apart : (source : Source) (n : ℕ) (s : Instance) → Pairwise (λ c d. (c.step.member == d.step.member) ≡ false) (children_at source n s)
children-apart source zero s = tt
children-apart source (suc d) s =
    pairwise-map_back (λ i j. (i == j) ≡ false) (λ c. c.step.member) (children_at source (suc d) s)
    (subst (Pairwise (λ i j. (i == j) ≡ false)) (sym (children-parts source d (s.step ∷ s.above) (suc s.step.number) (children_in source s.step.definition)))
    (pairwise-map (λ i j. (i == j) ≡ false) (λ i. i.member) (children_in source s.step.definition) (inner-apart source s.step.definition)))

pub children-above : (source : Source) (n : ℕ) (s : Instance) → AllByRecursion (λ c. c.above ≡ s.step ∷ s.above) (children_at source n s)
children-above source zero s = tt
children-above source (suc d) s =
    all-weaker (IsBelow (s.step ∷ s.above) d) (λ c. c.above ≡ s.step ∷ s.above) (children_at source (suc d) s) (λ c h. h.0)
    (children-below source d (s.step ∷ s.above) (suc s.step.number) (children_in source s.step.definition))

-- one instance at most is a part
abbrev IsThe : ℕ → Instance → Instance → Type 0
IsThe k c x = (x.step.member ≡ k) × (x ≡ c)

child-is : (k : ℕ) (c : Instance) → AllByRecursion (IsThe k c) (if c.step.member == k then c ∷ [] else [])
child-is k c = by (c.step.member == k) refl
  where
    by : (b : Bool) → (c.step.member == k) ≡ b → AllByRecursion (IsThe k c) (if b then c ∷ [] else [])
    by true e = ((eqb-true c.step.member k e, refl), tt)
    by false e = tt

pub child_at-one : (source : Source) (s : Instance) (k : ℕ) → Pairwise (λ c d. ⊥) (child_at source s k)
child_at-one source s k =
    pairwise-flat (λ c d. ⊥) (λ c d. (c.step.member == d.step.member) ≡ false) (IsThe k) (λ c. if c.step.member == k then c ∷ [] else []) (children source s)
    (child-is k) (λ c d e x y h g. not_both c d e x y h g)
    (all-anyway (λ c. Pairwise (λ c d. ⊥) (if c.step.member == k then c ∷ [] else [])) (children source s) (λ c. pairwise-if (λ c d. ⊥) (c.step.member == k) (c ∷ []) (tt, tt)))
    (children-apart source s.step.levels s)
  where
    not_both : (c d : Instance) → (c.step.member == d.step.member) ≡ false → (x y : Instance) → IsThe k c x → IsThe k d y → ⊥
    not_both c d e x y h g =
        let p : c.step.member ≡ d.step.member = ap (λ c. c.step.member) (sym h.1) ∙ h.0 ∙ sym g.0 ∙ ap (λ c. c.step.member) g.1 in
        let t : (c.step.member == d.step.member) ≡ true = eq-eqb c.step.member d.step.member p in
        cc

pub child_at-all : (P : Instance → Type 0) (source : Source) (s : Instance) (k : ℕ) → AllByRecursion P (children source s) → AllByRecursion P (child_at source s k)
child_at-all P source s k h =
    all-flat_in P (λ c. if c.step.member == k then c ∷ [] else []) (children source s)
    (all-weaker P (λ c. AllByRecursion P (if c.step.member == k then c ∷ [] else [])) (children source s) (λ c p. all-if P (c.step.member == k) (c ∷ []) (p, tt)) h)

-- ---- the inputs of a gate

abbrev pub IsTerminal : ℕ → ℕ → ℕ × Bit → OwnNet → Type 0
IsTerminal s k x o = o.spot ≡ terminal s k x.0

pub terminal-is : (s : Instance) (k : ℕ) (os : List Bit) (x : ℕ × Bit) → AllByRecursion (IsTerminal s.step.number k x) (terminal_net s k os x)
terminal-is s k [] x = tt
terminal-is s k (constant at w ∷ os) x = tt
terminal-is s k (net m q ∷ os) (i, net n p) = tt
terminal-is s k (net m q ∷ os) (i, constant at v) = (refl, tt)

terminal-one : (s : Instance) (k : ℕ) (os : List Bit) (x : ℕ × Bit) → AreApart (terminal_net s k os x)
terminal-one s k [] x = tt
terminal-one s k (constant at w ∷ os) x = tt
terminal-one s k (net m q ∷ os) (i, net n p) = tt
terminal-one s k (net m q ∷ os) (i, constant at v) = (tt, tt)

pub gate_nets-apart : (s : Instance) (k : ℕ) (outputs inputs : List Bit) → AreApart (terminal_nets s k outputs inputs)
gate_nets-apart s k outputs inputs =
    pairwise-flat Other (λ x y. (x.0 == y.0) ≡ false) (IsTerminal s.step.number k) (terminal_net s k outputs) (enumerate_from 0 inputs)
    (terminal-is s k outputs)
    (λ x y e a b h g. rw (h, g, e) (and-false (s.step.number == s.step.number) ((k == k) && false) (and-false (k == k) false refl)))
    (all-anyway (λ x. AreApart (terminal_net s k outputs x)) (enumerate_from 0 inputs) (terminal-one s k outputs))
    (enumerate-apart 0 inputs)

-- ---- what lies outside a leaf

-- no port is connected twice
pub record AreOnce (c : Step) : Type 0 where
  pub names : Pairwise (λ x y. bytes_eq x.0 y.0 ≡ false) (port_values c.connections (port_list c.definition))
  pub first : AllByRecursion (λ e. connection_at c.connections (port_list c.definition) e.0 ≡ Some e.1) (port_values c.connections (port_list c.definition))

abbrev pub IsOutside : Instance → Instance → List ℕ → ℕ → OwnNet → Type 0
IsOutside s c n p o = o.spot ≡ outside s.step.number c.step.member n p

-- an unbound bit of this name; a bit of this name that is bound
abbrev IsUnboundOf : Instance → Instance → List ℕ → OwnNet → Type 0
IsUnboundOf s c n o = (p : ℕ) × IsOutside s c n p o × (is_unbound (bound_above c.step c.above n p) ≡ true)

abbrev pub IsUnbound : Instance → Instance → OwnNet → Type 0
IsUnbound s c o = (n : List ℕ) × IsUnboundOf s c n o

abbrev pub IsBound : Instance → Instance → OwnNet → Type 0
IsBound s c o = (n : List ℕ) × (p : ℕ) × IsOutside s c n p o × (is_unbound (bound_above c.step c.above n p) ≡ false)

pub outside-tell : (s c : Instance) (n m : List ℕ) (p q : ℕ) (a b : OwnNet) → (bytes_eq n m && p == q) ≡ false → IsOutside s c n p a → IsOutside s c m q b → Other a b
outside-tell s c n m p q a b e h g = rw (h, g, e) (and-false (s.step.number == s.step.number) ((c.step.member == c.step.member) && false) (and-false (c.step.member == c.step.member) false refl))

pub both-false : (a b : Bool) → a ≡ false → (a && b) ≡ false
both-false a b e = rw e refl

pub bound-tell : (s c : Instance) (a b : OwnNet) → IsUnbound s c a → IsBound s c b → Other a b
bound-tell s c a b (n, (p, h, t)) (m, q, g, f) = by (bytes_eq n m && p == q) refl
  where
    by : (r : Bool) → (bytes_eq n m && p == q) ≡ r → Other a b
    by false e = outside-tell s c n m p q a b e h g
    by true e =
        let w = and-both (bytes_eq n m) (p == q) e in
        let x : n ≡ m = (bytes_eq-Decides n m).0 w.0 in
        let y : p ≡ q = eqb-true p q w.1 in
        let z : is_unbound (bound_above c.step c.above n p) ≡ false = rw (x, y) f in
        cc

unbound-is : (s c : Instance) (v : Variable) (p : ℕ) → AllByRecursion (λ o. IsOutside s c v.name p o × (is_unbound (bound_above c.step c.above v.name p) ≡ true)) (unbound_net s c v p)
unbound-is s c v p = by (is_unbound (bound_above c.step c.above v.name p)) refl
  where
    by : (b : Bool) → is_unbound (bound_above c.step c.above v.name p) ≡ b
        → AllByRecursion (λ o. IsOutside s c v.name p o × (is_unbound (bound_above c.step c.above v.name p) ≡ true)) (if b then outside_net s c v p ∷ [] else [])
    by true e = ((refl, e), tt)
    by false e = tt

unbound-variable : (source : Source) (s c : Instance) (v : Variable) → List OwnNet
unbound-variable source s c v = if has_leg source c.step v.name then flat_map (unbound_net s c v) (positions v.range) else []

unbound-of : (source : Source) (s c : Instance) (v : Variable) → AllByRecursion (IsUnboundOf s c v.name) (unbound-variable source s c v)
unfolding unbound-variable
unbound-of source s c v =
    all-if (IsUnboundOf s c v.name) (has_leg source c.step v.name) (flat_map (unbound_net s c v) (positions v.range))
    (all-flat (IsUnboundOf s c v.name) (unbound_net s c v) (positions v.range)
    (λ p. all-weaker (λ o. IsOutside s c v.name p o × (is_unbound (bound_above c.step c.above v.name p) ≡ true)) (IsUnboundOf s c v.name) (unbound_net s c v p) (λ o h. (p, h.0, h.1)) (unbound-is s c v p)))

unbound-apart_variable : (source : Source) (s c : Instance) (v : Variable) → AreApart (unbound-variable source s c v)
unfolding unbound-variable
unbound-apart_variable source s c v =
    pairwise-if Other (has_leg source c.step v.name) (flat_map (unbound_net s c v) (positions v.range))
    (pairwise-flat Other (λ p q. (p == q) ≡ false) (λ p o. IsOutside s c v.name p o × (is_unbound (bound_above c.step c.above v.name p) ≡ true)) (unbound_net s c v) (positions v.range)
    (unbound-is s c v) (λ p q e a b h g. outside-tell s c v.name v.name p q a b (and-false (bytes_eq v.name v.name) (p == q) e) h.0 g.0)
    (all-anyway (λ p. AreApart (unbound_net s c v p)) (positions v.range) (λ p. pairwise-if Other (is_unbound (bound_above c.step c.above v.name p)) (outside_net s c v p ∷ []) (tt, tt)))
    (range-apart 0 (width_of v.range)))

pub unbound-apart : (source : Source) (s c : Instance) → AreApart (unbound_nets source s c)
unfolding unbound-variable
unbound-apart source s c =
    pairwise-flat Other (λ v w. bytes_eq v.name w.name ≡ false) (λ v. IsUnboundOf s c v.name) (unbound-variable source s c) (variables c.step.definition)
    (unbound-of source s c)
    (λ v w e a b h g. outside-tell s c v.name w.name h.0 g.0 a b (both-false (bytes_eq v.name w.name) (h.0 == g.0) e) h.1 g.1)
    (all-anyway (λ v. AreApart (unbound-variable source s c v)) (variables c.step.definition) (unbound-apart_variable source s c))
    (variables-apart c.step.definition)

pub unbound-all : (source : Source) (s c : Instance) → AllByRecursion (IsUnbound s c) (unbound_nets source s c)
unfolding unbound-variable
unbound-all source s c =
    all-flat (IsUnbound s c) (unbound-variable source s c) (variables c.step.definition)
    (λ v. all-weaker (IsUnboundOf s c v.name) (IsUnbound s c) (unbound-variable source s c v) (λ o h. (v.name, h)) (unbound-of source s c v))
