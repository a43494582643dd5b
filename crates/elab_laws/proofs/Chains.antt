-- The instances of a chain are instances, and where climbing stops.
use Rattle.std.specs.Prelude.{◌≡◌, ◌⊎◌, ℕ, zero, suc, ◌+◌, List, [], ◌∷◌, Option, Some, None, flat_map, refl}
use Rattle.std.specs.List.{AllByRecursion}
use Rattle.std.proofs.Common.{sym, ◌∙◌, ap, inl, inr, subst}
use Rattle.elab_laws.proofs.Lists.{In, in-flat, from-flat, all-in}
use Rattle.elab_laws.proofs.Places.{HasBit, above-below}
use Rattle.elab_model.specs.Bits.{Bit, net, constant}
use Rattle.elab_model.specs.Hierarchy.{Step, Instance, Child, children_in, size, children_from, children_at, children, instances_from, instances, top_instance, levels_below_top}
use Rattle.elab_model.specs.Homes.{bit, home, same_above}
use Rattle.elab_model.specs.Names.{variables}
use Rattle.vl_tree.specs.Tree.{Module, Source}

-- a step, with those above it, is the upper part of a chain
abbrev pub Upper : Step → List Step → List Step → Type 0
Upper at rest [] = ⊥
Upper at rest (s ∷ over) = ((at ≡ s) × (rest ≡ over)) ⊎ Upper at rest over

-- where climbing stops: at an instance of the chain, at a bit of a variable that is a net of its own there
pub record Stops (source : Source) (s : Step) (over : List Step) (n : List ℕ) (p : ℕ) : Type 0 where
  pub at : Step
  pub rest : List Step
  pub name : List ℕ
  pub position : ℕ
  pub upper : Upper at rest (s ∷ over)
  pub has : HasBit (variables at.definition) name position
  pub found : home source s over n p ≡ bit at.number name position
  pub own : home source at rest name position ≡ bit at.number name position

pub home-stops : (source : Source) (s : Step) (over : List Step) (n : List ℕ) (p : ℕ) → HasBit (variables s.definition) n p → Stops source s over n p
home-stops source s [] n p h = record { at = s; rest = []; name = n; position = p; upper = inl (refl, refl); has = h; found = refl; own = refl }
home-stops source s (parent ∷ over) n p h = by (same_above source s parent n p) refl (λ m q k. home-stops source parent over m q k)
  where
    by : (b : Option Bit) → same_above source s parent n p ≡ b → ((m : List ℕ) (q : ℕ) → HasBit (variables parent.definition) m q → Stops source parent over m q) → Stops source s (parent ∷ over) n p
    by None e k = record { at = s; rest = parent ∷ over; name = n; position = p; upper = inl (refl, refl); has = h; found = rw (e, home) refl; own = rw (e, home) refl }
    by (Some (constant pl v)) e k = record { at = s; rest = parent ∷ over; name = n; position = p; upper = inl (refl, refl); has = h; found = rw (e, home) refl; own = rw (e, home) refl }
    by (Some (net m q)) e k =
        let r = k m q (above-below source s parent n p (net m q) e) in
        record { at = r.at; rest = r.rest; name = r.name; position = r.position; upper = inr r.upper; has = r.has; found = rw (e, home) r.found; own = r.own }

-- children lie in what they were made in, and d levels may stand below each
abbrev pub IsBelow : List Step → ℕ → Instance → Type 0
IsBelow above d c = (c.above ≡ above) × (c.step.levels ≡ d)

pub children-below : (source : Source) (d : ℕ) (above : List Step) (next : ℕ) (is : List Child) → AllByRecursion (IsBelow above d) (children_from source d above next is)
children-below source d above next [] = tt
children-below source d above next (i ∷ is) = ((refl, refl), children-below source d above (next + size source d i.definition) is)

abbrev pub at_step : Step → List Step → Instance
at_step s over = record { step = s; above = over }

-- an instance of an instance's chain is an instance, or one above the first
pub chain-among : (source : Source) (d : ℕ) (s x : Instance) (at : Step) (rest : List Step) → In x (instances_from source d s) → Upper at rest (x.step ∷ x.above)
    → In (at_step at rest) (instances_from source d s) ⊎ Upper at rest s.above
chain-among source zero s x at rest (inr h) u = absurd h
chain-among source zero s x at rest (inl e) u =
    elim (subst (λ x. Upper at rest (x.step ∷ x.above)) e u) [ inl p ↦ inl (inl (λ i. at_step (p.0 i) (p.1 i))) | inr v ↦ inr v ]
chain-among source (suc d) s x at rest (inl e) u =
    elim (subst (λ x. Upper at rest (x.step ∷ x.above)) e u) [ inl p ↦ inl (inl (λ i. at_step (p.0 i) (p.1 i))) | inr v ↦ inr v ]
chain-among source (suc d) s x at rest (inr h) u =
    let r = from-flat (instances_from source d) x (children_at source (suc d) s) h in
    let b = all-in (IsBelow (s.step ∷ s.above) d) r.source (children_at source (suc d) s) (children-below source d (s.step ∷ s.above) (suc s.step.number) (children_in source s.step.definition)) r.there in
    elim (chain-among source d r.source x at rest r.made u) [
      | inl k ↦ inl (inr (in-flat (instances_from source d) r.source (at_step at rest) (children_at source (suc d) s) r.there k))
      | inr v ↦ elim (subst (Upper at rest) b.0 v) [ inl p ↦ inl (inl (λ i. at_step (p.0 i) (p.1 i))) | inr w ↦ inr w ]
    ]

pub chain-there : (source : Source) (top : Module) (x : Instance) (at : Step) (rest : List Step) → In x (instances source top) → Upper at rest (x.step ∷ x.above)
    → In (at_step at rest) (instances source top)
chain-there source top x at rest h u = elim (chain-among source levels_below_top (top_instance top) x at rest h u) [ inl k ↦ k | inr v ↦ absurd v ]

-- the levels of an instance are those that are left where it is met
pub children-are : (source : Source) (n : ℕ) (s : Instance) → s.step.levels ≡ n → children source s ≡ children_at source n s
children-are source n s e = ap (λ k. children_at source k s) e

pub instances-children : (source : Source) (n : ℕ) (s : Instance) → s.step.levels ≡ suc n
    → instances_from source (suc n) s ≡ s ∷ flat_map (λ c. instances_from source c.step.levels c) (children source s)
instances-children source n s e =
    ap (λ xs. s ∷ xs) (same (children_at source (suc n) s) (children-below source n (s.step ∷ s.above) (suc s.step.number) (children_in source s.step.definition))
    ∙ ap (λ cs. flat_map (λ c. instances_from source c.step.levels c) cs) (sym (children-are source (suc n) s e)))
  where
    same : (cs : List Instance) → AllByRecursion (IsBelow (s.step ∷ s.above) n) cs → flat_map (instances_from source n) cs ≡ flat_map (λ c. instances_from source c.step.levels c) cs
    same [] h = refl
    same (c ∷ cs) h = rw (h.0.1, same cs h.1) refl

pub levels-agree : (source : Source) (n : ℕ) (s : Instance) → s.step.levels ≡ n → AllByRecursion (λ c. suc c.step.levels ≡ n) (children source s)
levels-agree source zero s e = subst (AllByRecursion (λ c. suc c.step.levels ≡ 0)) (sym (children-are source 0 s e)) tt
levels-agree source (suc n) s e =
    subst (AllByRecursion (λ c. suc c.step.levels ≡ suc n)) (sym (children-are source (suc n) s e))
    (same (children_at source (suc n) s) (children-below source n (s.step ∷ s.above) (suc s.step.number) (children_in source s.step.definition)))
  where
    same : (cs : List Instance) → AllByRecursion (IsBelow (s.step ∷ s.above) n) cs → AllByRecursion (λ c. suc c.step.levels ≡ suc n) cs
    same [] h = tt
    same (c ∷ cs) h = (ap suc h.0.1, same cs h.1)
