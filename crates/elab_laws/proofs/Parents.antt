-- Each instance but the top lies in an instance.
use Rattle.std.specs.Prelude.{◌≡◌, ◌⊎◌, ℕ, zero, suc, List, ◌∷◌, false, refl}
use Rattle.std.proofs.Common.{sym, ◌∙◌, ap, inl, inr, subst}
use Rattle.vl_tree.specs.Tree.{Module, Source}
use Rattle.elab_model.specs.Hierarchy.{Instance, children_in, children_at, children, instances_from, instances, top_instance, levels_below_top, is_empty}
use Rattle.elab_laws.proofs.Lists.{In, in-flat, from-flat, all-in}
use Rattle.elab_laws.proofs.Chains.{IsBelow, children-below, children-are}

-- the instance of which it is a child
pub record HasParent (source : Source) (is : List Instance) (c : Instance) : Type 0 where
  pub parent : Instance
  pub there : In parent is
  pub child : In c (children source parent)
  pub above : c.above ≡ parent.step ∷ parent.above

pub has-parent : (source : Source) (d : ℕ) (t c : Instance) → t.step.levels ≡ d → In c (instances_from source d t) → (c ≡ t) ⊎ HasParent source (instances_from source d t) c
has-parent source zero t c l (inl e) = inl e
has-parent source zero t c l (inr h) = absurd h
has-parent source (suc d) t c l (inl e) = inl e
has-parent source (suc d) t c l (inr h) =
    let r = from-flat (instances_from source d) c (children_at source (suc d) t) h in
    let b = all-in (IsBelow (t.step ∷ t.above) d) r.source (children_at source (suc d) t) (children-below source d (t.step ∷ t.above) (suc t.step.number) (children_in source t.step.definition)) r.there in
    elim (has-parent source d r.source c b.1 r.made) [
      | inl e ↦ inr (record {
        parent = t;
        there = inl refl;
        child = subst (λ x. In x (children source t)) (sym e) (subst (In r.source) (sym (children-are source (suc d) t l)) r.there);
        above = ap (λ x. x.above) e ∙ b.0;
      })
      | inr p ↦ inr (record {
        parent = p.parent;
        there = inr (in-flat (instances_from source d) r.source p.parent (children_at source (suc d) t) r.there p.there);
        child = p.child;
        above = p.above;
      })
    ]

pub parent-of : (source : Source) (top : Module) (c : Instance) → In c (instances source top) → is_empty c.above ≡ false → HasParent source (instances source top) c
parent-of source top c h below =
    elim (has-parent source levels_below_top (top_instance top) c refl h) [
      | inl e ↦ (let f : is_empty (top_instance top).above ≡ false = subst (λ x. is_empty x.above ≡ false) e below in cc)
      | inr p ↦ p
    ]
