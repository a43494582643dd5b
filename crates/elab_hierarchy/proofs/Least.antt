-- The least precision so far, and of what is left.
use Rattle.std.specs.Prelude.{◌≡◌, ℕ, suc, ◌+◌, ◌<◌, List, length, slice_index_or, ℤ}
use Rattle.std.proofs.Common.{sym, ◌∙◌, ap, drop, add-one, subst}
use Rattle.vl_tree.specs.Tree.{Module, Source}
use Rattle.elab_model.specs.Delays.{lesser, tick_of}
use Rattle.elab_model.specs.Hierarchy.{instances}
use Rattle.elab_laws.proofs.Precisions.{least_of}
use Rattle.elab_hierarchy.specs.Placing.{ArePlaced}
use Rattle.elab_hierarchy.specs.Tops.{StandsAt}
use Rattle.elab_hierarchy.specs.declared.instances.Placed.{Placed}
use Rattle.elab_hierarchy.proofs.Listed.{placed-at, placed-end}

-- where these are the instances, the least so far leads to the tick
abbrev pub LeadsToTick : Source → ℕ → List Placed → ℤ → ℕ → Type 0
LeadsToTick source top ps p i = (m : Module) → StandsAt source top m → ArePlaced source ps (instances source m) → least_of p (drop i (instances source m)) ≡ tick_of source m

pub finer-next : (source : Source) (top : ℕ) (d x : Placed) (ps : List Placed) (p q r : ℤ) (i : ℕ) → i < length ps → x ≡ slice_index_or ps i d
    → ((m : Module) → StandsAt source x.definition m → q ≡ m.settings.scale.precision) → r ≡ lesser p q
    → LeadsToTick source top ps p i → LeadsToTick source top ps r (i + 1)
finer-next source top d x ps p q r i lt is read e h m stands placed =
    let a = placed-at source d ps (instances source m) i placed lt in
    rw add-one (ap (λ x. least_of x (drop (suc i) (instances source m))) (e ∙ ap (lesser p) (read a.instance.step.definition (subst (λ y. StandsAt source y.definition a.instance.step.definition) (sym is) a.is.definition)))
    ∙ ap (least_of p) (sym a.cut) ∙ h m stands placed)

pub finest-is : (source : Source) (top : ℕ) (ps : List Placed) (p : ℤ) (i : ℕ) → i ≡ length ps → LeadsToTick source top ps p i → (m : Module) → StandsAt source top m
    → ArePlaced source ps (instances source m) → p ≡ tick_of source m
finest-is source top ps p i e h m stands placed =
    ap (least_of p) (sym (ap (λ k. drop k (instances source m)) e ∙ placed-end source ps (instances source m) placed)) ∙ h m stands placed
