-- The module at a place that stands ready is the one that was found there.
use Rattle.std.specs.Prelude.{◌≡◌, ℕ, ◌<◌, Option, Some, None, length, slice_index_or, ℤ, ◌≤ℤ◌}
use Rattle.std.proofs.Common.{◌∙◌, subst}
use Rattle.std.proofs.lemmas.Option.{get_or_from_slice_get, slice_get_within}
use Rattle.vl_tree.specs.Tree.{Module, Source}
use Rattle.elab_hierarchy.specs.Tops.{StandsAt}
use Rattle.elab_elements.specs.Ready as code_ready
use Rattle.elab_elements.specs.Ready.TheVariants as ready
use Rattle.elab_elements.specs.Prepared.{Prepared}
use Rattle.elab_elements.specs.ReadyOfModules.{IsPrepared}
use Rattle.elab_elements.proofs.NamedOfModules.{module-same}
use Rattle.elab_elements.proofs.Stocking.{Parts}
use Rattle.elab_paths.specs.OfModules.{StandsReady}

-- what was found is a module
pub found-module : (source : Source) (tick : ℤ) (parts : Parts) (place : ℕ) (x : Option code_ready.Ready) (h : StandsReady source tick parts place) → x ≡ slice_index_or parts place x
    → x ≡ Some (ready.Module h.prepared)
found-module source tick parts place x h is = is ∙ get_or_from_slice_get parts place (Some (ready.Module h.prepared)) x h.there

pub no-primitive : (x : Option code_ready.Ready) (p : Prepared) (k : ℕ) → x ≡ Some (ready.Module p) → x ≡ Some (ready.Primitive k) → ⊥
no-primitive x p k e f = cc

pub not-none : (x : Option code_ready.Ready) (p : Prepared) → x ≡ Some (ready.Module p) → x ≡ None → ⊥
not-none x p e f = cc

pub ready-within : (source : Source) (tick : ℤ) (parts : Parts) (place : ℕ) → StandsReady source tick parts place → place < length parts
ready-within source tick parts place h = slice_get_within parts place (Some (ready.Module h.prepared)) h.there

prepared-same : (x : Option code_ready.Ready) (p q : Prepared) → x ≡ Some (ready.Module p) → x ≡ Some (ready.Module q) → p ≡ q
prepared-same x p q e f = cc

pub is-prepared : (source : Source) (tick : ℤ) (parts : Parts) (place : ℕ) (x : Option code_ready.Ready) (q : Prepared) (m : Module) → StandsReady source tick parts place
    → x ≡ slice_index_or parts place x → x ≡ Some (ready.Module q) → StandsAt source place m → IsPrepared q m
is-prepared source tick parts place x q m h is e at =
    subst (IsPrepared q) (module-same source place h.own m h.stands at)
    (subst (λ p. IsPrepared p h.own) (prepared-same x h.prepared q (found-module source tick parts place x h is) e) h.is)

pub has-fits : (source : Source) (tick : ℤ) (parts : Parts) (place : ℕ) (x : Option code_ready.Ready) (q : Prepared) (h : StandsReady source tick parts place) → x ≡ slice_index_or parts place x
    → x ≡ Some (ready.Module q) → tick ≤ℤ q.definition.now.mark.scale.precision.power
has-fits source tick parts place x q h is e =
    subst (λ p. tick ≤ℤ p.definition.now.mark.scale.precision.power) (prepared-same x h.prepared q (found-module source tick parts place x h is) e) h.fits
