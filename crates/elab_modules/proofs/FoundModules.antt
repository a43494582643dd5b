-- The module that stands ready at a place.
use Rattle.std.specs.Prelude.{◌≡◌, ℕ, List, Option, Some, None, option_map, slice_get, refl}
use Rattle.std.specs.Borrow.{Bor}
use Rattle.std.proofs.Common.{sym, ◌∙◌, ap, subst}
use Rattle.vl_tree.specs.Tree.{Module, Source, a_module, a_primitive, Primitive}
use Rattle.elab_hierarchy.specs.Tops.{StandsAt}
use Rattle.elab_modules.specs.declared.library.Ready as code_ready
use Rattle.elab_modules.specs.declared.library.Ready.TheVariants as ready
use Rattle.elab_modules.specs.declared.prepared.Prepared.{Prepared}
use Rattle.elab_modules.specs.Ready.{AreReady, HasReady, IsPrepared}
use Rattle.elab_modules.specs.Finding.{module_in, module_at}

-- two modules at one place are one
pub same-module : (source : Source) (i : ℕ) (m n : Module) → StandsAt source i m → StandsAt source i n → m ≡ n
same-module source i m n h k = let f : Some (a_module m) ≡ Some (a_module n) = sym h ∙ k in cc

not-both : (source : Source) (i : ℕ) (m : Module) (p : Primitive) → StandsAt source i m → slice_get source i ≡ Some (a_primitive p) → ⊥
not-both source i m p h k = let f : Some (a_module m) ≡ Some (a_primitive p) = sym h ∙ k in cc

-- it is ready
pub is-prepared : (source : Source) (parts : List (Option code_ready.Ready)) (i : ℕ) (m : Module) (p : Prepared) → AreReady source parts → StandsAt source i m → module_at (slice_get parts i) ≡ Some p → IsPrepared p m
is-prepared source parts i m p are stands e = by (slice_get parts i) refl e
  where
    in_part : (r : Option code_ready.Ready) → slice_get parts i ≡ Some r → module_in r ≡ Some p → IsPrepared p m
    in_part None g e = cc
    in_part (Some (ready.Primitive k)) g e = cc
    in_part (Some (ready.Module q)) g e =
        let r = are.1 i (Some (ready.Module q)) g in
        let same : q ≡ p = cc in
        subst (λ z. IsPrepared z m) same (subst (IsPrepared q) (same-module source i r.0 m r.1 stands) r.2)

    by : (o : Option (Option code_ready.Ready)) → slice_get parts i ≡ o → module_at o ≡ Some p → IsPrepared p m
    by None g e = cc
    by (Some r) g e = in_part r g e

-- and something is
pub is-found : (source : Source) (parts : List (Option code_ready.Ready)) (i : ℕ) (m : Module) → AreReady source parts → StandsAt source i m → HasReady parts i → module_at (slice_get parts i) ≡ None → ⊥
is-found source parts i m are stands (r, g) e = by r g (sym (ap module_at g) ∙ e)
  where
    by : (r : code_ready.Ready) → slice_get parts i ≡ Some (Some r) → module_in (Some r) ≡ None → ⊥
    by (ready.Module q) g e = cc
    by (ready.Primitive k) g e = let r = are.1 i (Some (ready.Primitive k)) g in not-both source i m r.0 stands r.1

-- of what is lent
pub lent : {A : Type 0} (o : Option (Bor A)) (x : Bor A) (y : Option A) → o ≡ Some x → option_map (λ p. p.now) o ≡ y → y ≡ Some x.now
lent o x y e h = sym h ∙ ap (option_map (λ p. p.now)) e

pub none-lent : {A : Type 0} (o : Option (Bor A)) (y : Option A) → o ≡ None → option_map (λ p. p.now) o ≡ y → y ≡ None
none-lent o y e h = sym h ∙ ap (option_map (λ p. p.now)) e
