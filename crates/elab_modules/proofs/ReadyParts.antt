-- What is ready of the definition that an instance names.
use Rattle.std.specs.Prelude.{◌≡◌, ℕ, zero, suc, ◌<◌, List, [], ◌∷◌, Option, Some, length, map, slice_get, slice_index_or, bytes_eq}
use Rattle.std.specs.List.{AllByRecursion, position_from}
use Rattle.std.proofs.Common.{sym, ◌∙◌, ap, arith, subst}
use Rattle.vl_tree.specs.Tree.{Named, Module, Primitive, Source, a_module, a_primitive}
use Rattle.elab_model.specs.Definitions.{name_of, definition_of}
use Rattle.elab_model.specs.PrimitiveFaults.{primitive_faults}
use Rattle.elab_modules.specs.Connecting.{prepared_in}
use Rattle.elab_modules.specs.Ready.{AreReady, IsReady, IsPrepared, NamesReady}
use Rattle.elab_modules.specs.declared.library.Ready as code_ready
use Rattle.elab_modules.specs.declared.library.Ready.TheVariants as ready
use Rattle.elab_modules.specs.declared.prepared.Prepared.{Prepared}
use Rattle.elab_modules.proofs.MemberFaults.{defined-at}

abbrev IsNamed : Source → Named → ℕ → Type 0
IsNamed source n i = Some i ≡ position_from (λ d. bytes_eq n.text (name_of d).text) 0 source

-- the module that stands ready
pub record ReadyModule (source : Source) (n : Named) (r : Option code_ready.Ready) : Type 0 where
  pub prepared : Prepared
  pub definition : Module
  pub is : prepared_in r ≡ Some prepared
  pub ready : IsPrepared prepared definition
  pub defined : definition_of source n.text ≡ Some (a_module definition)

pub ready-module : (source : Source) (parts : List (Option code_ready.Ready)) (n : Named) (i : ℕ) (r : Option code_ready.Ready) (k : Module) → AreReady source parts → NamesReady source parts n
    → IsNamed source n i → slice_get source i ≡ Some (a_module k) → slice_get parts i ≡ Some r → ReadyModule source n r
ready-module source parts n i r k all named e at there = let h = named i (sym e) in by h.0 h.1 (all.1 i (Some h.0) h.1)
  where
    by : (x : code_ready.Ready) → slice_get parts i ≡ Some (Some x) → IsReady source i (Some x) → ReadyModule source n r
    by (ready.Module p) g (m, stands, prepared) =
        let is : r ≡ Some (ready.Module p) = cc in
        record { prepared = p; definition = m; is = ap prepared_in is; ready = prepared; defined = (defined-at source n.text i e).found ∙ stands }
    by (ready.Primitive q) g (p, stands, faultless) = let f : Some (a_module k) ≡ Some (a_primitive p) = sym at ∙ stands in cc

pub ready-primitive : (source : Source) (parts : List (Option code_ready.Ready)) (n : Named) (i : ℕ) (p : Primitive) → AreReady source parts → NamesReady source parts n → IsNamed source n i
    → slice_get source i ≡ Some (a_primitive p) → primitive_faults p ≡ []
ready-primitive source parts n i p all named e at = let h = named i (sym e) in by h.0 (all.1 i (Some h.0) h.1)
  where
    by : (x : code_ready.Ready) → IsReady source i (Some x) → primitive_faults p ≡ []
    by (ready.Module q) (m, stands, prepared) = let f : Some (a_primitive p) ≡ Some (a_module m) = sym at ∙ stands in cc
    by (ready.Primitive k) (q, stands, faultless) = let f : Some (a_primitive p) ≡ Some (a_primitive q) = sym at ∙ stands in let g : p ≡ q = cc in ap primitive_faults g ∙ faultless.declarations

-- what holds of each member holds of one
each : {A B : Type 0} (P : B → Type 0) (f : A → B) (xs : List A) (i : ℕ) (d : A) → AllByRecursion P (map f xs) → i < length xs → P (f (slice_index_or xs i d))
each P f [] i d h lt = absurd (omega arith)
each P f (x ∷ xs) zero d h lt = h.0
each P f (x ∷ xs) (suc i) d h lt = each P f xs i d h.1 (omega arith)

pub one-of : {A B : Type 0} (P : B → Type 0) (f : A → B) (xs ys : List A) (i : ℕ) (x : A) → xs ≡ ys → AllByRecursion P (map f ys) → i < length xs → x ≡ slice_index_or xs i x → P (f x)
one-of P f xs ys i x same h lt at = subst (λ y. P (f y)) (sym at) (each P f xs i x (subst (λ zs. AllByRecursion P (map f zs)) (sym same) h) lt)
