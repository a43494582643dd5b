-- A module or a primitive more stands ready.
use Rattle.std.specs.Prelude.{◌≡◌, ℕ, ◌+◌, ◌<◌, ◌^◌, List, [], ◌∷◌, ◌++◌, Option, Some, None, length, slice_get, refl}
use Rattle.std.proofs.Common.{sym, ◌∙◌, ap, arith, inl, inr, subst, set, length-append}
use Rattle.std.proofs.lemmas.List.{get_or_append_left}
use Rattle.std.proofs.Math.ListN.{length-set}
use Rattle.sg_circuit.specs.declared.elements.UdpUse.{UdpUse}
use Rattle.sg_circuit.specs.Seen.{udp_at}
use Rattle.vl_tree.specs.Tree.{Module, Primitive, Source, a_primitive}
use Rattle.elab_model.specs.Primitives.{table_of, initial_value}
use Rattle.elab_hierarchy.specs.Tops.{StandsAt}
use Rattle.elab_primitives.specs.Refusals.{IsFaultless}
use Rattle.elab_modules.specs.declared.prepared.Prepared.{Prepared}
use Rattle.elab_modules.specs.declared.library.Ready as code_ready
use Rattle.elab_modules.specs.declared.library.Ready.TheVariants as ready
use Rattle.elab_modules.specs.Ready.{AreReady, IsReady, IsPrepared, IsUdp, HaveUdps, HasReady}
use Rattle.elab_modules.specs.Reaching.{IsStock, KeepsModules}
use Rattle.elab_modules.proofs.Replaced.{set-there, set-either, set-keeps}

abbrev pub Parts : Type 0
Parts = List (Option code_ready.Ready)

pub put-ready : (parts : Parts) (place : ℕ) (r : code_ready.Ready) → place < length parts → HasReady (set parts place (Some r)) place
put-ready parts place r lt = (r, set-there parts place (Some r) lt)

pub put-keeps : (parts : Parts) (place : ℕ) (r : code_ready.Ready) → place < length parts → (i : ℕ) → HasReady parts i → HasReady (set parts place (Some r)) i
put-keeps parts place r lt i h =
    elim (set-keeps parts place i (Some r) (Some h.0) h.1) [
      | inl e ↦ subst (HasReady (set parts place (Some r))) (sym e) (put-ready parts place r lt)
      | inr k ↦ (h.0, k)
    ]

put-all : (source : Source) (parts : Parts) (place : ℕ) (r : code_ready.Ready) → AreReady source parts → IsReady source place (Some r) → AreReady source (set parts place (Some r))
put-all source parts place r all one = (
  length-set parts place (Some r) ∙ all.0,
  λ i o e. elim (set-either parts place i (Some r) o e) [
    | inl h ↦ subst (λ j. IsReady source j o) (sym h.0) (subst (IsReady source place) (sym h.1) one)
    | inr k ↦ all.1 i o k
  ],
)

-- ---- a primitive

abbrev number_of : Option code_ready.Ready → ℕ
number_of None = 0
number_of (Some (ready.Module p)) = 0
number_of (Some (ready.Primitive k)) = k

pub same-primitive : (source : Source) (i : ℕ) (p q : Primitive) → slice_get source i ≡ Some (a_primitive p) → slice_get source i ≡ Some (a_primitive q) → p ≡ q
same-primitive source i p q e f = cc

pub no-module : (source : Source) (i : ℕ) (m : Module) (p : Primitive) → StandsAt source i m → slice_get source i ≡ Some (a_primitive p) → ⊥
no-module source i m p e f = cc

udp-stays : (udps : List UdpUse) (u : UdpUse) (k : ℕ) (p : Primitive) → IsUdp udps k p → IsUdp (udps ++ u ∷ []) k p
udp-stays udps u k p h =
    let n : length (udps ++ u ∷ []) ≡ length udps + 1 = length-append udps (u ∷ []) in
    let lt : k < length udps = h.below in
    let same : udp_at (udps ++ u ∷ []) k ≡ udp_at udps k = get_or_append_left udps (u ∷ []) _ k lt in
    record { below = omega arith; rows = ap (λ x. x.rows) same ∙ h.rows; first = ap (λ x. x.first) same ∙ h.first }

udp-new : (udps : List UdpUse) (u : UdpUse) (p : Primitive) → u.rows ≡ table_of p → u.first ≡ initial_value p.initial → IsUdp (udps ++ u ∷ []) (length udps) p
udp-new udps u p rows first =
    let n : length (udps ++ u ∷ []) ≡ length udps + 1 = length-append udps (u ∷ []) in
    let is : udp_at (udps ++ u ∷ []) (length udps) ≡ u = last udps in
    record { below = omega arith; rows = ap (λ x. x.rows) is ∙ rows; first = ap (λ x. x.first) is ∙ first }
  where
    last : (xs : List UdpUse) → udp_at (xs ++ u ∷ []) (length xs) ≡ u
    last [] = refl
    last (x ∷ xs) = last xs

put-tables : (source : Source) (parts : Parts) (place : ℕ) (p : Primitive) (udps : List UdpUse) (u : UdpUse) → HaveUdps source udps parts → slice_get source place ≡ Some (a_primitive p)
    → u.rows ≡ table_of p → u.first ≡ initial_value p.initial → HaveUdps source (udps ++ u ∷ []) (set parts place (Some (ready.Primitive (length udps))))
put-tables source parts place p udps u have at rows first i k q e there =
    elim (set-either parts place i (Some (ready.Primitive (length udps))) (Some (ready.Primitive k)) e) [
      | inl h ↦ (let n : k ≡ length udps = ap number_of h.1 in
          let s : p ≡ q = same-primitive source place p q at (subst (λ j. slice_get source j ≡ Some (a_primitive q)) h.0 there) in
          subst (λ j. IsUdp (udps ++ u ∷ []) j q) (sym n) (subst (IsUdp (udps ++ u ∷ []) (length udps)) s (udp-new udps u p rows first)))
      | inr f ↦ udp-stays udps u k q (have i k q f there)
    ]

pub primitive-put : (source : Source) (parts : Parts) (place number : ℕ) (p : Primitive) (udps after : List UdpUse) (u : UdpUse) → IsStock source parts udps
    → slice_get source place ≡ Some (a_primitive p) → IsFaultless p → u.rows ≡ table_of p → u.first ≡ initial_value p.initial → number ≡ length udps → length udps + 1 < 2 ^ 31
    → after ≡ udps ++ u ∷ [] → IsStock source (set parts place (Some (ready.Primitive number))) after
primitive-put source parts place number p udps after u h at faultless rows first n few e =
    let l : length after ≡ length udps + 1 = ap length e ∙ length-append udps (u ∷ []) in
    record {
      ready = put-all source parts place (ready.Primitive number) h.ready (p, at, faultless);
      tables = subst (λ us. HaveUdps source us (set parts place (Some (ready.Primitive number)))) (sym e)
          (subst (λ k. HaveUdps source (udps ++ u ∷ []) (set parts place (Some (ready.Primitive k)))) (sym n) (put-tables source parts place p udps u h.tables at rows first));
      few = subst (λ k. k < 2 ^ 31) (sym l) few;
    }

pub primitive-keeps : (parts : Parts) (place number : ℕ) → place < length parts → KeepsModules parts (set parts place (Some (ready.Primitive number)))
primitive-keeps parts place number lt = record {
  kept = put-keeps parts place (ready.Primitive number) lt;
  same = λ i p e. elim (set-either parts place i (Some (ready.Primitive number)) (Some (ready.Module p)) e) [
    | inl h ↦ absurd (differ p number h.1)
    | inr k ↦ k
  ];
}
  where
    differ : (p : Prepared) (k : ℕ) → ¬ (Some (ready.Module p) ≡ Some (ready.Primitive k))
    differ p k e = cc

-- ---- a module

put-no_tables : (source : Source) (parts : Parts) (place : ℕ) (p : Prepared) (udps : List UdpUse) → HaveUdps source udps parts → HaveUdps source udps (set parts place (Some (ready.Module p)))
put-no_tables source parts place p udps have i k q e there =
    elim (set-either parts place i (Some (ready.Module p)) (Some (ready.Primitive k)) e) [
      | inl h ↦ absurd (differ p k (sym h.1))
      | inr f ↦ have i k q f there
    ]
  where
    differ : (p : Prepared) (k : ℕ) → ¬ (Some (ready.Module p) ≡ Some (ready.Primitive k))
    differ p k e = cc

pub module-put : (source : Source) (parts : Parts) (place : ℕ) (p : Prepared) (m : Module) (udps : List UdpUse) → IsStock source parts udps → StandsAt source place m → IsPrepared p m
    → IsStock source (set parts place (Some (ready.Module p))) udps
module-put source parts place p m udps h at prepared = record {
  ready = put-all source parts place (ready.Module p) h.ready (m, at, prepared);
  tables = put-no_tables source parts place p udps h.tables;
  few = h.few;
}
