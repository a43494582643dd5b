-- The scope of an instance, and that its bits are nets of the scope's variables.
use Rattle.std.specs.Prelude.{◌≡◌, ℕ, zero, suc, ◌<◌, Contains, List, [], ◌∷◌, Some, length, map, slice_get, slice_index_or}
use Rattle.std.proofs.Common.{sym, ◌∙◌, ap, arith, inl, inr, subst}
use Rattle.std.proofs.lemmas.List.Elements.{All-from_recursion}
use Rattle.sg_circuit.specs.Circuit.{Variable as ScopeVariable, scope_at}
use Rattle.sg_circuit.specs.Closed.{width_of}
use Rattle.sg_circuit.specs.declared.scopes.Port.{Port}
use Rattle.sg_delay.specs.declared.corners.Corner.{Corner}
use Rattle.vl_tree.specs.Tree.{Module, Source}
use Rattle.elab_model.specs.Bits.{positions}
use Rattle.elab_model.specs.Hierarchy.{Instance, instances}
use Rattle.elab_model.specs.Homes.{home_of}
use Rattle.elab_model.specs.Names.{Variable, variables}
use Rattle.elab_model.specs.Nets.{nets, number_of}
use Rattle.elab_model.specs.Scopes.{scope_of, scope_variable}
use Rattle.elab_model.specs.Terms.{NetBit}
use Rattle.circuit_model.specs.Circuits.{circuit}
use Rattle.circuit_model.specs.PathUses.{bit_number}
use Rattle.elab_laws.proofs.EndBits.{HasNetBit}
use Rattle.elab_laws.proofs.Homes.{home-there}
use Rattle.elab_laws.proofs.Lists.{In, all-from, all-in, all-map, all-range, in-map, in-range}
use Rattle.elab_laws.proofs.Numbers.{number}
use Rattle.elab_laws.proofs.Stated.{bits-have_nets, instances-have_places}
use Rattle.elab_closed.proofs.NamedChecks.{known-as}
use Rattle.elab_closed.proofs.Places.{counted-at, from-map, in-place, mapped-at, mapped-get}
use Rattle.written_reading.specs.Named.{IsNetOf}
use Rattle.written_names.proofs.OwnNets.{same-net}

-- ---- lists

contained-in : {A : Type 0} (xs : List A) (x : A) → Contains xs x → In x xs
contained-in {A} xs x h = by xs h.0 h.1 h.2
  where
    by : (ys : List A) (k : ℕ) → k < length ys → slice_index_or ys k x ≡ x → In x ys
    by [] k l e = absurd (omega (arith, l))
    by (y ∷ ys) zero l e = inl (sym e)
    by (y ∷ ys) (suc k) l e = inr (by ys k (omega (arith, l)) e)

in-contained : {A : Type 0} (xs : List A) (x : A) → In x xs → Contains xs x
in-contained [] x m = absurd m
in-contained (y ∷ ys) x m = elim m [
  | inl e ↦ (0, omega arith, sym e)
  | inr n ↦ (let r = in-contained ys x n in (suc r.0, omega (arith, r.1), r.2))
]

-- ---- instances by their numbers

numbered : (source : Source) (top : Module) (s : Instance) (k : ℕ) → slice_get (instances source top) k ≡ Some s → s.step.number ≡ k
numbered source top s k at = counted-at number (instances source top) k s (instances-have_places source top) at

pub same-instance : (source : Source) (top : Module) (s t : Instance) → In s (instances source top) → In t (instances source top) → s.step.number ≡ t.step.number → s ≡ t
same-instance source top s t own other e =
    let ss = instances source top in
    let p = in-place s ss own in
    let q = in-place t ss other in
    let k : p.0 ≡ q.0 = sym (numbered source top s p.0 p.1) ∙ e ∙ numbered source top t q.0 q.1 in
    let r : Some s ≡ Some t = sym p.1 ∙ ap (slice_get ss) k ∙ q.1 in
    cc

-- the scope of an instance stands at its number
pub scope-there : (source : Source) (top : Module) (corner : Corner) (s : Instance) → In s (instances source top) → scope_at (circuit source top corner) s.step.number ≡ scope_of (nets source top) source s
scope-there source top corner s there =
    let ss = instances source top in
    let p = in-place s ss there in
    ap (scope_at (circuit source top corner)) (numbered source top s p.0 p.1) ∙ mapped-at (scope_of (nets source top) source) ss p.0 _ s p.1

-- ---- nets of a scope

abbrev HasOnly : (Port → Type 0) → ℕ → ScopeVariable → Type 0
HasOnly is net v = Contains v.bits net → is v.port

module _ (source : Source) (top : Module) (s : Instance) (there : In s (instances source top)) where
  -- the net of a bit is one of its scope, and of what ports the others that have it are
  pub net-of : (is : Port → Type 0) (b : NetBit) → HasNetBit (variables s.step.definition) b
      → ((v : Variable) (q : ℕ) → In v (variables s.step.definition) → home_of source s v.name q ≡ home_of source s b.name b.position → is v.port)
      → IsNetOf is (scope_of (nets source top) source s).variables (bit_number (nets source top) source s b)
  net-of is b h each =
      let all = nets source top in
      let vs = variables s.step.definition in
      let w = h.variable in
      let k = known-as vs b.name w h.found in
      let at = in-place w vs k.0 in
      let net = bit_number all source s b in
      let numbers : Variable → ℕ → ℕ = λ v p. number_of all (home_of source s v.name p) in
      let within : In b.position (positions w.range) = in-range b.position 0 (width_of w.range) (omega arith) (let lt : b.position < width_of w.range = h.below in omega arith) in
      let mapped : In (numbers w b.position) (map (numbers w) (positions w.range)) = in-map (numbers w) b.position (positions w.range) within in
      let holds : In (bit_number all source s b) (map (numbers w) (positions w.range)) =
      subst (λ n. In (number_of all (home_of source s n b.position)) (map (numbers w) (positions w.range))) (sym k.1) mapped in
      record {
        place = at.0;
        variable = scope_variable all source s w;
        stands = mapped-get (scope_variable all source s) vs at.0 w at.1;
        has = in-contained (map (numbers w) (positions w.range)) (bit_number all source s b) holds;
        each = All-from_recursion (HasOnly is net) (map (scope_variable all source s) vs) (all-map (HasOnly is net) (scope_variable all source s) vs (all-from (λ v. HasOnly is net (scope_variable all source s v)) vs one));
      }
    where
      one : (v : Variable) → In v (variables s.step.definition) → HasOnly is (bit_number (nets source top) source s b) (scope_variable (nets source top) source s v)
      one v known c =
          let all = nets source top in
          let w = width_of v.range in
          let numbers : ℕ → ℕ = λ p. number_of all (home_of source s v.name p) in
          let m = from-map numbers (bit_number all source s b) (positions v.range) (contained-in (map numbers (positions v.range)) (bit_number all source s b) c) in
          let lt : m.0 < w = all-in (λ k. k < w) m.0 (positions v.range) (all-range w 0 w (omega arith)) m.1 in
          each v m.0 known
          (same-net all (home_of source s v.name m.0) (home_of source s b.name b.position) (bits-have_nets source top s v m.0 there known lt).0 (home-there source top s b.name b.position there h) (sym m.2))
