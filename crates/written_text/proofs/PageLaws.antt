-- What is so of the scope that is being written.
use Rattle.std.proofs.Common.{◌≡◌, ℕ, ◌+◌, ◌<◌, List, ◌++◌, length, get_or, sym, ◌∙◌, ap, subst, arith, append-nil}
use Rattle.std.specs.Prelude.{map, Some, None}
use Rattle.std.proofs.lemmas.List.{get_or-map, length-map}
use Rattle.sg_circuit.specs.declared.circuits.Parts.{Parts}
use Rattle.sg_circuit.specs.declared.scopes.Scope as code_scope
use Rattle.sg_circuit.specs.declared.scopes.Variable as code_variable
use Rattle.sg_circuit.specs.Circuit.{Variable, scope_at}
use Rattle.sg_circuit.specs.Closed.{width_of}
use Rattle.sg_circuit.specs.Seen.{circuit_seen, scope_seen, variable_seen}
use Rattle.written_text.specs.declared.pages.Page.{Page}
use Rattle.written_model.specs.Names.{bit_at, name_of}
use Rattle.written_text.specs.Page.{IsPage, variables_of}
use Rattle.written_text.specs.Places.{place_at, variables_place}
use Rattle.written_model.specs.Text.{bit_text, port_text}
use Rattle.written_text.proofs.NameLaws.{Found, name_found, name_missing}

pub scope_is : (parts : Parts) (s : ℕ) (S : code_scope.Scope) → s < length parts.scopes.items → S ≡ get_or parts.scopes.items s S → scope_at (circuit_seen parts) s ≡ scope_seen S
scope_is parts s S l at = get_or-map (λ x. scope_seen x) parts.scopes.items s S _ l ∙ ap (λ x. scope_seen x) (sym at)

pub record PortIn (p : Page) (net k j : ℕ) (S : code_scope.Scope) (V : code_variable.Variable) : Type 0 where
  pub width : length V.bits.items ≡ width_of V.range
  pub bit : j < length V.bits.items
  pub named : name_of (variables_of p) net ≡ bit_at (variable_seen V) j

module _ (p : Page) (page : IsPage p) (net k j : ℕ) (few : net < length p.parts.now.nets.items) (S : code_scope.Scope) (at : S ≡ get_or p.parts.now.scopes.items p.scope S) (place : Some (k, j) ≡ place_at p.places.now (p.scope + 1) net) where
  vars : variables_of p ≡ map (λ v. variable_seen v) S.variables.items
  vars = ap (λ x. x.variables) (scope_is p.parts.now p.scope S page.scope at)

  found : Found (variables_of p) net 0 k j
  found = name_found (variables_of p) net 0 k j (sym (page.placed.each net (let n = page.nets in omega (arith, few, n))) ∙ sym place)

  pub port_within : k < length S.variables.items
  port_within =
      let l = found.within in
      let a = found.at in
      let n : length (variables_of p) ≡ length S.variables.items = ap length vars ∙ length-map S.variables.items (λ v. variable_seen v) in
      omega (arith, l, a, n)

  pub port_in : (V : code_variable.Variable) → V ≡ get_or S.variables.items k V → PortIn p net k j S V
  port_in V stands =
      let same : found.i ≡ k = omega (arith, found.at) in
      let is : found.variable ≡ variable_seen V =
      found.stands ∙ (ap (λ i. get_or (variables_of p) i found.variable) same ∙ (ap (λ vs. get_or vs k found.variable) vars
      ∙ (get_or-map (λ v. variable_seen v) S.variables.items k V found.variable port_within ∙ ap (λ v. variable_seen v) (sym stands)))) in
      let scopes : p.scope < length (map (λ s. scope_seen s) p.parts.now.scopes.items) = (let n = length-map p.parts.now.scopes.items (λ s. scope_seen s) in omega (arith, n, page.scope)) in record {
        width = subst (λ (v : Variable). length v.bits ≡ width_of v.range) (sym found.stands ∙ is) (page.closed.widths p.scope _ scopes found.i found.variable found.within);
        bit = subst (λ v. j < length v.bits) is found.bit;
        named = found.named ∙ ap (λ v. bit_at v j) is;
      }

-- what is added for a net
pub port_added : (p : Page) (page : IsPage p) (net k j : ℕ) (few : net < length p.parts.now.nets.items) (S : code_scope.Scope) (at : S ≡ get_or p.parts.now.scopes.items p.scope S) (place : Some (k, j) ≡ place_at p.places.now (p.scope + 1) net)
    (V : code_variable.Variable) → V ≡ get_or S.variables.items k V → bit_text (bit_at (variable_seen V) j) ≡ port_text (variables_of p) net
port_added p page net k j few S at place V stands = ap bit_text (sym (port_in p page net k j few S at place V stands).named)

pub nothing_added : (p : Page) → IsPage p → (net : ℕ) → net < length p.parts.now.nets.items → None ≡ place_at p.places.now (p.scope + 1) net → (text : List ℕ) → text ≡ text ++ port_text (variables_of p) net
nothing_added p page net few place text =
    let h : variables_place 0 (variables_of p) net ≡ None = sym (page.placed.each net (let n = page.nets in omega (arith, few, n))) ∙ sym place in
    sym (ap (λ n. text ++ bit_text n) (name_missing (variables_of p) net 0 h) ∙ append-nil text)
