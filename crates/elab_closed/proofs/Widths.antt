-- Each variable of a scope has a net for each of its bits.
use Rattle.std.specs.Prelude.{◌≡◌, ℕ, ◌<◌, All, length, map}
use Rattle.std.proofs.Common.{◌∙◌, arith}
use Rattle.std.proofs.lemmas.List.{length-map}
use Rattle.std.proofs.lemmas.List.Elements.{All-from_recursion}
use Rattle.std.proofs.lemmas.List.FromFn.{length-range_with_len}
use Rattle.sg_circuit.specs.Circuit.{Variable as ScopeVariable}
use Rattle.sg_circuit.specs.Closed.{width_of}
use Rattle.vl_tree.specs.Tree.{Module, Source}
use Rattle.elab_model.specs.Bits.{positions}
use Rattle.elab_model.specs.Hierarchy.{Instance, instances}
use Rattle.elab_model.specs.Homes.{home_of}
use Rattle.elab_model.specs.Names.{Variable, variables}
use Rattle.elab_model.specs.Nets.{nets, number_of}
use Rattle.elab_model.specs.Scopes.{scope_variable, scope_of}
use Rattle.elab_laws.proofs.Lists.{In, all-map, all-weaker, all-range}
use Rattle.elab_laws.proofs.NoFaults.{all-from}
use Rattle.elab_laws.proofs.Stated.{bits-have_nets}

abbrev pub HasWidth : ScopeVariable → Type 0
HasWidth v = length v.bits ≡ width_of v.range

abbrev pub HasBitsBelow : ℕ → ScopeVariable → Type 0
HasBitsBelow count v = All (λ n. n < count) v.bits

-- what holds of each variable of each instance holds of those of the scopes
over-scopes : (source : Source) (top : Module) (P : ScopeVariable → Type 0)
    → ((s : Instance) → In s (instances source top) → (v : Variable) → In v (variables s.step.definition) → P (scope_variable (nets source top) source s v))
    → All (λ s. All P s.variables) (map (scope_of (nets source top) source) (instances source top))
over-scopes source top P h =
    All-from_recursion (λ s. All P s.variables) (map (scope_of (nets source top) source) (instances source top))
    (all-map (λ s. All P s.variables) (scope_of (nets source top) source) (instances source top)
    (all-from (λ s. All P (map (scope_variable (nets source top) source s) (variables s.step.definition))) (instances source top)
    (λ s there. All-from_recursion P (map (scope_variable (nets source top) source s) (variables s.step.definition))
    (all-map P (scope_variable (nets source top) source s) (variables s.step.definition)
    (all-from (λ v. P (scope_variable (nets source top) source s v)) (variables s.step.definition) (h s there))))))

pub have-widths : (source : Source) (top : Module) → All (λ s. All HasWidth s.variables) (map (scope_of (nets source top) source) (instances source top))
have-widths source top =
    over-scopes source top HasWidth
    (λ s there v own. length-map (positions v.range) (λ p. number_of (nets source top) (home_of source s v.name p)) ∙ length-range_with_len 0 (width_of v.range))

pub have-bits : (source : Source) (top : Module) → All (λ s. All (HasBitsBelow (length (nets source top))) s.variables) (map (scope_of (nets source top) source) (instances source top))
have-bits source top =
    let count = length (nets source top) in
    over-scopes source top (HasBitsBelow count)
    (λ s there v own. All-from_recursion (λ n. n < count) (map (λ p. number_of (nets source top) (home_of source s v.name p)) (positions v.range))
    (all-map (λ n. n < count) (λ p. number_of (nets source top) (home_of source s v.name p)) (positions v.range)
    (all-weaker (λ p. p < width_of v.range) (λ p. number_of (nets source top) (home_of source s v.name p) < count) (positions v.range)
    (λ p lt. (bits-have_nets source top s v p there own lt).1) (all-range (width_of v.range) 0 (width_of v.range) (omega arith)))))
