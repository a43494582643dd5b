-- What Legs read and drive has nets.
use Rattle.std.specs.Prelude.{◌≡◌, ℕ, ◌<◌, List, [], ◌∷◌, Bool, true, false, ◌&&◌, not, None, map, flat_map, refl, if◌then◌else◌}
use Rattle.std.proofs.Common.{sym, ◌∙◌, ap, arith, subst}
use Rattle.std.proofs.lemmas.Bool.{and_from, and_right}
use Rattle.sg_circuit.specs.Closed.{width_of}
use Rattle.vl_tree.specs.Tree.{Module, Source}
use Rattle.elab_model.specs.Names.{Variable, variable, variables, variable_names, is_among}
use Rattle.elab_model.specs.Bits.{positions}
use Rattle.elab_model.specs.Connections.{bound_to}
use Rattle.elab_model.specs.Ports.{port_names}
use Rattle.elab_model.specs.Hierarchy.{Step, Instance, instances, is_empty, has_no_child}
use Rattle.elab_model.specs.Homes.{bit, is_input, has_leg, same_above, home}
use Rattle.elab_model.specs.Elements.{leg_at, variable_legs, legs, leg_source, bound_above}
use Rattle.elab_model.specs.Nets.{nets}
use Rattle.elab_laws.specs.Words.{Owns}
use Rattle.elab_laws.proofs.Lists.{In, all-in, all-map, all-anyway, all-weaker, all-range}
use Rattle.elab_laws.proofs.LegSources.{leg-there}
use Rattle.elab_laws.proofs.Stated.{bits-have_nets}
use Rattle.elab_laws.specs.ElementLaws.{HasNets}
use Rattle.elab_laws.proofs.HaveNets.{HaveNets, all-flat_from}
use Rattle.elab_laws.proofs.Parents.{HasParent, parent-of}

-- an input bit of a leaf is a net of its own
pub leg-own : (source : Source) (s : Step) (over : List Step) (n : List ℕ) (p : ℕ) → has_leg source s n ≡ true → home source s over n p ≡ bit s.number n p
leg-own source s [] n p leg = refl
leg-own source s (parent ∷ over) n p leg =
    let shared : (is_among n (port_names s.definition) && not (has_leg source s n)) ≡ false = and_right (is_among n (port_names s.definition)) (not (has_leg source s n)) (ap not leg) in
    let none : same_above source s parent n p ≡ None = ap (λ b. if b then bound_to s parent n p else None) shared in
    rw (none, home) refl

-- a variable is what its module says of its name
pub variable-is : (m : Module) (v : Variable) → In v (variables m) → variable m v.name ≡ v
variable-is m v h =
    all-in (λ v. variable m v.name ≡ v) v (variables m)
    (all-map (λ v. variable m v.name ≡ v) (variable m) (variable_names m) (all-anyway (λ n. variable m n ≡ variable m n) (variable_names m) (λ n. refl))) h

leg-has : (source : Source) (top : Module) (s : Instance) → In s (instances source top) → HasParent source (instances source top) s → has_no_child source s.step ≡ true → (v : Variable) → In v (variables s.step.definition)
    → is_input v.port ≡ true → (p : ℕ) → p < width_of v.range → HasNets (nets source top) (leg_at source s v.name p)
leg-has source top s there r lone v known input p lt =
    let port : is_input (variable s.step.definition v.name).port ≡ true = ap (λ v. is_input v.port) (variable-is s.step.definition v known) ∙ input in
    let leg : has_leg source s.step v.name ≡ true = and_from (is_input (variable s.step.definition v.name).port) (has_no_child source s.step) port lone in
    let reads = leg-there source top r.parent s v p r.there r.child r.above known lt leg in
    record {
      output = subst (λ o. Owns o (nets source top)) (leg-own source s.step s.above v.name p leg) (bits-have_nets source top s v p there known lt).0;
      inputs = (subst (λ above. Owns (leg_source source s.step above v.name p (bound_above s.step above v.name p)) (nets source top)) (sym r.above) reads, tt);
    }

variable-legs : (source : Source) (top : Module) (s : Instance) → In s (instances source top) → HasParent source (instances source top) s → has_no_child source s.step ≡ true → (v : Variable) → In v (variables s.step.definition)
    → HaveNets source top (variable_legs source s v)
variable-legs source top s there r lone v known = by (is_input v.port) refl
  where
    by : (b : Bool) → is_input v.port ≡ b → HaveNets source top (if b then map (leg_at source s v.name) (positions v.range) else [])
    by true e =
        all-map (HasNets (nets source top)) (leg_at source s v.name) (positions v.range)
        (all-weaker (λ p. p < width_of v.range) (λ p. HasNets (nets source top) (leg_at source s v.name p)) (positions v.range) (leg-has source top s there r lone v known e)
        (all-range (width_of v.range) 0 (width_of v.range) (omega arith)))
    by false e = tt

pub legs-have : (source : Source) (top : Module) (s : Instance) → In s (instances source top) → HaveNets source top (legs source s)
legs-have source top s there = by (is_empty s.above) (has_no_child source s.step) refl refl
  where
    by : (a b : Bool) → is_empty s.above ≡ a → has_no_child source s.step ≡ b → HaveNets source top (if not a && b then flat_map (variable_legs source s) (variables s.step.definition) else [])
    by true b e f = tt
    by false false e f = tt
    by false true e f =
        all-flat_from (HasNets (nets source top)) (variable_legs source s) (variables s.step.definition)
        (variable-legs source top s there (parent-of source top s there e) f)
