-- The nets in order: by the outermost instance that has the net, its variables first, then nets that no variable names, in text order.
use Rattle.std.specs.Prelude.{ℕ, List, [], ◌∷◌, ◌++◌, Bool, true, false, Option, Some, None, filter, flat_map, length, map, if◌then◌else◌, ℤ}
use Rattle.std.specs.List.{enumerate_from, position_from}
use Rattle.std.specs.Option.{unwrap_or}
use Rattle.vl_tree.specs.Tree.{Instance as instance_text, Part, a_module, a_primitive, Module, Source}
use Rattle.elab_model.specs.Members.{Member, assignment, supply, gate, instance, path, check, members, connection_values}
use Rattle.elab_model.specs.Definitions.{definition_of}
use Rattle.elab_model.specs.Ports.{port_list}
use Rattle.elab_model.specs.Names.{Variable, variables, variable}
use Rattle.elab_model.specs.Bits.{Bit, net, constant, index_at, positions}
use Rattle.elab_model.specs.Terms.{NetBit}
use Rattle.elab_model.specs.Hierarchy.{Instance, instances}
use Rattle.elab_model.specs.Connections.{port_values}
use Rattle.elab_model.specs.Homes.{Spot, bit, outside, terminal, late, is_same_spot, has_leg, home_of}
use Rattle.elab_model.specs.Ends.{first_ends, inner_spot}
use Rattle.elab_model.specs.Lates.{own_copies, is_unnamed}
use Rattle.elab_model.specs.Elements.{expression_bits, output_bits, input_bits, output_count, child_at, bound_above}

-- a net, with the instance that has it, and its name there
pub record OwnNet : Type 0 where
  pub spot : Spot
  pub scope : ℕ
  pub name : List ℕ
  pub bit : Option ℤ

-- a bit of a variable, where the net isn't one of the parent
abbrev pub bit_net : Source → Instance → Variable → ℕ → List OwnNet
bit_net source s v p =
    if is_same_spot (home_of source s v.name p) (bit s.step.number v.name p)
    then record { spot = bit s.step.number v.name p; scope = s.step.number; name = v.name; bit = index_at v.range p } ∷ []
    else []

abbrev pub variable_nets : Source → Instance → List OwnNet
variable_nets source s = flat_map (λ v. flat_map (bit_net source s v) (positions v.range)) (variables s.step.definition)

-- a constant at an input of a gate or a primitive has the name that the text of its module gives the first output
abbrev pub terminal_net : Instance → ℕ → List Bit → ℕ × Bit → List OwnNet
terminal_net s k [] b = []
terminal_net s k (constant at w ∷ outputs) b = []
terminal_net s k (net m q ∷ outputs) (i, net n p) = []
terminal_net s k (net m q ∷ outputs) (i, constant at v) =
    record { spot = terminal s.step.number k i; scope = s.step.number; name = m; bit = index_at (variable s.step.definition m).range q } ∷ []

abbrev pub terminal_nets : Instance → ℕ → (outputs : List Bit) → (inputs : List Bit) → List OwnNet
terminal_nets s k outputs inputs = flat_map (terminal_net s k outputs) (enumerate_from 0 inputs)

-- what lies outside an input bit of a leaf has the name of that bit
abbrev pub outside_net : Instance → Instance → Variable → ℕ → OwnNet
outside_net s c v p = record { spot = outside s.step.number c.step.member v.name p; scope = s.step.number; name = v.name; bit = index_at v.range p }

abbrev pub is_unbound : Option Bit → Bool
is_unbound None = true
is_unbound (Some b) = false

abbrev pub unbound_net : Instance → Instance → Variable → ℕ → List OwnNet
unbound_net s c v p = if is_unbound (bound_above c.step c.above v.name p) then outside_net s c v p ∷ [] else []

-- the inputs of a leaf that nothing is connected to, by port
abbrev pub unbound_nets : Source → Instance → Instance → List OwnNet
unbound_nets source s c =
    flat_map (λ v. if has_leg source c.step v.name then flat_map (unbound_net s c v) (positions v.range) else []) (variables c.step.definition)

abbrev pub constant_net : Instance → Instance → Variable → ℕ × Bit → List OwnNet
constant_net s c v (p, net n q) = []
constant_net s c v (p, constant at w) = outside_net s c v p ∷ []

-- the constants at inputs of a leaf, in text order
abbrev pub constant_nets : Source → Instance → Instance → List OwnNet
constant_nets source s c =
    flat_map (λ e. if has_leg source c.step e.0 then flat_map (constant_net s c (variable c.step.definition e.0)) (enumerate_from 0 (expression_bits s e.1)) else [])
    (port_values c.step.connections (port_list c.step.definition))

abbrev pub instance_nets : Source → Instance → ℕ → instance_text → Option Part → List OwnNet
instance_nets source s k i None = []
instance_nets source s k i (Some (a_module m)) = flat_map (λ c. unbound_nets source s c ++ constant_nets source s c) (child_at source s k)
instance_nets source s k i (Some (a_primitive p)) = let es = connection_values i.connections in terminal_nets s k (output_bits s 1 es) (input_bits s 1 es)

-- what is driven inside in place of an output bit has the bit's name
abbrev pub inner_net : Instance → NetBit → OwnNet
inner_net s b = record { spot = inner_spot s b; scope = s.step.number; name = b.name; bit = index_at (variable s.step.definition b.name).range b.position }

-- a delayed copy that no text names has the name of the bit that it copies
abbrev pub late_net : Instance → NetBit → OwnNet
late_net s b = record { spot = late s.step.number b.name b.position; scope = s.step.number; name = b.name; bit = index_at (variable s.step.definition b.name).range b.position }

abbrev pub late_nets : Instance → ℕ × Member → List OwnNet
late_nets s k = map (λ c. late_net s c.1.signal) (filter is_unnamed (own_copies s.step.definition k))

abbrev pub member_nets : Source → Instance → ℕ × Member → List OwnNet
member_nets source s (k, assignment j) = []
member_nets source s (k, supply n v) = []
member_nets source s (k, gate g d i) = let outputs = output_count g (length i.terminals) in terminal_nets s k (output_bits s outputs i.terminals) (input_bits s outputs i.terminals)
member_nets source s (k, instance n d i) = instance_nets source s k i (definition_of source n.text)
member_nets source s (k, path p) = map (inner_net s) (first_ends s.step.definition (k, path p))
member_nets source s (k, check c) = late_nets s (k, check c)

abbrev pub nets_of : Source → Instance → List OwnNet
nets_of source s = variable_nets source s ++ flat_map (member_nets source s) (enumerate_from 0 (members s.step.definition))

-- all nets of the hierarchy below a top
abbrev pub nets : Source → Module → List OwnNet
nets source top = flat_map (nets_of source) (instances source top)

-- the number of a net
abbrev pub number_of : List OwnNet → Spot → ℕ
number_of all spot = unwrap_or (position_from (λ o. is_same_spot spot o.spot) 0 all) 0
