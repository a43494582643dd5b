-- The laws of the numbers of nets that no variable names.
use Rattle.std.specs.Prelude.{◌≡◌, ◌==◌, ◌<◌, ℕ, ◌+◌, List, ◌∷◌, ◌++◌, Option, Some, None, find, map, flat_map, length}
use Rattle.std.specs.List.{enumerate_from, range_with_len}
use Rattle.sg_circuit.specs.Closed.{width_of}
use Rattle.sg_delay.specs.declared.corners.Corner.{Corner}
use Rattle.vl_tree.specs.Tree.{Module, Source}
use Rattle.elab_model.specs.Bits.{Bit, net}
use Rattle.elab_model.specs.Elements.{input_spot}
use Rattle.elab_model.specs.Ends.{path_ends, inner_spot, driven}
use Rattle.elab_model.specs.Hierarchy.{Instance, instances}
use Rattle.elab_model.specs.Homes.{home_of}
use Rattle.elab_model.specs.Members.{Member, members}
use Rattle.elab_model.specs.Names.{Variable, variables}
use Rattle.elab_model.specs.Terms.{NetBit}
use Rattle.elab_model.specs.Nets.{OwnNet, nets, nets_of, variable_nets, member_nets, terminal_nets, number_of}
use Rattle.elab_laws.specs.Given.{number_of_bit}
use Rattle.elab_laws.specs.Handing.{numbered}
use Rattle.elab_laws.specs.Laws.{AreSound}
use Rattle.elab_laws.specs.Words.{In, Owns}

-- the numbers of nets
abbrev pub numbers_in : List OwnNet → List OwnNet → List ℕ
numbers_in all os = map (λ o. number_of all o.spot) os

-- how many nets come before those of a member that no variable names: those of the instances before, those that the variables name, and those of the members before
abbrev pub nets_before : Source → List Instance → Instance → List (ℕ × Member) → ℕ
nets_before source before s ms = length (flat_map (nets_of source) before) + (length (variable_nets source s) + length (flat_map (member_nets source s) ms))

-- where no module has a fault, the nets of a member have the next numbers, in order
abbrev pub MemberNetsHavePlaces : Type 0
MemberNetsHavePlaces = (source : Source) (top : Module) (corner : Corner) (before after : List Instance) (s : Instance) (ms ns : List (ℕ × Member)) (x : ℕ × Member) → AreSound source top corner
    → instances source top ≡ before ++ s ∷ after → enumerate_from 0 (members s.step.definition) ≡ ms ++ x ∷ ns
    → numbers_in (nets source top) (member_nets source s x) ≡ range_with_len (nets_before source before s ms) (length (member_nets source s x))

-- and where the nets of constants at inputs have the next numbers, each input's net is the number of its bit or, for a constant, the next
abbrev pub TerminalsAreNumbered : Type 0
TerminalsAreNumbered = (all : List OwnNet) (source : Source) (s : Instance) (k next : ℕ) (inputs rest : List Bit) (m : List ℕ) (q : ℕ)
    → numbers_in all (terminal_nets s k (net m q ∷ rest) inputs) ≡ range_with_len next (length (terminal_nets s k (net m q ∷ rest) inputs))
    → map (λ i. number_of all (input_spot source s k i)) (enumerate_from 0 inputs) ≡ numbered next (map (number_of_bit (λ n p. number_of all (home_of source s n p))) inputs)

-- by numbers, the nets of an instance's output bits with paths, and what is driven inside in place of each
abbrev pub end_numbers : List OwnNet → Source → Instance → List (ℕ × ℕ)
end_numbers all source s = map (λ b. (number_of all (home_of source s b.name b.position), number_of all (inner_spot s b))) (path_ends s.step.definition)

-- what is driven in place of a net
abbrev pub second_or : ℕ → Option (ℕ × ℕ) → ℕ
second_or n None = n
second_or n (Some e) = e.1

abbrev pub driven_number : List (ℕ × ℕ) → ℕ → ℕ
driven_number ends n = second_or n (find (λ e. e.0 == n) ends)

-- where no module has a fault, an instance's bit is driven inside at the inner net of the first bit with paths that has its number
abbrev pub DrivenIsNumbered : Type 0
DrivenIsNumbered = (source : Source) (top : Module) (corner : Corner) (s : Instance) (v : Variable) (p : ℕ) → AreSound source top corner → In s (instances source top)
    → In v (variables s.step.definition) → p < width_of v.range
    → number_of (nets source top) (driven source s v.name p) ≡ driven_number (end_numbers (nets source top) source s) (number_of (nets source top) (home_of source s v.name p))

-- what is driven inside in place of an output bit with paths is a net
abbrev pub InnersHaveNets : Type 0
InnersHaveNets = (source : Source) (top : Module) (s : Instance) (b : NetBit) → In s (instances source top) → In b (path_ends s.step.definition) → Owns (inner_spot s b) (nets source top)
