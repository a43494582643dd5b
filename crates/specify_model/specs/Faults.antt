-- Faults of specify blocks, each with its place (IEEE 1364-2005, clause 14). Timing checks have their own.
use Rattle.std.specs.Prelude.{ℕ, ℤ, List, [], ◌∷◌, ◌++◌, Bool, true, false, ◌&&◌, ◌||◌, not, ◌==◌, nat_lt, nat_le, Option, Some, None, is_err, length, map, flat_map, if◌then◌else◌}
use Rattle.std.specs.List.{list_all}
use Rattle.sg_circuit.specs.declared.scopes.Port.{Port}
use Rattle.sg_delay.specs.declared.corners.Corner.{Corner}
use Rattle.sg_text.specs.declared.places.Place.{Place}
use Rattle.vl_tree.specs.declared.paths.Arrow.{Arrow}
use Rattle.vl_tree.specs.declared.paths.Arrow.TheVariants.{Parallel, Full}
use Rattle.vl_tree.specs.Tree.{Amount, a_number, a_parameter, Amounts, one_amount, three_amounts, Term, Word, PathCondition, always, if_none, if_words, DataSource, SpecifyPath, SpecifyItem, Module, Source}
use Rattle.elab_model.specs.declared.kinds.ElabKind.TheVariants.{UnknownName, WidthMismatch, BadTerminal, BadDelay, TooDeep}
use Rattle.elab_model.specs.Bits.{variable_named}
use Rattle.elab_model.specs.Faults.{Fault, fault_if, duplicates}
use Rattle.elab_model.specs.Hierarchy.{children_in, is_empty}
use Rattle.elab_model.specs.Homes.{is_input, is_output}
use Rattle.elab_model.specs.Names.{Variable, variables}
use Rattle.elab_model.specs.TerminalFaults.{expression_faults, width_faults, is_missing, delay_limit}
use Rattle.specify_model.specs.Blocks.{blocks, specify_items, Parameter, parameters, Pulse, pulses, specify_paths, StyleText, style_texts}
use Rattle.specify_model.specs.Conditions.{tokens, tree_of, operands}
use Rattle.specify_model.specs.Outputs.{measure}
use Rattle.specify_model.specs.PulseLimits.{ends_text, named_ends, limit_ticks}
use Rattle.elab_model.specs.Terms.{expression_of, terms_bits}
use Rattle.specify_model.specs.Values.{Measure, Values, value_of, corner_amount, amount_ticks, expanded}

-- ---- a block in a module that has an instance of a module

abbrev pub blocks_in_hierarchy : Source → Module → List Place
blocks_in_hierarchy source m = if is_empty (children_in source m) then [] else map (λ b. b.place) (blocks m)

-- ---- specparams

-- two specparams with values have one name: the second is the place (4.10.3)
abbrev pub parameter_faults : List Parameter → List Fault
parameter_faults ps = duplicates (map (λ p. p.name) ps)

-- a name of pulse limits says no two ports (14.6.1)
abbrev pub has_no_ends : List Variable → Pulse → Bool
has_no_ends vs p = not (is_empty (ends_text p)) && is_missing (named_ends vs p)

-- a limit is too long, or pulses are to be lost that are to become x
abbrev pub are_bad_limits : ℕ × ℕ → Bool
are_bad_limits limits = nat_le delay_limit limits.0 || (nat_le delay_limit limits.1 || nat_lt limits.1 limits.0)

abbrev pub pulse_faults : Measure → List Variable → Pulse → List Fault
pulse_faults by vs p = fault_if (has_no_ends vs p) UnknownName p.name.place ++ fault_if (are_bad_limits (limit_ticks by p)) BadDelay p.name.place

-- ---- terms

-- a name that isn't declared, or an index out of range
abbrev pub term_faults : List Variable → Term → List Fault
term_faults vs t = expression_faults vs (expression_of t)

abbrev pub are_sound : List Variable → List Term → Bool
are_sound vs ts = list_all (λ t. is_empty (term_faults vs t)) ts

-- what is declared is no such port
abbrev pub is_no : (Port → Bool) → Option Variable → Bool
is_no such None = false
is_no such (Some v) = not (such v.port)

abbrev pub port_faults : (Port → Bool) → List Variable → Term → List Fault
port_faults such vs t = term_faults vs t ++ fault_if (is_no such (variable_named vs t.name.text)) BadTerminal t.name.place

-- a path leads from inputs to outputs (14.2.1)
abbrev pub end_faults : List Variable → SpecifyPath → List Fault
end_faults vs p = flat_map (port_faults is_input vs) p.sources ++ flat_map (port_faults is_output vs) p.destination.terms

-- the sides of => have different widths (14.2.5)
abbrev pub is_parallel : Arrow → Bool
is_parallel Parallel = true
is_parallel Full = false

abbrev pub sides_differ : List Variable → SpecifyPath → Bool
sides_differ vs p =
    is_parallel p.arrow
    && (are_sound vs p.sources && (are_sound vs p.destination.terms && not (length (terms_bits vs p.sources) == length (terms_bits vs p.destination.terms))))

abbrev pub side_faults : List Variable → SpecifyPath → List Fault
side_faults vs p = fault_if (sides_differ vs p) WidthMismatch p.place

-- ---- conditions

-- an operand isn't declared, its index is out of range, or it isn't one bit (14.2.4)
abbrev pub operand_faults : List Variable → Term → List Fault
operand_faults vs t = term_faults vs t ++ width_faults vs 1 (expression_of t)

-- it is nested too deep; the place is its first word
abbrev pub first_place : Place → List Word → Place
first_place p [] = p
first_place p (w ∷ ws) = w.place

abbrev pub condition_faults : List Variable → Place → List Word → List Fault
condition_faults vs p ws = flat_map (operand_faults vs) (operands ws) ++ fault_if (is_err (tree_of (tokens ws))) TooDeep (first_place p ws)

abbrev pub own_condition : PathCondition → List (List Word)
own_condition always = []
own_condition if_none = []
own_condition (if_words ws) = ws ∷ []

-- a data source is text alone, of any width and any depth: its names are declared, and their indices in range (14.2.3)
abbrev pub source_faults : List Variable → Option DataSource → List Fault
source_faults vs None = []
source_faults vs (Some s) = flat_map (term_faults vs) (operands s.words)

-- ---- delays

abbrev pub amount_place : Amount → Place
amount_place (a_number p n) = p
amount_place (a_parameter n) = n.place

abbrev pub amount_parts : Amounts → List Amount
amount_parts (one_amount a) = a ∷ []
amount_parts (three_amounts min typ max) = min ∷ typ ∷ max ∷ []

-- a specparam that there isn't, in any part
abbrev pub unknown_faults : Values → Amount → List Fault
unknown_faults values (a_number p n) = []
unknown_faults values (a_parameter n) = fault_if (is_missing (values n.text)) BadDelay n.place

-- it is too long, which is asked of the corner's part alone
abbrev pub long_faults : Measure → Values → Amount → List Fault
long_faults by values a = fault_if (nat_le delay_limit (amount_ticks by values a)) BadDelay (amount_place a)

abbrev pub delay_faults : Measure → Values → Amounts → List Fault
delay_faults by values d = flat_map (unknown_faults values) (amount_parts d) ++ long_faults by values (corner_amount by.corner d)

-- the list isn't 1, 2, 3, 6 or 12 delays, which no text spells (14.3.1)
abbrev pub list_faults : Measure → Values → Place → List Amounts → List Fault
list_faults by values place ds = flat_map (delay_faults by values) ds ++ fault_if (is_err (expanded by values ds)) BadDelay place

-- ---- all

abbrev pub path_faults : Measure → List Variable → Values → SpecifyPath → List Fault
path_faults by vs values p =
    end_faults vs p
    ++ (side_faults vs p
    ++ (flat_map (condition_faults vs p.place) (own_condition p.condition) ++ (source_faults vs p.destination.source ++ list_faults by values p.place p.delays)))

-- the terms of a pulse style are declared; an input among them has no effect (14.6.4)
abbrev pub style_faults : List Variable → StyleText → List Fault
style_faults vs s = flat_map (term_faults vs) s.terms

abbrev pub faults_by : Measure → List Variable → List SpecifyItem → List Fault
faults_by by vs items =
    parameter_faults (parameters items)
    ++ (flat_map (pulse_faults by vs) (pulses items) ++ (flat_map (path_faults by vs (value_of (parameters items))) (specify_paths items) ++ flat_map (style_faults vs) (style_texts items)))

abbrev pub specify_faults : Corner → ℤ → Module → List Fault
specify_faults corner tick m = faults_by (measure corner tick m) (variables m) (specify_items m)
