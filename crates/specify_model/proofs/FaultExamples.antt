-- Specify blocks that are refused, each for what it has and nothing else.
use Rattle.std.specs.Prelude.{◌≡◌, pos, List, [], ◌∷◌, Some, None, refl, codes}
use Rattle.cond_expr.specs.declared.tokens.Tok.TheVariants as tok
use Rattle.cond_expr.specs.Grammar.{operand_parts, atom_parts, level_parts, primary_parts}
use Rattle.grammar.specs.Rule.{read_up_to}
use Rattle.sg_circuit.specs.declared.scopes.Port.TheVariants.{Input, Output, Inner}
use Rattle.sg_delay.specs.declared.corners.Corner.TheVariants.{Min, Typ}
use Rattle.vl_tree.specs.declared.specify.PulseStyle.TheVariants.{OnDetect}
use Rattle.vl_tree.specs.Tree.{three_amounts, a_number, a_parameter, a_value, pulse_limits, SpecifyItem, pulse_style}
use Rattle.elab_model.specs.declared.kinds.ElabKind.TheVariants.{DuplicateName, UnknownName, WidthMismatch, BadTerminal, BadDelay}
use Rattle.elab_model.specs.Faults.{Fault, fault}
use Rattle.elab_model.specs.Names.{Variable}
use Rattle.specify_model.specs.Faults.{faults_by, condition_faults}
use Rattle.specify_model.proofs.Writing.{here, name, whole_number, for_corner, scalar, vector, term, bit_term, word, number, delay, parameters_item, from_to}

-- input a; input [3:0] s; output y; wire w;
abbrev gate : List Variable
gate = scalar (codes "a") Input ∷ vector (codes "s") (pos 3) (pos 0) Input ∷ scalar (codes "y") Output ∷ scalar (codes "w") Inner ∷ []

abbrev faults_in : List SpecifyItem → List Fault
faults_in items = faults_by (for_corner Typ) gate items

two_of_one_name : faults_in (parameters_item (a_value (name (codes "t") 10) (number 1) ∷ a_value (name (codes "t") 20) (number 2) ∷ []) ∷ []) ≡ fault DuplicateName (here 20) ∷ []
two_of_one_name = refl

no_two_ports : faults_in (parameters_item (pulse_limits (name (codes "PATHPULSE$a$w") 10) (number 1) None ∷ []) ∷ []) ≡ fault UnknownName (here 10) ∷ []
no_two_ports = refl

reject_above_error : faults_in (parameters_item (pulse_limits (name (codes "PATHPULSE$") 10) (number 2) (Some (number 1)) ∷ []) ∷ []) ≡ fault BadDelay (here 10) ∷ []
reject_above_error = refl

not_declared : faults_in (from_to 10 (term (codes "b") 11) (term (codes "y") 12) (delay 1 13 ∷ []) ∷ []) ≡ fault UnknownName (here 11) ∷ []
not_declared = refl

to_an_input : faults_in (from_to 10 (term (codes "a") 11) (bit_term (codes "s") 12 (pos 0)) (delay 1 13 ∷ []) ∷ []) ≡ fault BadTerminal (here 12) ∷ []
to_an_input = refl

from_within : faults_in (from_to 10 (term (codes "w") 11) (term (codes "y") 12) (delay 1 13 ∷ []) ∷ []) ≡ fault BadTerminal (here 11) ∷ []
from_within = refl

four_to_one : faults_in (from_to 10 (term (codes "s") 11) (term (codes "y") 12) (delay 1 13 ∷ []) ∷ []) ≡ fault WidthMismatch (here 10) ∷ []
four_to_one = refl

past_the_range : faults_in (pulse_style (here 10) OnDetect (term (codes "a") 11 ∷ bit_term (codes "s") 12 (pos 4) ∷ []) ∷ []) ≡ fault BadTerminal (here 12) ∷ []
past_the_range = refl

-- 1:t:3, of which the corner takes the first
unknown_parameter : faults_by (for_corner Min) gate (from_to 10 (term (codes "a") 11) (term (codes "y") 12) (three_amounts (a_number (here 13) (whole_number 1)) (a_parameter (name (codes "t") 14)) (a_number (here 15) (whole_number 3)) ∷ []) ∷ [])
    ≡ fault BadDelay (here 14) ∷ []
unknown_parameter = refl

-- if (s): an operand of four bits
whole_vector : condition_faults gate (here 10) (word 11 (tok.Name (codes "s")) ∷ []) ≡ fault WidthMismatch (here 11) ∷ []
unfolding operand_parts atom_parts level_parts primary_parts read_up_to
whole_vector = refl
