-- Timing checks in small, worked, and those that are refused.
use Rattle.std.specs.Prelude.{◌≡◌, ℕ, pos, negsuc, List, [], ◌∷◌, Option, Some, None, true, false, refl, codes}
use Rattle.cond_expr.specs.declared.tokens.Tok.TheVariants as tok
use Rattle.cond_expr.specs.Grammar.{operand_parts, atom_parts, level_parts, primary_parts}
use Rattle.cond_expr.specs.Tree.{leaf}
use Rattle.grammar.specs.Rule.{read_up_to}
use Rattle.sg_circuit.specs.declared.checks.CheckKind.TheVariants as kind
use Rattle.sg_circuit.specs.declared.scopes.Port.TheVariants.{Input, Output, Inner}
use Rattle.sg_delay.specs.declared.corners.Corner.TheVariants.{Typ}
use Rattle.sg_logic.specs.declared.edges.TheConstants.{POSEDGE, NEGEDGE}
use Rattle.vl_tree.specs.declared.check_names.OneLimitCheck.TheVariants as one
use Rattle.vl_tree.specs.declared.check_names.TwoLimitCheck.TheVariants as two
use Rattle.vl_tree.specs.Tree.{Named, a_number, a_parameter, SignedAmount, one_limit, three_limits, EdgeWord, posedge, negedge, Term, Word, Event, Check, one_limit_check, two_limit_check, width_check, period_check}
use Rattle.elab_model.specs.declared.kinds.ElabKind.TheVariants.{UnknownName, WidthMismatch, BadTerminal, BadDelay}
use Rattle.elab_model.specs.Faults.{Fault, fault}
use Rattle.elab_model.specs.Names.{Variable}
use Rattle.specify_model.specs.Checks.{ModuleCheck, check_copies, module_check}
use Rattle.specify_model.specs.CheckFaults.{check_faults, weight_of}
use Rattle.specify_model.specs.Values.{value_of}
use Rattle.specify_model.proofs.Writing.{here, name, whole_number, for_corner, scalar, vector, bit, term, bit_term, word}

-- input ck, d, en; input [1:0] s; output q; reg n;
abbrev flop : List Variable
flop =
    scalar (codes "ck") Input ∷ scalar (codes "d") Input ∷ scalar (codes "en") Input ∷ vector (codes "s") (pos 1) (pos 0) Input ∷ scalar (codes "q") Output
    ∷ record { name = codes "n"; range = None; is_reg = true; port = Inner } ∷ []

abbrev event : ℕ → Option EdgeWord → Term → Option (List Word) → Event
event n e t c = record { place = here n; edge = e; term = t; condition = c }

abbrev amount : ℕ → ℕ → SignedAmount
amount n at = record { negative = false; amount = a_number (here at) (whole_number n) }

abbrev below_0 : ℕ → ℕ → SignedAmount
below_0 n at = record { negative = true; amount = a_number (here at) (whole_number n) }

abbrev meant : Check → ModuleCheck
meant c = module_check (for_corner Typ) flop (value_of []) c

-- with so many signals of the module that have delayed copies
abbrev refused_with : ℕ → Check → List Fault
refused_with signals c = check_faults signals (for_corner Typ) flop (value_of []) c

abbrev refused : Check → List Fault
refused c = refused_with 2 c

-- posedge ck; d
abbrev clock : Event
clock = event 12 (Some posedge) (term (codes "ck") 13) None

abbrev data_event : Event
data_event = event 11 None (term (codes "d") 11) None

-- $setup (s[0], posedge ck &&& en, 2, n);
abbrev a_setup : Check
a_setup =
    one_limit_check (here 10) one.Setup (event 12 (Some posedge) (term (codes "ck") 13) (Some (word 15 (tok.Name (codes "en")) ∷ []))) (event 11 None (bit_term (codes "s") 11 (pos 0)) None)
    (one_limit (amount 2 16)) (Some (name (codes "n") 17))

setup_meant : meant a_setup ≡ record {
  place = here 10;
  kind = kind.Setup;
  refer = record { bit = bit (codes "ck") 0; index = None; edge = Some POSEDGE; condition = Some (tok.Name (codes "en") ∷ [], leaf (bit (codes "en") 0)) };
  datum = Some (record { bit = bit (codes "s") 1; index = Some (pos 0); edge = None; condition = None });
  limits = pos 2 ∷ [];
  threshold = 0;
  notifier = Some (bit (codes "n") 0);
  copies = None;
}
unfolding operand_parts atom_parts level_parts primary_parts read_up_to
setup_meant = refl

setup_taken : refused a_setup ≡ []
unfolding operand_parts atom_parts level_parts primary_parts read_up_to
setup_taken = refl

-- $width (negedge ck, 3, 1);
abbrev a_width : Check
a_width = width_check (here 20) (event 21 (Some negedge) (term (codes "ck") 22) None) (one_limit (amount 3 23)) (Some (one_limit (amount 1 24))) None

width_meant : meant a_width ≡ record {
  place = here 20;
  kind = kind.Width;
  refer = record { bit = bit (codes "ck") 0; index = None; edge = Some NEGEDGE; condition = None };
  datum = None;
  limits = pos 3 ∷ [];
  threshold = 1;
  notifier = None;
  copies = None;
}
width_meant = refl

-- $setuphold (posedge ck, d, -2, 5);
abbrev a_setuphold : SignedAmount → Check
a_setuphold first = two_limit_check (here 10) two.SetupHold clock data_event (one_limit first) (one_limit (amount 5 34)) None None None

negative_taken : refused (a_setuphold (below_0 2 33)) ≡ []
negative_taken = refl

negative_meant : (meant (a_setuphold (below_0 2 33))).limits ≡ negsuc 1 ∷ (pos 5 ∷ [])
negative_meant = refl

-- of a limit below 0 each signal bears a part, so with 3 of them it is below 2^58 in size
weight_of_setuphold : weight_of 3 kind.Setuphold ≡ 4
weight_of_setuphold = refl

weight_of_skew : weight_of 3 kind.Skew ≡ 1
weight_of_skew = refl

too_heavy : refused_with 3 (a_setuphold (below_0 288230376151711744 33)) ≡ fault BadDelay (here 33) ∷ []
too_heavy = refl

not_too_heavy : refused_with 3 (a_setuphold (below_0 288230376151711743 33)) ≡ []
not_too_heavy = refl

too_long_by_itself : refused_with 0 (a_setuphold (amount 1152921504606846976 33)) ≡ fault BadDelay (here 33) ∷ []
too_long_by_itself = refl

-- 2^60:2:3, of which the corner takes the second
another_corner : refused (two_limit_check (here 10) two.RecRem clock data_event (three_limits (below_0 1152921504606846976 33) (amount 2 34) (amount 3 35)) (one_limit (amount 5 36)) None None None) ≡ []
another_corner = refl

-- $setuphold (posedge ck, d, 2, 5, , , , dck, dd); with the second alone; and a check that takes no limit below 0
abbrev delayed_to : Option Named → Option Named → Check
delayed_to f g = two_limit_check (here 10) two.SetupHold clock data_event (one_limit (amount 2 33)) (one_limit (amount 5 34)) None f g

both_copies : check_copies flop (delayed_to (Some (name (codes "dck") 38)) (Some (name (codes "dd") 39)))
    ≡ Some (record { signal = bit (codes "ck") 0; named = Some (bit (codes "dck") 0) }, record { signal = bit (codes "d") 0; named = Some (bit (codes "dd") 0) })
both_copies = refl

data_named : check_copies flop (delayed_to None (Some (name (codes "dd") 39)))
    ≡ Some (record { signal = bit (codes "ck") 0; named = None }, record { signal = bit (codes "d") 0; named = Some (bit (codes "dd") 0) })
data_named = refl

no_copies : check_copies flop a_setup ≡ None
no_copies = refl

-- t:2:3, without a specparam t
unknown_parameter : refused (period_check (here 10) clock (three_limits (record { negative = false; amount = a_parameter (name (codes "t") 33) }) (amount 2 34) (amount 3 35)) None) ≡ fault BadDelay (here 33) ∷ []
unknown_parameter = refl

-- $period (ck, 2);
without_edge : refused (period_check (here 10) (event 11 None (term (codes "ck") 11) None) (one_limit (amount 2 12)) None) ≡ fault BadTerminal (here 11) ∷ []
without_edge = refl

-- $hold (posedge ck, s, 2); and of what isn't declared
whole_vector : refused (one_limit_check (here 10) one.Hold clock (event 14 None (term (codes "s") 14) None) (one_limit (amount 2 15)) None) ≡ fault WidthMismatch (here 14) ∷ []
whole_vector = refl

not_declared : refused (one_limit_check (here 10) one.Hold clock (event 14 None (term (codes "w") 14) None) (one_limit (amount 2 15)) None) ≡ fault UnknownName (here 14) ∷ []
not_declared = refl

-- $skew (posedge ck, d, 2, q); and with a notifier that isn't declared
no_reg : refused (one_limit_check (here 10) one.Skew clock data_event (one_limit (amount 2 15)) (Some (name (codes "q") 16))) ≡ fault BadTerminal (here 16) ∷ []
no_reg = refl

unknown_notifier : refused (one_limit_check (here 10) one.Skew clock data_event (one_limit (amount 2 15)) (Some (name (codes "m") 16))) ≡ fault UnknownName (here 16) ∷ []
unknown_notifier = refl
