-- Small specify blocks, and the paths that they make.
use Rattle.std.specs.Prelude.{◌≡◌, ℕ, pos, List, [], ◌∷◌, Option, Some, None, refl, codes, replicate}
use Rattle.cond_expr.specs.declared.tokens.Op.TheVariants as op
use Rattle.cond_expr.specs.declared.tokens.Tok.TheVariants as tok
use Rattle.cond_expr.specs.Grammar.{operand_parts, atom_parts, level_parts, primary_parts}
use Rattle.cond_expr.specs.Tree.{leaf, unary}
use Rattle.grammar.specs.Rule.{read_up_to}
use Rattle.sg_circuit.specs.Timings.{Timing}
use Rattle.sg_circuit.specs.declared.scopes.Port.TheVariants.{Input, Output}
use Rattle.sg_delay.specs.declared.corners.Corner.TheVariants.{Typ}
use Rattle.sg_delay.specs.declared.limits.PulseStyle.TheVariants as style
use Rattle.sg_logic.specs.declared.edges.TheConstants.{POSEDGE}
use Rattle.vl_tree.specs.declared.paths.Arrow.TheVariants.{Parallel, Full}
use Rattle.vl_tree.specs.declared.specify.PulseStyle.TheVariants.{OnDetect}
use Rattle.vl_tree.specs.Tree.{Word, three_numbers, a_value, pulse_limits, posedge, always, if_words, SpecifyItem, a_path, pulse_style}
use Rattle.elab_model.specs.Names.{Variable}
use Rattle.specify_model.specs.Blocks.{pulses}
use Rattle.specify_model.specs.Conditions.{Always, If, condition_of}
use Rattle.specify_model.specs.Faults.{faults_by}
use Rattle.specify_model.specs.Outputs.{outputs_by}
use Rattle.specify_model.specs.PulseLimits.{limits_of}
use Rattle.elab_model.specs.Terms.{NetBit, pairs}
use Rattle.specify_model.proofs.Writing.{here, name, whole_number, for_corner, scalar, vector, bit, term, word, number, delay, delay_named, parameters_item, path_with, from_to}

abbrev after : List ℕ → Option (ℕ × ℕ) → List Timing
after [] limits = []
after (d ∷ ds) limits = record { delay = d; limits = limits } ∷ after ds limits

-- input ck, d; output q;
abbrev flip_flop : List Variable
flip_flop = scalar (codes "q") Output ∷ scalar (codes "d") Input ∷ scalar (codes "ck") Input ∷ []

-- (posedge ck => q) = (rise, 4); pulsestyle_ondetect q; (d => q) = 5; specparam rise = 1:2:3;
abbrev clocked : List SpecifyItem
clocked =
    a_path (path_with 10 always (Some posedge) (term (codes "ck") 11 ∷ []) Parallel (term (codes "q") 12 ∷ []) (delay_named (codes "rise") 13 ∷ delay 4 14 ∷ []))
    ∷ pulse_style (here 20) OnDetect (term (codes "q") 21 ∷ [])
    ∷ from_to 30 (term (codes "d") 31) (term (codes "q") 32) (delay 5 33 ∷ [])
    ∷ parameters_item (a_value (name (codes "rise") 40) (three_numbers (whole_number 1) (whole_number 2) (whole_number 3)) ∷ [])
    ∷ []

clocked_outputs : outputs_by (for_corner Typ) flip_flop clocked ≡
    record {
      output = bit (codes "q") 0;
      place = here 10;
      style = style.OnDetect;
      paths = record { input = bit (codes "ck") 0; edge = Some POSEDGE; condition = Always; timings = after (2 ∷ 4 ∷ 2 ∷ 2 ∷ 4 ∷ 4 ∷ 2 ∷ 2 ∷ 4 ∷ 4 ∷ 4 ∷ 2 ∷ []) None }
          ∷ record { input = bit (codes "d") 0; edge = None; condition = Always; timings = after (replicate 12 5) None }
          ∷ [];
    } ∷ []
clocked_outputs = refl

clocked_faults : faults_by (for_corner Typ) flip_flop clocked ≡ []
clocked_faults = refl

-- from two bits to two, bit by bit and each to each
abbrev two : List ℕ → List NetBit
two t = bit t 0 ∷ bit t 1 ∷ []

bit_by_bit : pairs Parallel (two (codes "a")) (two (codes "y")) ≡ (bit (codes "a") 0, bit (codes "y") 0) ∷ (bit (codes "a") 1, bit (codes "y") 1) ∷ []
bit_by_bit = refl

each_to_each : pairs Full (two (codes "a")) (two (codes "y")) ≡
    (bit (codes "a") 0, bit (codes "y") 0) ∷ (bit (codes "a") 0, bit (codes "y") 1) ∷ (bit (codes "a") 1, bit (codes "y") 0) ∷ (bit (codes "a") 1, bit (codes "y") 1) ∷ []
each_to_each = refl

-- PATHPULSE$ = (1, 2); PATHPULSE$a$b$y = 3; with ports a, a$b and y: the $ behind a divides nothing, since b$y is no port
abbrev dollars : List Variable
dollars = scalar (codes "a") Input ∷ scalar (codes "a$b") Input ∷ scalar (codes "y") Output ∷ []

abbrev two_limits : List SpecifyItem
two_limits = parameters_item (pulse_limits (name (codes "PATHPULSE$") 10) (number 1) (Some (number 2)) ∷ pulse_limits (name (codes "PATHPULSE$a$b$y") 20) (number 3) None ∷ []) ∷ []

limits_of_two_ports : limits_of (for_corner Typ) dollars (pulses two_limits) (codes "a$b") (codes "y") ≡ Some (3, 3)
limits_of_two_ports = refl

limits_of_others : limits_of (for_corner Typ) dollars (pulses two_limits) (codes "a") (codes "y") ≡ Some (1, 2)
limits_of_others = refl

no_limits : limits_of (for_corner Typ) dollars [] (codes "a") (codes "y") ≡ None
no_limits = refl

-- if (!s[1]), with input [3:0] s
abbrev selected : List Word
selected = word 5 (tok.Op op.Bang) ∷ word 6 (tok.Name (codes "s")) ∷ word 7 (tok.Index (pos 1)) ∷ []

condition_over_bits : condition_of (vector (codes "s") (pos 3) (pos 0) Input ∷ []) (if_words selected) ≡
    If (tok.Op op.Bang ∷ tok.Name (codes "s") ∷ tok.Index (pos 1) ∷ []) (unary op.Bang (leaf (bit (codes "s") 2)))
unfolding operand_parts atom_parts level_parts primary_parts read_up_to
condition_over_bits = refl
