-- Worked examples of which limits an entry gives to a timing check, reckoned by hand: checks of the top, with the reference R, net 1, and the data D, net 2.
use Rattle.std.specs.Prelude.{◌≡◌, refl, pos, neg_ℤ, false, List, [], ◌∷◌, Option, Some, None, codes}
use Rattle.sg_logic.specs.declared.edges.TheConstants.{POSEDGE}
use Rattle.cond_expr.specs.declared.tokens.Tok.TheVariants as tok
use Rattle.cond_expr.specs.Token.{Tok}
use Rattle.sg_circuit.specs.declared.scopes.Port.TheVariants.{Input, Inner}
use Rattle.sg_circuit.specs.declared.checks.CheckKind.{CheckKind}
use Rattle.sg_circuit.specs.declared.checks.CheckKind.TheVariants as check
use Rattle.sg_circuit.specs.declared.checks.CheckTiming.{CheckTiming}
use Rattle.sg_circuit.specs.Circuit.{Circuit}
use Rattle.sdf_tree.specs.declared.tree.Edge as sdf
use Rattle.sdf_tree.specs.declared.tree.Edge.TheVariants.{Posedge, Negedge, ZeroOne}
use Rattle.sdf_tree.specs.declared.tree.PairCheck.TheVariants as pair
use Rattle.sdf_tree.specs.declared.tree.WindowCheck.TheVariants as window
use Rattle.sdf_tree.specs.declared.words.Divider.TheVariants.{Slash}
use Rattle.sdf_tree.specs.Written.{Terminal, the_top}
use Rattle.sdf_tree.specs.Meant.{Triple, CellCheck, pair_check, window_check, a_check}
use Rattle.annotation_model.specs.Matching.{given_to_check}
use Rattle.annotation_model.proofs.Samples.{event, s_is_1, whole, lone, from, rising, port, entry, scalar, scope, plain}

-- R is an input, and D a net within
abbrev checked : Circuit
checked = plain [] (scope None (codes "m") (codes "m") false (neg_ℤ (pos 12)) (scalar (codes "R") Input 1 ∷ scalar (codes "D") Inner 2 ∷ []) ∷ []) (neg_ℤ (pos 12))

-- posedge R, and D with the condition S == 1
abbrev timing : CheckKind → CheckTiming
timing kind = record { kind = kind; refer = event 1 (Some POSEDGE); datum = Some (event 2 None); limits = pos 9 ∷ pos 0 ∷ []; threshold = 0; late = None }

abbrev to : CellCheck → CheckKind → Option Triple × Option Triple
to c kind = given_to_check checked Slash (record { cell_type = codes "m"; instance = the_top; entry = entry 1 (a_check c) }) 0 (timing kind) (record { refer = None; datum = Some s_is_1 })

abbrev three : Triple
three = lone (whole 3)

abbrev four : Triple
four = lone (whole 4)

abbrev with_words : List Tok → Terminal
with_words words = record { condition = Some words; edge = None; port = port (codes "D") }

abbrev with_edge : sdf.Edge → Terminal
with_edge e = record { condition = None; edge = Some e; port = port (codes "R") }

-- ---- parts

pub recovery_first : to (window_check window.RecRem (from (codes "R")) (from (codes "D")) three four) check.Recovery ≡ (Some three, None)
recovery_first = refl

pub removal_second : to (window_check window.RecRem (from (codes "R")) (from (codes "D")) three four) check.Removal ≡ (Some four, None)
removal_second = refl

pub both_parts : to (window_check window.RecRem (from (codes "R")) (from (codes "D")) three four) check.Recrem ≡ (Some three, Some four)
both_parts = refl

pub removal_of_both : to (pair_check pair.Removal (from (codes "R")) (from (codes "D")) three) check.Recrem ≡ (None, Some three)
removal_of_both = refl

pub hold_of_both : to (pair_check pair.Hold (from (codes "D")) (from (codes "R")) three) check.Setuphold ≡ (None, Some three)
hold_of_both = refl

pub hold_takes_the_second : to (window_check window.SetupHold (from (codes "D")) (from (codes "R")) three four) check.Hold ≡ (Some four, None)
hold_takes_the_second = refl

pub another_name : to (pair_check pair.Setup (from (codes "D")) (from (codes "R")) three) check.Hold ≡ (None, None)
another_name = refl

-- ---- terminals

-- of a recovery the reference stands first, of a setup the data
pub swapped_recovery : to (pair_check pair.Recovery (from (codes "D")) (from (codes "R")) three) check.Recovery ≡ (None, None)
swapped_recovery = refl

pub swapped_setup : to (pair_check pair.Setup (from (codes "R")) (from (codes "D")) three) check.Setup ≡ (None, None)
swapped_setup = refl

pub same_edge : to (pair_check pair.Skew (with_edge Posedge) (from (codes "D")) three) check.Skew ≡ (Some three, None)
same_edge = refl

pub other_edge : to (pair_check pair.Skew (with_edge Negedge) (from (codes "D")) three) check.Skew ≡ (None, None)
other_edge = refl

pub change_by_values : to (pair_check pair.Skew (with_edge ZeroOne) (from (codes "D")) three) check.Skew ≡ (None, None)
change_by_values = refl

pub same_words : to (pair_check pair.Setup (with_words s_is_1) (rising (codes "R")) three) check.Setup ≡ (Some three, None)
same_words = refl

pub other_words : to (pair_check pair.Setup (with_words (tok.Name (codes "S") ∷ [])) (rising (codes "R")) three) check.Setup ≡ (None, None)
other_words = refl
