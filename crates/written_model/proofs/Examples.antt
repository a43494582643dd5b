-- Worked examples: names, the whole text and tree of a small circuit, and faults; reckoned by hand.
use Rattle.std.proofs.Common.{inl, ap, arith}
use Rattle.std.specs.Fmt.{digits}
use Rattle.std.specs.Prelude.{◌≡◌, refl, ℕ, ℤ, pos, neg_ℤ, true, false, ◌++◌, List, [], ◌∷◌, map, Some, None, codes, replicate}
use Rattle.sg_logic.specs.declared.edges.TheConstants.{POSEDGE}
use Rattle.sg_delay.specs.declared.limits.PulseStyle.TheVariants.{OnEvent}
use Rattle.cond_expr.specs.declared.tokens.Op.TheVariants as op
use Rattle.cond_expr.specs.declared.tokens.Tok.TheVariants as tok
use Rattle.cond_expr.specs.Token.{Tok}
use Rattle.cond_expr.specs.Tree.{leaf, binary}
use Rattle.sg_circuit.specs.declared.scopes.Port.TheVariants.{Input, Output}
use Rattle.sg_circuit.specs.Paths as specify
use Rattle.sg_circuit.specs.declared.checks.CheckKind.TheVariants as check
use Rattle.sg_circuit.specs.declared.checks.CheckTiming.{CheckTiming}
use Rattle.sg_circuit.specs.declared.checks.Event.{Event}
use Rattle.sg_circuit.specs.Circuit.{Circuit, Element, Variable, Leg, Path}
use Rattle.annotation_model.proofs.Samples.{event, scalar, scope, two, timings, plain}
use Rattle.sdf_tree.specs.Written.{always, the_top, io_path, absolute, delays, a_cell, a_head, text_head, divider_head, unit_head}
use Rattle.sdf_tree.specs.declared.words.Divider.TheVariants.{Slash}
use Rattle.written_model.specs.Names.{name_text, names_text, index_at}
use Rattle.written_model.specs.Entries.{Numbers}
use Rattle.written_model.specs.Tree.{tree, nowhere, delay_of}
use Rattle.written_model.specs.Text.{line, words_text, port_text, text}
use Rattle.written_model.specs.Faults.{IsAmbiguous, is_off_grid, is_too_deep, is_too_long, depth_from}

-- ---- names

pub plain_name : name_text (codes "u0_$x") ≡ codes "u0_$x"
plain_name = refl

-- the name of an escaped identifier
pub escaped_name : name_text (codes "d[0]/q") ≡ codes "d\\[0\\]\\/q"
escaped_name = refl

pub digit_in_front : name_text (codes "0a1") ≡ codes "\\0a1"
digit_in_front = refl

pub two_names : names_text (codes "u" ∷ codes "a.b" ∷ []) ≡ codes "u/a\\.b"
two_names = refl

abbrev vector : Variable
vector = record { name = codes "q"; range = Some (record { left = pos 1; right = neg_ℤ (pos 1) }); is_reg = false; port = Output; bits = 4 ∷ 5 ∷ 6 ∷ [] }

pub right_bit : port_text (scalar (codes "a") Input 3 ∷ vector ∷ []) 6 ≡ codes "q[-1]"
unfolding digits
right_bit = refl

pub ascending : index_at (record { left = pos 2; right = pos 5 }) 1 ≡ pos 3
ascending = refl

-- ---- conditions

abbrev a_and_e : List Tok
a_and_e = tok.Name (codes "a") ∷ tok.Index (pos 3) ∷ tok.Op op.And ∷ tok.Left ∷ tok.Name (codes "e") ∷ tok.Right ∷ []

pub words_of_condition : words_text a_and_e ≡ codes "a[3] & ( e )"
unfolding digits
words_of_condition = refl

pub depth_of_condition : depth_from 0 a_and_e ≡ 1
depth_of_condition = refl

-- ---- a module c with a path (A => Y) = (7, 9)

abbrev path_of : specify.PathCondition → List ℕ → specify.Path
path_of condition ds = record { input = 1; edge = None; condition = condition; timings = timings ds }

abbrev with_paths : (precision tick : ℤ) → List specify.Path → Circuit
with_paths precision tick ps = plain
    (record { scope = 0; inputs = 2 ∷ []; output = 0; kind = Path ps OnEvent } ∷ [])
    (scope None (codes "c") (codes "c") false precision (scalar (codes "Y") Output 0 ∷ scalar (codes "A") Input 1 ∷ []) ∷ [])
    tick

abbrev small : Circuit
small = with_paths (neg_ℤ (pos 9)) (neg_ℤ (pos 9)) (path_of specify.Always (two 7 9) ∷ [])

pub whole_text :
    text small
    ≡ line (codes "(DELAYFILE (SDFVERSION \"3.0\") (DIVIDER /) (TIMESCALE 1ns)")
    ++ (line (codes "(CELL (CELLTYPE \"c\") (INSTANCE)")
    ++ (line (codes "(DELAY (ABSOLUTE")
    ++ (line (codes "(IOPATH A Y ((7) (7) (7)) ((9) (9) (9)) ((7) (7) (7)) ((7) (7) (7)) ((9) (9) (9)) ((9) (9) (9)) ((7) (7) (7)) ((7) (7) (7)) ((9) (9) (9)) ((9) (9) (9)) ((9) (9) (9)) ((7) (7) (7)))")
    ++ (line (codes "))") ++ (line (codes ")") ++ line (codes ")"))))))
unfolding text digits
whole_text = refl

abbrev same : ℕ → Numbers
same n = record { delay = n; reject = n; error = n }

pub whole_tree :
    tree small
    ≡ a_head text_head ∷ a_head (divider_head Slash) ∷ a_head (unit_head (neg_ℤ (pos 9)))
    ∷ a_cell (record {
      cell_type = codes "c";
      instance = the_top;
      parts = delays
          (absolute
          (record {
            place = nowhere;
            body = io_path always (record { condition = None; edge = None; port = record { path = codes "A"; bit = None } }) (record { path = codes "Y"; bit = None }) []
                (map (λ n. delay_of (same n)) (two 7 9));
          } ∷ [])
          ∷ [])
          ∷ [];
    })
    ∷ []
unfolding tree
whole_tree = refl

pub nothing_off_grid : is_off_grid small 0 ≡ false
nothing_off_grid = refl

pub nothing_too_long : is_too_long small 0 ≡ false
nothing_too_long = refl

-- ---- faults

abbrev first_delay : List Numbers → ℕ
first_delay [] = 0
first_delay (n ∷ ns) = n.delay

-- (A => Y) = 3; (A => Y) = 4;
pub two_delays : IsAmbiguous (with_paths (neg_ℤ (pos 9)) (neg_ℤ (pos 9)) (path_of specify.Always (two 3 3) ∷ path_of specify.Always (two 4 4) ∷ [])) 0
two_delays = inl (record { one = _; other = _; place = 0; other_place = 1; stands = refl; other_stands = refl; same = refl; differ = λ e. let h : 3 ≡ 4 = ap first_delay e in absurd (omega (arith, h)) })

-- (A => Y) = 1e18; in ticks of 1 ns
pub nineteen_digits : is_too_long (with_paths (neg_ℤ (pos 9)) (neg_ℤ (pos 9)) (path_of specify.Always (two 7 1000000000000000000) ∷ [])) 0 ≡ true
nineteen_digits = refl

-- limits of 25 ticks of 1 ps in a module of 10 ps
abbrev halves : specify.Path
halves = record { input = 1; edge = None; condition = specify.Always; timings = replicate 12 (record { delay = 50; limits = Some (25, 25) }) }

pub half_a_delay : is_off_grid (with_paths (neg_ℤ (pos 11)) (neg_ℤ (pos 12)) (halves ∷ [])) 0 ≡ true
half_a_delay = refl

-- a condition A & E, E being A in so many pairs of parentheses, itself in two
abbrev nested : ℕ → List Tok
nested n = tok.Left ∷ tok.Left ∷ tok.Name (codes "A") ∷ tok.Op op.And ∷ (replicate n tok.Left ++ (tok.Name (codes "A") ∷ (replicate n tok.Right ++ (tok.Right ∷ tok.Right ∷ []))))

abbrev under : ℕ → Circuit
under n = with_paths (neg_ℤ (pos 9)) (neg_ℤ (pos 9)) (path_of (specify.If (nested n) (binary op.And (leaf 1) (leaf 1))) (two 7 9) ∷ [])

pub twenty_eight : is_too_deep (under 28) 0 ≡ true
twenty_eight = refl

pub twenty_seven : is_too_deep (under 27) 0 ≡ false
twenty_seven = refl

-- ---- an instance u/1 of a module with $setuphold (posedge C &&& (E), D, 5, -2), and a leg to D

abbrev leg : Element
leg = record { scope = 1; inputs = 0 ∷ []; output = 1; kind = Leg (replicate 12 (record { delay = 3; limits = Some (1, 2) })) }

abbrev clock : Event
clock = record { net = 2; edge = Some POSEDGE; condition = Some (leaf 3) }

abbrev window : CheckTiming
window = record { kind = check.Setuphold; refer = clock; datum = Some (event 1 None); limits = pos 5 ∷ neg_ℤ (pos 2) ∷ []; threshold = 0; late = None }

abbrev with_window : Circuit
with_window = record (plain (leg ∷ []) [] (neg_ℤ (pos 11))) {
  checks = record { scope = 1; kind = check.Setuphold; refer = record { name = codes "C"; bit = None }; datum = Some (record { name = codes "D"; bit = None }); notifier = None; place = nowhere } ∷ [];
  check_timings = window ∷ [];
  check_conditions = record { refer = Some (tok.Left ∷ tok.Name (codes "E") ∷ tok.Right ∷ []); datum = None } ∷ [];
  scopes =
      scope None (codes "t") (codes "t") false (neg_ℤ (pos 11)) (scalar (codes "a") Input 0 ∷ [])
      ∷ scope (Some 0) (codes "u/1") (codes "m\"") true (neg_ℤ (pos 11)) (scalar (codes "D") Input 1 ∷ scalar (codes "C") Input 2 ∷ scalar (codes "E") Input 3 ∷ [])
      ∷ [];
}

pub window_text :
    text with_window
    ≡ line (codes "(DELAYFILE (SDFVERSION \"3.0\") (DIVIDER /) (TIMESCALE 10ps)")
    ++ (line (codes "(CELL (CELLTYPE \"m\") (INSTANCE u\\/1)")
    ++ (line (codes "(DELAY (ABSOLUTE")
    ++ (line (codes "(PORT D ((3) (1) (2)) ((3) (1) (2)) ((3) (1) (2)) ((3) (1) (2)) ((3) (1) (2)) ((3) (1) (2)) ((3) (1) (2)) ((3) (1) (2)) ((3) (1) (2)) ((3) (1) (2)) ((3) (1) (2)) ((3) (1) (2)))")
    ++ (line (codes "))")
    ++ (line (codes "(TIMINGCHECK")
    ++ (line (codes "(SETUP D (COND E (posedge C)) (5))")
    ++ (line (codes "(HOLD D (COND E (posedge C)) (-2))") ++ (line (codes ")") ++ (line (codes ")") ++ line (codes ")"))))))))))
unfolding text digits
window_text = refl
