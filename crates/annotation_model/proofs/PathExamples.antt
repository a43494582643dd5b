-- Worked examples of paths, reckoned by hand.
use Rattle.std.specs.Prelude.{map, ◌≡◌, refl, ℕ, ℤ, pos, neg_ℤ, true, false, List, [], ◌∷◌, replicate, Option, Some, None, codes}
use Rattle.sg_logic.specs.declared.values.Value.TheVariants.{One}
use Rattle.sg_delay.specs.declared.corners.Corner.TheVariants.{Typ}
use Rattle.sg_delay.specs.declared.limits.PulseStyle.TheVariants.{OnEvent}
use Rattle.cond_expr.specs.declared.tokens.Op.TheVariants as op
use Rattle.cond_expr.specs.declared.tokens.Tok.TheVariants as tok
use Rattle.cond_expr.specs.Tree.{leaf, constant, binary}
use Rattle.sg_circuit.specs.declared.scopes.Port.TheVariants.{Input, Output}
use Rattle.sg_circuit.specs.Paths as specify
use Rattle.sg_circuit.specs.Circuit.{Circuit, Path}
use Rattle.sdf_tree.specs.declared.tree.Edge.TheVariants.{ZeroOne}
use Rattle.sdf_tree.specs.declared.words.Divider.TheVariants.{Point}
use Rattle.sdf_tree.specs.Written.{always, otherwise, if_words, the_top}
use Rattle.sdf_tree.specs.Meant.{Triple, DelayValue, EntryKind, io_path, device, port_delay, path_pulse, Entry, Sdf}
use Rattle.annotation_model.specs.Given.{given}
use Rattle.annotation_model.specs.Same.{bare, same_condition}
use Rattle.annotation_model.specs.Spots.{path_spot, spot_after}
use Rattle.annotation_model.specs.Annotated.{too_large, unmatched}
use Rattle.annotation_model.proofs.Samples.{s_is_1, decimal, whole, lone, nothing, delay, port, from, at_line, entry, more, cell, nanoseconds, delays, limits, scalar, scope, path, plain}

-- ---- one path A => Y of delay 5 in a module with a precision

abbrev one_path : specify.Path
one_path = path 1 specify.Always 5

abbrev one : (precision tick : ℤ) → Circuit
one precision tick = plain
    (record { scope = 0; inputs = 2 ∷ []; output = 0; kind = Path (one_path ∷ []) OnEvent } ∷ [])
    (scope None (codes "c") (codes "c") false precision (scalar (codes "Y") Output 0 ∷ scalar (codes "A") Input 1 ∷ []) ∷ [])
    tick

abbrev top_cell : List Entry → Sdf
top_cell entries = nanoseconds (cell (codes "c") the_top entries ∷ [])

abbrev a_to_y : List DelayValue → EntryKind
a_to_y ds = io_path always (from (codes "A")) (port (codes "Y")) ds

-- its delays after entries, and its limits
abbrev path_delays : (precision tick : ℤ) → List Entry → List ℕ
path_delays precision tick entries = delays (spot_after (one precision tick) (top_cell entries) Typ (given (top_cell entries)) (path_spot 0 0 one_path))

abbrev path_limits : (precision tick : ℤ) → List Entry → List (Option (ℕ × ℕ))
path_limits precision tick entries = limits (spot_after (one precision tick) (top_cell entries) Typ (given (top_cell entries)) (path_spot 0 0 one_path))

-- 0.0125 ns in a module of 1 ps: 13 ps
pub halves_go_up : path_delays (neg_ℤ (pos 12)) (neg_ℤ (pos 12)) (entry 1 (a_to_y (delay (lone (decimal 125 (neg_ℤ (pos 4)))) ∷ [])) ∷ []) ≡ replicate 12 13
halves_go_up = refl

-- 0.126 ns in a module of 10 ps, with a tick of 1 ps: 130 ticks
pub rounded_to_precision : path_delays (neg_ℤ (pos 11)) (neg_ℤ (pos 12)) (entry 1 (a_to_y (delay (lone (decimal 126 (neg_ℤ (pos 3)))) ∷ [])) ∷ []) ≡ replicate 12 130
rounded_to_precision = refl

-- 5 and -9 are 0, and 7 more are 7
pub below_zero_is_zero :
    path_delays (neg_ℤ (pos 9)) (neg_ℤ (pos 9))
    (more 1 (a_to_y (delay (lone (record { negative = true; digits = 9; exponent = pos 0 })) ∷ [])) ∷ more 2 (a_to_y (delay (lone (whole 7)) ∷ [])) ∷ [])
    ≡ replicate 12 7
below_zero_is_zero = refl

-- 1e18 s is too large; it is told of the first such entry
pub first_is_named :
    too_large (one (neg_ℤ (pos 9)) (neg_ℤ (pos 9)))
    (record {
      unit = pos 0;
      divider = Point;
      cells = cell (codes "c") the_top
          (entry 1 (a_to_y (delay (lone (whole 1)) ∷ []))
          ∷ entry 2 (a_to_y (delay (lone (decimal 1 (pos 18))) ∷ []))
          ∷ entry 3 (a_to_y (delay (lone (decimal 2 (pos 18))) ∷ []))
          ∷ [])
          ∷ [];
    })
    Typ
    ≡ Some (at_line 2)
first_is_named = refl

-- of what it isn't for, an entry is not too large
pub unmatched_is_not_too_large :
    too_large (one (neg_ℤ (pos 9)) (neg_ℤ (pos 9)))
    (top_cell (entry 1 (io_path always (from (codes "B")) (port (codes "Y")) (delay (lone (decimal 1 (pos 30))) ∷ [])) ∷ []))
    Typ
    ≡ None
unmatched_is_not_too_large = refl

-- limits stand while the delay changes, and transitions to and from x take those of the transition whose delay they take
pub limits_stay :
    path_limits (neg_ℤ (pos 9)) (neg_ℤ (pos 9))
    (entry 1 (path_pulse false None (lone (whole 2)) (Some (lone (whole 3))))
    ∷ entry 2 (a_to_y (record { delay = lone (whole 10); limits = Some (record { reject = lone (whole 4); error = lone (whole 6) }) } ∷ delay (lone (whole 8)) ∷ []))
    ∷ [])
    ≡ Some (4, 6) ∷ Some (2, 3) ∷ Some (4, 6) ∷ Some (4, 6) ∷ Some (2, 3) ∷ Some (2, 3) ∷ Some (4, 6) ∷ Some (4, 6) ∷ Some (2, 3) ∷ Some (2, 3) ∷ Some (4, 6) ∷ Some (2, 3) ∷ []
limits_stay = refl

-- half of 5 is 3, and a lone percentage gives both limits
pub percent_of_the_delay : path_limits (neg_ℤ (pos 9)) (neg_ℤ (pos 9)) (entry 1 (path_pulse true None (lone (whole 50)) None) ∷ []) ≡ replicate 12 (Some (3, 3))
percent_of_the_delay = refl

-- a change by its two values is none of a netlist's edges, and a name that leads nowhere is for nothing
pub for_nothing :
    unmatched (one (neg_ℤ (pos 9)) (neg_ℤ (pos 9)))
    (top_cell (entry 1 (io_path always (record { condition = None; edge = Some ZeroOne; port = port (codes "A") }) (port (codes "Y")) (delay (lone (whole 1)) ∷ []))
    ∷ entry 2 (a_to_y (delay nothing ∷ []))
    ∷ entry 3 (device (Some (port (codes "A"))) (delay (lone (whole 1)) ∷ []))
    ∷ entry 4 (port_delay (port (codes "A")) (delay (lone (whole 1)) ∷ []))
    ∷ entry 5 (path_pulse true (Some (port (codes "Y"), port (codes "A"))) (lone (whole 1)) None)
    ∷ []))
    ≡ (at_line 1, codes "IOPATH") ∷ (at_line 3, codes "DEVICE") ∷ (at_line 4, codes "PORT") ∷ (at_line 5, codes "PATHPULSEPERCENT") ∷ []
for_nothing = refl

-- a sum may be too large where neither part is: 2^60 - 1, and 1 more
pub sum_is_too_large :
    too_large (one (neg_ℤ (pos 9)) (neg_ℤ (pos 9)))
    (top_cell (entry 1 (a_to_y (delay (lone (whole 1152921504606846975)) ∷ [])) ∷ more 2 (a_to_y (delay (lone (whole 1)) ∷ [])) ∷ []))
    Typ
    ≡ Some (at_line 2)
sum_is_too_large = refl

-- limits of a delay that the corner hasn't are passed over, and aren't too large
abbrev pub huge_limits : Triple → DelayValue
huge_limits t = record { delay = t; limits = Some (record { reject = lone (whole 1); error = lone (decimal 1 (pos 30)) }) }

pub passed_over_is_not_too_large : too_large (one (neg_ℤ (pos 9)) (neg_ℤ (pos 9))) (top_cell (entry 1 (a_to_y (huge_limits nothing ∷ [])) ∷ [])) Typ ≡ None
passed_over_is_not_too_large = refl

pub taken_is_too_large : too_large (one (neg_ℤ (pos 9)) (neg_ℤ (pos 9))) (top_cell (entry 1 (a_to_y (huge_limits (lone (whole 1)) ∷ [])) ∷ [])) Typ ≡ Some (at_line 1)
taken_is_too_large = refl

-- a list of twelve changes what it has a value for, and makes nothing anew
pub twelve_change_one :
    path_delays (neg_ℤ (pos 9)) (neg_ℤ (pos 9)) (entry 1 (a_to_y (delay (lone (whole 9)) ∷ replicate 11 (delay nothing))) ∷ [])
    ≡ 9 ∷ replicate 11 5
twelve_change_one = refl

-- a list of three without a value for turns to z: these keep their delay, and 0x, 1x, xz are made of both
pub three_keep_some :
    path_delays (neg_ℤ (pos 9)) (neg_ℤ (pos 9)) (entry 1 (a_to_y (delay (lone (whole 9)) ∷ delay (lone (whole 3)) ∷ delay nothing ∷ [])) ∷ [])
    ≡ 9 ∷ 3 ∷ 5 ∷ 9 ∷ 5 ∷ 3 ∷ 5 ∷ 9 ∷ 3 ∷ 3 ∷ 5 ∷ 3 ∷ []
three_keep_some = refl

-- where no text gives limits they follow the delay, also behind PATHPULSEPERCENT that another entry's delays come after
pub percent_stays :
    path_limits (neg_ℤ (pos 9)) (neg_ℤ (pos 9)) (entry 1 (path_pulse true None (lone (whole 40)) (Some (lone (whole 80)))) ∷ more 2 (a_to_y (delay (lone (whole 5)) ∷ [])) ∷ [])
    ≡ replicate 12 (Some (2, 4))
percent_stays = refl

pub none_given : path_limits (neg_ℤ (pos 9)) (neg_ℤ (pos 9)) (more 1 (a_to_y (delay (lone (whole 5)) ∷ [])) ∷ []) ≡ replicate 12 None
none_given = refl

-- of two transitions with one delay the first of the formula gives the limits: 0x those of 0z, x1 of z1, 1x of 1z, x0 of z0, xz of 1z, zx of z1
abbrev limited_by : ℕ → DelayValue
limited_by n = record { delay = lone (whole 5); limits = Some (record { reject = lone (whole n); error = lone (whole n) }) }

pub equal_delays :
    path_limits (neg_ℤ (pos 9)) (neg_ℤ (pos 9))
    (more 1 (a_to_y (limited_by 1 ∷ limited_by 2 ∷ limited_by 3 ∷ limited_by 4 ∷ limited_by 5 ∷ limited_by 6 ∷ [])) ∷ [])
    ≡ map (λ n. Some (n, n)) (1 ∷ 2 ∷ 3 ∷ 4 ∷ 5 ∷ 6 ∷ 3 ∷ 4 ∷ 5 ∷ 6 ∷ 5 ∷ 4 ∷ [])
equal_delays = refl

-- where one limit has no value for the corner, both are passed over, and the delay isn't
abbrev reject_alone : DelayValue
reject_alone = record { delay = lone (whole 9); limits = Some (record { reject = lone (whole 1); error = nothing }) }

pub one_limit_is_none :
    path_limits (neg_ℤ (pos 9)) (neg_ℤ (pos 9)) (entry 1 (path_pulse false None (lone (whole 2)) None) ∷ entry 2 (a_to_y (reject_alone ∷ [])) ∷ [])
    ≡ replicate 12 (Some (2, 2))
one_limit_is_none = refl

pub its_delay_counts : path_delays (neg_ℤ (pos 9)) (neg_ℤ (pos 9)) (entry 1 (a_to_y (reject_alone ∷ [])) ∷ []) ≡ replicate 12 9
its_delay_counts = refl

-- ---- conditions: if (S == 1'b1) (A => Y) = 5; ifnone (A => Y) = 6; (B => Y) = 7;

abbrev if_path : specify.Path
if_path = path 1 (specify.If s_is_1 (binary op.Equal (leaf 3) (constant One))) 5

abbrev else_path : specify.Path
else_path = path 1 specify.IfNone 6

abbrev b_path : specify.Path
b_path = path 2 specify.Always 7

abbrev m : Circuit
m = plain (record { scope = 0; inputs = 4 ∷ []; output = 0; kind = Path (if_path ∷ else_path ∷ b_path ∷ []) OnEvent } ∷ [])
    (scope None (codes "m") (codes "m") false (neg_ℤ (pos 9)) (scalar (codes "Y") Output 0 ∷ scalar (codes "A") Input 1 ∷ scalar (codes "B") Input 2 ∷ scalar (codes "S") Input 3 ∷ []) ∷ [])
    (neg_ℤ (pos 9))

abbrev m_sdf : Sdf
m_sdf = nanoseconds (cell (codes "m") the_top
    (entry 3 (a_to_y (delay (lone (whole 10)) ∷ delay (lone (whole 11)) ∷ []))
    ∷ entry 4 (io_path (if_words s_is_1) (from (codes "A")) (port (codes "Y")) (delay (record { min = Some (whole 1); typ = None; max = Some (whole 3) }) ∷ delay (lone (whole 12)) ∷ []))
    ∷ entry 5 (io_path otherwise (from (codes "A")) (port (codes "Y")) (delay nothing ∷ delay (lone (whole 13)) ∷ []))
    ∷ entry 6 (io_path always (from (codes "C")) (port (codes "Y")) (delay (lone (whole 1)) ∷ []))
    ∷ [])
    ∷ [])

abbrev m_after : specify.Path → List ℕ
m_after p = delays (spot_after m m_sdf Typ (given m_sdf) (path_spot 0 0 p))

pub the_conditioned : m_after if_path ≡ 10 ∷ 12 ∷ 10 ∷ 10 ∷ 12 ∷ 12 ∷ 10 ∷ 10 ∷ 12 ∷ 12 ∷ 12 ∷ 10 ∷ []
the_conditioned = refl

pub the_other : m_after else_path ≡ 10 ∷ 13 ∷ 10 ∷ 10 ∷ 13 ∷ 13 ∷ 10 ∷ 10 ∷ 13 ∷ 13 ∷ 13 ∷ 10 ∷ []
the_other = refl

pub the_untouched : m_after b_path ≡ replicate 12 7
the_untouched = refl

pub one_for_nothing : unmatched m m_sdf ≡ (at_line 6, codes "IOPATH") ∷ []
one_for_nothing = refl

pub pairs_are_taken_off : bare (tok.Left ∷ tok.Left ∷ tok.Name (codes "S") ∷ tok.Op op.Equal ∷ tok.Const One ∷ tok.Right ∷ tok.Right ∷ []) ≡ s_is_1
pairs_are_taken_off = refl

pub parentheses_aside : same_condition (tok.Left ∷ tok.Name (codes "S") ∷ tok.Op op.Equal ∷ tok.Const One ∷ tok.Right ∷ []) s_is_1 ≡ true
parentheses_aside = refl

-- (S) & (R) has no pair round it
pub not_a_pair :
    bare (tok.Left ∷ tok.Name (codes "S") ∷ tok.Right ∷ tok.Op op.And ∷ tok.Left ∷ tok.Name (codes "R") ∷ tok.Right ∷ [])
    ≡ tok.Left ∷ tok.Name (codes "S") ∷ tok.Right ∷ tok.Op op.And ∷ tok.Left ∷ tok.Name (codes "R") ∷ tok.Right ∷ []
not_a_pair = refl

pub another_condition : same_condition (tok.Op op.Bang ∷ tok.Name (codes "S") ∷ []) s_is_1 ≡ false
another_condition = refl

-- a backslash in a name is a letter of it, as of the netlist's \a\b and the file's a\\b
pub backslash_in_a_name : same_condition (tok.Name (97 ∷ 92 ∷ 98 ∷ []) ∷ []) (tok.Name (97 ∷ 92 ∷ 98 ∷ []) ∷ []) ≡ true
backslash_in_a_name = refl
