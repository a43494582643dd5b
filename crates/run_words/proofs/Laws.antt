-- What holds of all that the words ask for.
use Rattle.std.proofs.Common.{◌≡◌, ℕ, ◌≤◌, List, [], ◌∷◌, length, Bool, true, false, cond, ◌&&◌, refl, sym, ap, ◌∙◌, subst, arith, Option, Some, None, option_map, option_and_then, IfSome, nat_le, codes}
use Rattle.std.specs.Option.{option_or}
use Rattle.std.specs.Str.Parse.{digits_value}
use Rattle.std.specs.List.{list_all}
use Rattle.std.proofs.lemmas.Bool.{leb-true}
use Rattle.std.proofs.lemmas.Option.{same_Some}
use Rattle.sg_delay.specs.declared.corners.Corner.{Corner}
use Rattle.run_words.specs.declared.subcommands.Subcommand.{Subcommand}
use Rattle.run_words.specs.declared.subcommands.Subcommand.TheVariants.{Run, Resume, Annotate, Settle}
use Rattle.run_words.specs.Arguments.{Argument, arguments_of, is_text}
use Rattle.run_words.specs.Words.{Asked, a_run, a_stop, a_rest, a_writing, the_bounds, a_case, Command, Design, Input, Stop, Writing, input_of, value_of, netlists_of, options_of, is_known, is_single, are_sound, corner_of, is_number, most_digits, number_up_to, default_corner, default_rounds, most_rounds, default_wheel, most_wheel, read_or, design_with, command_with, writing_with, stop_of, run_asked, asked_with, asked_from, subcommand_of, asked_by, case_of, asked_of}

pub both : (a b : Bool) → (a && b) ≡ true → (a ≡ true) × (b ≡ true)
both false b e = cc
both true b e = (refl, e)

pub when_some : {A : Type 0} (b : Bool) (x : Option A) (y : A) → cond b x None ≡ Some y → (b ≡ true) × (x ≡ Some y)
when_some false x y e = cc
when_some true x y e = (refl, e)

pub then_some : {A B : Type 0} (f : A → Option B) (o : Option A) (y : B) → option_and_then f o ≡ Some y → (x : A) × (o ≡ Some x) × (f x ≡ Some y)
then_some f None y e = cc
then_some f (Some x) y e = (x, refl, e)

Within : ℕ → Option ℕ → Type 0
Within most o = IfSome o (λ n. (1 ≤ n) × (n ≤ most))

number_within : (digits most : ℕ) (text : List ℕ) → Within most (number_up_to digits most text)
unfolding Within
number_within digits most text =
    let n = digits_value 10 text in
    let test = is_number digits text && nat_le 1 n && nat_le n most in
    let by : (b : Bool) → test ≡ b → IfSome (cond b (Some n) None) (λ k. (1 ≤ k) × (k ≤ most)) =
    λ b. elim b as (λ v. test ≡ v → IfSome (cond v (Some n) None) (λ k. (1 ≤ k) × (k ≤ most))) [
      | true ↦ λ e.
          let parts = both (is_number digits text && nat_le 1 n) (nat_le n most) e in
          (leb-true 1 n (both (is_number digits text) (nat_le 1 n) parts.0).1, leb-true n most parts.1)
      | false ↦ λ e. tt
    ] in
    by test refl

read_within : (default most : ℕ) (value : Option (List ℕ)) → 1 ≤ default → default ≤ most → Within most (read_or default (number_up_to most_digits most) value)
unfolding Within
read_within default most None low high = (low, high)
read_within default most (Some text) low high = number_within most_digits most text

-- the bound on the rounds of one time is 1 or more
pub rounds_fit : (value : Option (List ℕ)) (r : ℕ) → read_or default_rounds (number_up_to most_digits most_rounds) value ≡ Some r → 1 ≤ r
unfolding Within
rounds_fit value r e = by (read_or default_rounds (number_up_to most_digits most_rounds) value) (read_within default_rounds most_rounds value (omega arith) (omega arith)) e
  where
    by : (o : Option ℕ) → IfSome o (λ n. (1 ≤ n) × (n ≤ most_rounds)) → o ≡ Some r → 1 ≤ r
    by None h e = cc
    by (Some k) h e = subst (λ n. 1 ≤ n) (same_Some k r e) h.0

-- a design has a netlist; a run has one, allows one round or more, and its wheel has 1 to 1048576 slots
pub record IsRunFit (c : Command) : Type 0 where
  pub netlists : 1 ≤ length c.design.netlists
  pub rounds : 1 ≤ c.rounds
  pub wheel : (1 ≤ c.wheel) × (c.wheel ≤ 1048576)

abbrev pub IsFit : Asked → Type 0
IsFit (a_run c) = IsRunFit c
IsFit (a_stop c stop) = IsRunFit c
IsFit (a_rest c state) = IsRunFit c
IsFit (a_writing w) = 1 ≤ length w.design.netlists
IsFit (the_bounds d) = 1 ≤ length d.netlists
IsFit (a_case stages) = Unit {0}

pub design_netlists : (netlists : List (List ℕ)) (arguments : List Argument) (d : Design) → design_with netlists arguments ≡ Some d → d.netlists ≡ netlists
design_netlists netlists arguments d e = by (read_or default_corner corner_of (value_of (codes "corner") arguments)) e
  where
    made : Corner → Design
    made k = record { netlists = netlists; sdf = value_of (codes "sdf") arguments; top = value_of (codes "top") arguments; corner = k }

    by : (o : Option Corner) → option_and_then (λ k. Some (made k)) o ≡ Some d → d.netlists ≡ netlists
    by None e = cc
    by (Some k) e = ap (λ (x : Design). x.netlists) (sym (same_Some (made k) d e))

IsWithin : List (List ℕ) → Command → Type 0
IsWithin netlists c = (c.design.netlists ≡ netlists) × (1 ≤ c.rounds) × (1 ≤ c.wheel) × (c.wheel ≤ most_wheel)

built : (netlists : List (List ℕ)) (design : Option Design) (input : Option Input) (vcd : Option (List ℕ)) (rounds wheel : Option ℕ) (c : Command)
    → option_and_then (λ d. option_and_then (λ i. option_and_then (λ v. option_and_then (λ r. option_and_then (λ w.
    Some (record { design = d; input = i; vcd = v; rounds = r; wheel = w })) wheel) rounds) vcd) input) design ≡ Some c
    → ((d : Design) → design ≡ Some d → d.netlists ≡ netlists) → Within most_rounds rounds → Within most_wheel wheel → IsWithin netlists c
unfolding Within IsWithin
built netlists None input vcd rounds wheel c e hd hr hw = cc
built netlists (Some d) None vcd rounds wheel c e hd hr hw = cc
built netlists (Some d) (Some i) None rounds wheel c e hd hr hw = cc
built netlists (Some d) (Some i) (Some v) None wheel c e hd hr hw = cc
built netlists (Some d) (Some i) (Some v) (Some r) None c e hd hr hw = cc
built netlists (Some d) (Some i) (Some v) (Some r) (Some w) c e hd hr hw =
    let P : Command → Type 0 = λ x. (x.design.netlists ≡ netlists) × (1 ≤ x.rounds) × (1 ≤ x.wheel) × (x.wheel ≤ most_wheel) in
    subst P (same_Some (record { design = d; input = i; vcd = v; rounds = r; wheel = w }) c e) (hd d refl, hr.0, hw.0, hw.1)

run_within : (netlists : List (List ℕ)) (arguments : List Argument) (c : Command) → command_with netlists arguments ≡ Some c → IsWithin netlists c
run_within netlists arguments c e =
    built netlists (design_with netlists arguments) (input_of (value_of (codes "stim") arguments) (value_of (codes "wave") arguments) (value_of (codes "scope") arguments)) (value_of (codes "vcd") arguments)
    (read_or default_rounds (number_up_to most_digits most_rounds) (value_of (codes "rounds") arguments)) (read_or default_wheel (number_up_to most_digits most_wheel) (value_of (codes "wheel") arguments)) c e (design_netlists netlists arguments)
    (read_within default_rounds most_rounds (value_of (codes "rounds") arguments) (omega arith) (omega arith)) (read_within default_wheel most_wheel (value_of (codes "wheel") arguments) (omega arith) (omega arith))

writing_netlists : (netlists : List (List ℕ)) (arguments : List Argument) (w : Writing) → writing_with netlists arguments ≡ Some w → w.design.netlists ≡ netlists
writing_netlists netlists arguments w e = by (design_with netlists arguments) (value_of (codes "out") arguments) e (design_netlists netlists arguments)
  where
    by : (o : Option Design) (out : Option (List ℕ)) → option_and_then (λ d. option_and_then (λ v. Some (record { design = d; out = v })) out) o ≡ Some w
        → ((d : Design) → o ≡ Some d → d.netlists ≡ netlists) → w.design.netlists ≡ netlists
    by None out e h = cc
    by (Some d) None e h = cc
    by (Some d) (Some v) e h = ap (λ (x : Writing). x.design.netlists) (sym (same_Some (record { design = d; out = v }) w e)) ∙ h d refl

pub mapped : {A B : Type 0} (f : A → B) (o : Option A) (b : B) → option_map f o ≡ Some b → (a : A) × (o ≡ Some a) × (f a ≡ b)
mapped f None b e = cc
mapped f (Some a) b e = (a, refl, same_Some (f a) b e)

-- the command of a run, its stop or its rest
command_fit : (netlists : List (List ℕ)) (arguments : List Argument) (c : Command) → 1 ≤ length netlists → command_with netlists arguments ≡ Some c → IsRunFit c
unfolding IsWithin
command_fit netlists arguments c some e =
    let within = run_within netlists arguments c e in
    record { netlists = subst (λ (ns : List (List ℕ)). 1 ≤ length ns) (sym within.0) some; rounds = within.1; wheel = (within.2, within.3) }

stop_fit : (c : Command) (stop : Option Stop) (asked : Asked) → IsRunFit c → run_asked c stop ≡ Some asked → IsFit asked
stop_fit c None asked fit e = subst IsFit (same_Some (a_run c) asked e) fit
stop_fit c (Some stop) asked fit e = by (is_text stop.save c.vcd) e
  where
    by : (same : Bool) → cond same None (Some (a_stop c stop)) ≡ Some asked → IsFit asked
    by true e = cc
    by false e = subst IsFit (same_Some (a_stop c stop) asked e) fit

with_fit : (subcommand : Subcommand) (netlists : List (List ℕ)) (arguments : List Argument) (asked : Asked) → 1 ≤ length netlists → asked_with subcommand netlists arguments ≡ Some asked → IsFit asked
with_fit Run netlists arguments asked some e =
    let stop = stop_of (value_of (codes "stop") arguments) (value_of (codes "save") arguments) in
    let found = then_some (λ c. option_and_then (run_asked c) stop) (command_with netlists arguments) asked e in
    let stopped = then_some (run_asked found.0) stop asked found.2 in
    stop_fit found.0 stopped.0 asked (command_fit netlists arguments found.0 some found.1) stopped.2
with_fit Resume netlists arguments asked some e =
    let state = value_of (codes "state") arguments in
    let found = then_some (λ c. option_and_then (λ s. Some (a_rest c s)) state) (command_with netlists arguments) asked e in
    let given = then_some (λ s. Some (a_rest found.0 s)) state asked found.2 in
    subst IsFit (same_Some (a_rest found.0 given.0) asked given.2) (command_fit netlists arguments found.0 some found.1)
with_fit Annotate netlists arguments asked some e =
    let found = mapped a_writing (writing_with netlists arguments) asked e in
    let some : 1 ≤ length found.0.design.netlists = subst (λ (ns : List (List ℕ)). 1 ≤ length ns) (sym (writing_netlists netlists arguments found.0 found.1)) some in
    subst IsFit found.2 some
with_fit Settle netlists arguments asked some e =
    let found = mapped the_bounds (design_with netlists arguments) asked e in
    let some : 1 ≤ length found.0.netlists = subst (λ (ns : List (List ℕ)). 1 ≤ length ns) (sym (design_netlists netlists arguments found.0 found.1)) some in
    subst IsFit found.2 some

from_fit : (subcommand : Subcommand) (arguments : List Argument) (asked : Asked) → asked_from subcommand arguments ≡ Some asked → IsFit asked
from_fit subcommand arguments asked e =
    let options = options_of subcommand in
    let parts = when_some (are_sound options arguments) (asked_with subcommand (netlists_of arguments) arguments) asked e in
    let some = both (list_all (is_known options) arguments && list_all (is_single arguments) options) (nat_le 1 (length (netlists_of arguments))) parts.0 in
    with_fit subcommand (netlists_of arguments) arguments asked (leb-true 1 (length (netlists_of arguments)) some.1) parts.1

by_fit : (words : List (List ℕ)) (asked : Asked) → asked_by words ≡ Some asked → IsFit asked
by_fit [] asked e = cc
by_fit (first ∷ words) asked e =
    let s = then_some (λ s. option_and_then (asked_from s) (arguments_of words)) (subcommand_of first) asked e in
    let found = then_some (asked_from s.0) (arguments_of words) asked s.2 in
    from_fit s.0 found.0 asked found.2

or_fit : (o : Option Asked) (q : Option ℕ) (asked : Asked) → ((a : Asked) → o ≡ Some a → IsFit a) → option_or o (option_map a_case q) ≡ Some asked → IsFit asked
or_fit (Some a) q asked h e = h asked e
or_fit None (Some n) asked h e = subst IsFit (same_Some (a_case n) asked e) tt
or_fit None None asked h e = cc

-- what words ask for is fit to be done
pub asked-fit : (words : List (List ℕ)) (asked : Asked) → asked_of words ≡ Some asked → IsFit asked
asked-fit words asked e = or_fit (asked_by words) (case_of words) asked (by_fit words) e
