-- The text of a value change dump (IEEE 1364-2005, 18.2), with vector values written in all their bits, where the standard writes the shortest form.
use Rattle.std.specs.Prelude.{ℕ, ℤ, pos, ◌-ℤ◌, nat_abs, zero, suc, ◌+◌, ◌-◌, ◌/◌, ◌%◌, ◌==◌, nat_lt, List, [], ◌∷◌, ◌++◌, Bool, Option, Some, None, length, map, codes, decimal, drop, if◌then◌else◌}
use Rattle.std.specs.Fmt.{signed_decimal}
use Rattle.std.specs.List.{list_any}
use Rattle.sg_logic.specs.declared.values.Value.{Value}
use Rattle.sg_logic.specs.declared.values.Value.TheVariants.{Zero, One, X, Z}
use Rattle.sg_model.specs.Values.{value_at}
use Rattle.sg_model.specs.Machine.{Snapshot}
use Rattle.sg_model.specs.Time.{any_differs}
use Rattle.sg_model.specs.Run.{Finished, lasts}
use Rattle.sg_circuit.specs.declared.scopes.Range.{Range}
use Rattle.sg_circuit.specs.Circuit.{Circuit, Variable, scope_at}
use Rattle.wave_out.specs.declared.scopes.Visit.{Visit}
use Rattle.wave_out.specs.declared.scopes.Visit.TheVariants.{Enters, Leaves}
use Rattle.wave_out.specs.Scopes.{visits, variables_of}
use Rattle.wave_out.specs.Texts.{line, by_number, written_name}

-- The identifier code of the k-th variable: one byte for the first 94, and then that of the rest behind. With as many
-- turns as k has, none is left over (18.2.1, 18.2.3.8).
abbrev pub code_in : ℕ → ℕ → List ℕ
code_in zero k = []
code_in (suc turns) k = (33 + k % 94) ∷ (if nat_lt k 94 then [] else code_in turns (k / 94 - 1))

unfoldable pub code : ℕ → List ℕ
code k = code_in (suc k) k

-- the number and the unit of a tick that is so many powers of ten below 100 s (18.2.3.5)
abbrev pub number_of : ℕ → List ℕ
number_of n = if n == 0 then codes "100" else if n == 1 then codes "10" else codes "1"

abbrev pub unit_of : ℕ → List ℕ
unit_of n =
    if n == 0 then codes "s" else if n == 1 then codes "ms" else if n == 2 then codes "us" else if n == 3 then codes "ns"
    else if n == 4 then codes "ps" else codes "fs"

abbrev pub text_below : ℕ → List ℕ
text_below n = number_of (n % 3) ++ codes " " ++ unit_of (n / 3)

abbrev pub tick_text : ℤ → List ℕ
tick_text power = text_below (nat_abs (pos 2 -ℤ power))

abbrev pub range_text : Option Range → List ℕ
range_text None = []
range_text (Some r) = codes " [" ++ signed_decimal r.left ++ codes ":" ++ signed_decimal r.right ++ codes "]"

-- a variable is shown as a reg or as a wire (18.2.3.8)
abbrev pub type_text : Bool → List ℕ
type_text is_reg = if is_reg then codes "$var reg " else codes "$var wire "

-- the declaration of the k-th variable (18.2.3.8)
abbrev pub declaration : ℕ → Variable → List ℕ
declaration k variable =
    line (type_text variable.is_reg ++ decimal (length variable.bits) ++ codes " " ++ code k ++ codes " "
    ++ written_name variable.name ++ range_text variable.range ++ codes " $end")

-- the line of a scope that is entered (18.2.3.4)
abbrev pub scope_line : List ℕ → List ℕ
scope_line name = line (codes "$scope module " ++ written_name name ++ codes " $end")

-- the lines of the scopes and their variables, where k variables were declared before (18.2.3.4, 18.2.3.6)
abbrev pub visit_lines : Circuit → ℕ → List Visit → List ℕ
visit_lines circuit k [] = []
visit_lines circuit k (Enters s ∷ rest) =
    scope_line (scope_at circuit s).name ++ by_number declaration k (scope_at circuit s).variables
    ++ visit_lines circuit (k + length (scope_at circuit s).variables) rest
visit_lines circuit k (Leaves ∷ rest) = line (codes "$upscope $end") ++ visit_lines circuit k rest

-- the header (18.2.3)
unfoldable pub header : Circuit → List ℕ
header circuit =
    line (codes "$version signoff 1 $end") ++ line (codes "$timescale " ++ tick_text circuit.tick ++ codes " $end")
    ++ visit_lines circuit 0 (visits circuit) ++ line (codes "$enddefinitions $end")

abbrev pub value_letter : Value → ℕ
value_letter Zero = 48
value_letter One = 49
value_letter X = 120
value_letter Z = 122

-- the values of some nets
abbrev pub values_at : List ℕ → List Value → List Value
values_at nets values = map (value_at values) nets

-- a value before its code: of one bit the letter, of others all bits, left first, and a blank (18.2.2)
abbrev pub value_text : List Value → List ℕ
value_text bits = if length bits == 1 then map value_letter bits else (codes "b" ++ map value_letter bits ++ codes " ")

-- the value of the k-th variable
abbrev pub value_line : List Value → ℕ → Variable → List ℕ
value_line values k variable = line (value_text (values_at variable.bits values) ++ code k)

-- its value where it differs
abbrev pub change_line : List Value → List Value → ℕ → Variable → List ℕ
change_line old new k variable = if any_differs old new variable.bits then value_line new k variable else []

-- the line of a time (18.2.1)
abbrev pub time_line : ℕ → List ℕ
time_line t = line (codes "#" ++ decimal t)

-- the block of the first time: the values of all variables (18.2.3.12)
abbrev pub first_block : List Variable → Snapshot → List ℕ
first_block variables s = time_line s.time ++ line (codes "$dumpvars") ++ by_number (value_line s.values) 0 variables ++ line (codes "$end")

-- the block of a later time: the values of the variables that differ
abbrev pub later_block : List Variable → List Value → Snapshot → List ℕ
later_block variables written s = time_line s.time ++ by_number (change_line written s.values) 0 variables

-- whether some variable differs
abbrev pub any_variable_differs : List Variable → List Value → List Value → Bool
any_variable_differs variables old new = list_any (λ x. any_differs old new x.bits) variables

-- what was written: the text, and the time and the values of the last block
pub record Dump : Type 0 where
  pub text : List ℕ
  pub time : ℕ
  pub values : List Value

-- one time more: a block where some variable differs from the block written before
abbrev pub dump_with : List Variable → Snapshot → Option Dump → Option Dump
dump_with variables s None = Some (record { text = first_block variables s; time = s.time; values = s.values })
dump_with variables s (Some d) =
    if any_variable_differs variables d.values s.values then Some (record { text = d.text ++ later_block variables d.values s; time = s.time; values = s.values })
    else Some d

-- the blocks of some times, given by their last snapshots, the latest first
unfoldable pub dump : List Variable → List Snapshot → Option Dump
dump variables [] = None
dump variables (s ∷ older) = dump_with variables s (dump variables older)

abbrev pub dump_text : Option Dump → List ℕ
dump_text None = []
dump_text (Some d) = d.text

-- the line of the end, unless that time has a block
abbrev pub end_line : ℕ → Option Dump → List ℕ
end_line end None = time_line end
end_line end (Some d) = if d.time == end then [] else time_line end

-- a spent time has no line
abbrev pub ending : ℕ → Option Dump → Option (ℕ × Option ℕ) → List ℕ
ending end d None = end_line end d
ending end d (Some spent) = []

-- the blocks and the end
abbrev pub vcd_body : List Variable → ℕ → Finished → List ℕ
vcd_body variables end finished =
    dump_text (dump variables (lasts finished.run.snapshots)) ++ ending end (dump variables (lasts finished.run.snapshots)) finished.spent

-- the whole text
unfoldable pub vcd_text : Circuit → ℕ → Finished → List ℕ
vcd_text circuit end finished = header circuit ++ vcd_body (variables_of circuit) end finished

-- the text of a run that is stopped: the header, and the blocks of its times
abbrev pub vcd_begun : Circuit → Finished → List ℕ
vcd_begun circuit finished = header circuit ++ dump_text (dump (variables_of circuit) (lasts finished.run.snapshots))

-- the text of a run that goes on from the snapshot of a time: what its text has behind the block of that
abbrev pub vcd_rest : Circuit → ℕ → Snapshot → Finished → List ℕ
vcd_rest circuit end last finished = drop (length (first_block (variables_of circuit) last)) (vcd_body (variables_of circuit) end finished)
