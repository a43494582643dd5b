-- The words of the command line and what they ask for.
use Rattle.std.specs.Prelude.{ℕ, List, [], ◌∷◌, ◌++◌, length, Bool, ◌&&◌, Option, Some, None, option_and_then, nat_le, codes, if◌then◌else◌}
use Rattle.std.specs.Char.{is_ascii_digit}
use Rattle.std.specs.List.{list_any, list_all, filter_map, slice_get}
use Rattle.std.specs.Option.{option_map, option_or, option_to_list}
use Rattle.std.specs.Str.Parse.{digits_value}
use Rattle.sg_delay.specs.declared.corners.Corner.{Corner}
use Rattle.sg_delay.specs.declared.corners.Corner.TheVariants.{Min, Typ, Max}
use Rattle.run_words.specs.Arguments.{Argument, setting, netlist, is_text, arguments_of}
use Rattle.run_words.specs.declared.subcommands.Subcommand.{Subcommand}
use Rattle.run_words.specs.declared.subcommands.Subcommand.TheVariants.{Run, Resume, Annotate, Settle}

-- What drives the inputs: the file of a stimulus; or that of a value change dump, of which the scope of a path is taken. Where
-- there is no path, it is the top's name.
pub data Input : Type 0 where
  a_stimulus : (file : List ℕ) → Input
  a_wave : (file : List ℕ) (scope : Option (List ℕ)) → Input

abbrev pub file_of : Input → List ℕ
file_of (a_stimulus file) = file
file_of (a_wave file scope) = file

-- a netlist and what is annotated to it: the netlists' files in their order, the SDF file, the top module, and the corner of the delays
pub record Design : Type 0 where
  pub netlists : List (List ℕ)
  pub sdf : Option (List ℕ)
  pub top : Option (List ℕ)
  pub corner : Corner

-- a run: what drives the inputs, the file for the value change dump, the bound on the rounds of one time, and the slots of the wheel
pub record Command : Type 0 where
  pub design : Design
  pub input : Input
  pub vcd : List ℕ
  pub rounds : ℕ
  pub wheel : ℕ

-- a run is stopped after a time, in ticks, and saved in a file
pub record Stop : Type 0 where
  pub time : ℕ
  pub save : List ℕ

infixl 10 ◌>>=◌
abbrev pub ◌>>=◌ : {A B : Type 0} → Option A → (A → Option B) → Option B
known >>= next = option_and_then next known

-- the value that an argument gives to the option of a name
abbrev pub value_under : List ℕ → Argument → Option (List ℕ)
value_under name (setting own value) = if is_text name own then Some value else None
value_under name (netlist _) = None

-- all values of the option of a name
abbrev pub values_of : List ℕ → List Argument → List (List ℕ)
values_of name arguments = filter_map (value_under name) arguments

-- the value of an option that comes at most once
abbrev pub value_of : List ℕ → List Argument → Option (List ℕ)
value_of name arguments = slice_get (values_of name arguments) 0

abbrev pub netlist_in : Argument → Option (List ℕ)
netlist_in (setting _ _) = None
netlist_in (netlist name) = Some name

-- the names of netlists, in their order
abbrev pub netlists_of : List Argument → List (List ℕ)
netlists_of arguments = filter_map netlist_in arguments

-- the options of a subcommand
abbrev pub options_of : Subcommand → List (List ℕ)
options_of Run = codes "stim" ∷ codes "wave" ∷ codes "scope" ∷ codes "vcd" ∷ codes "stop" ∷ codes "save" ∷ codes "sdf" ∷ codes "top" ∷ codes "corner" ∷ codes "rounds" ∷ codes "wheel" ∷ []
options_of Resume = codes "state" ∷ codes "stim" ∷ codes "wave" ∷ codes "scope" ∷ codes "vcd" ∷ codes "sdf" ∷ codes "top" ∷ codes "corner" ∷ codes "rounds" ∷ codes "wheel" ∷ []
options_of Annotate = codes "out" ∷ codes "sdf" ∷ codes "top" ∷ codes "corner" ∷ []
options_of Settle = codes "sdf" ∷ codes "top" ∷ codes "corner" ∷ []

-- an option's name is one of these, and no value and no netlist's name is empty
abbrev pub is_known : List (List ℕ) → Argument → Bool
is_known options (setting name value) = list_any (is_text name) options && nat_le 1 (length value)
is_known options (netlist name) = nat_le 1 (length name)

-- an option comes at most once
abbrev pub is_single : List Argument → List ℕ → Bool
is_single arguments name = nat_le (length (values_of name arguments)) 1

-- each argument is known, each option comes at most once, and there is a netlist
abbrev pub are_sound : List (List ℕ) → List Argument → Bool
are_sound options arguments = list_all (is_known options) arguments && list_all (is_single arguments) options && nat_le 1 (length (netlists_of arguments))

abbrev pub corner_of : List ℕ → Option Corner
corner_of text =
    if is_text (codes "min") text then Some Min
    else (if is_text (codes "typ") text then Some Typ else (if is_text (codes "max") text then Some Max else None))

-- decimal digits, from one to so many, of which the first may be zeros
abbrev pub is_number : ℕ → List ℕ → Bool
is_number digits text = list_all is_ascii_digit text && nat_le 1 (length text) && nat_le (length text) digits

-- a number of so many digits at most, from 1 to the most that it may be
abbrev pub number_up_to : (digits most : ℕ) → List ℕ → Option ℕ
number_up_to digits most text =
    if is_number digits text && nat_le 1 (digits_value 10 text) && nat_le (digits_value 10 text) most then Some (digits_value 10 text) else None

-- a time of so many digits at most, in ticks
abbrev pub time_within : (digits : ℕ) → List ℕ → Option ℕ
time_within digits text = if is_number digits text then Some (digits_value 10 text) else None

-- the digits of the time of a stop
abbrev pub most_time_digits : ℕ
most_time_digits = 18

-- the digits of a number that an option has
abbrev pub most_digits : ℕ
most_digits = 7

abbrev pub default_corner : Corner
default_corner = Typ

abbrev pub default_rounds : ℕ
default_rounds = 10000

abbrev pub most_rounds : ℕ
most_rounds = 1000000

abbrev pub default_wheel : ℕ
default_wheel = 4096

abbrev pub most_wheel : ℕ
most_wheel = 1048576

-- what an option's value is read as, or the default where the option doesn't come
abbrev pub read_or : {A : Type 0} → A → (List ℕ → Option A) → Option (List ℕ) → Option A
read_or default read None = Some default
read_or default read (Some text) = read text

-- exactly one of the two files is given, and a scope comes with a wave alone
abbrev pub input_of : (stimulus wave scope : Option (List ℕ)) → Option Input
input_of (Some file) None None = Some (a_stimulus file)
input_of (Some file) None (Some scope) = None
input_of (Some file) (Some other) scope = None
input_of None (Some file) scope = Some (a_wave file scope)
input_of None None scope = None

-- a time and a file, or neither
abbrev pub stop_of : (stop save : Option (List ℕ)) → Option (Option Stop)
stop_of None None = Some None
stop_of (Some text) (Some file) = option_map (λ time. Some (record { time = time; save = file })) (time_within most_time_digits text)
stop_of None (Some file) = None
stop_of (Some text) None = None

-- what is asked of by sound arguments and their netlists
abbrev pub design_with : List (List ℕ) → List Argument → Option Design
design_with netlists arguments = do
  corner ← read_or default_corner corner_of (value_of (codes "corner") arguments)
  Some (record { netlists = netlists; sdf = value_of (codes "sdf") arguments; top = value_of (codes "top") arguments; corner = corner })

-- of a run what drives the inputs and the dump are required
abbrev pub command_with : List (List ℕ) → List Argument → Option Command
command_with netlists arguments = do
  design ← design_with netlists arguments
  input ← input_of (value_of (codes "stim") arguments) (value_of (codes "wave") arguments) (value_of (codes "scope") arguments)
  vcd ← value_of (codes "vcd") arguments
  rounds ← read_or default_rounds (number_up_to most_digits most_rounds) (value_of (codes "rounds") arguments)
  wheel ← read_or default_wheel (number_up_to most_digits most_wheel) (value_of (codes "wheel") arguments)
  Some (record { design = design; input = input; vcd = vcd; rounds = rounds; wheel = wheel })

-- a design whose delays are written, and the file for them, which is required
pub record Writing : Type 0 where
  pub design : Design
  pub out : List ℕ

abbrev pub writing_with : List (List ℕ) → List Argument → Option Writing
writing_with netlists arguments = do
  design ← design_with netlists arguments
  out ← value_of (codes "out") arguments
  Some (record { design = design; out = out })

-- what words ask for: a run; a run that is stopped; the rest of a run, from the moment in a file on; the delays of a design as a file; the bounds of a design; or the run of a generated case
pub data Asked : Type 0 where
  a_run : Command → Asked
  a_stop : Command → Stop → Asked
  a_rest : Command → (state : List ℕ) → Asked
  a_writing : Writing → Asked
  the_bounds : Design → Asked
  a_case : (stages : ℕ) → Asked

-- a run, whole or stopped: the file of the save is another than that of the dump
abbrev pub run_asked : Command → Option Stop → Option Asked
run_asked command None = Some (a_run command)
run_asked command (Some stop) = if is_text stop.save command.vcd then None else Some (a_stop command stop)

abbrev pub run_with : List (List ℕ) → List Argument → Option Asked
run_with netlists arguments = do
  command ← command_with netlists arguments
  stop ← stop_of (value_of (codes "stop") arguments) (value_of (codes "save") arguments)
  run_asked command stop

-- the rest of a run, of which the moment's file is required
abbrev pub rest_with : List (List ℕ) → List Argument → Option Asked
rest_with netlists arguments = do
  command ← command_with netlists arguments
  state ← value_of (codes "state") arguments
  Some (a_rest command state)

abbrev pub asked_with : Subcommand → List (List ℕ) → List Argument → Option Asked
asked_with Run netlists arguments = run_with netlists arguments
asked_with Resume netlists arguments = rest_with netlists arguments
asked_with Annotate netlists arguments = option_map a_writing (writing_with netlists arguments)
asked_with Settle netlists arguments = option_map the_bounds (design_with netlists arguments)

abbrev pub asked_from : Subcommand → List Argument → Option Asked
asked_from subcommand arguments = if are_sound (options_of subcommand) arguments then asked_with subcommand (netlists_of arguments) arguments else None

-- the subcommand of this name
abbrev pub subcommand_of : List ℕ → Option Subcommand
subcommand_of word =
    if is_text (codes "run") word then Some Run
    else (if is_text (codes "resume") word then Some Resume
    else (if is_text (codes "annotate") word then Some Annotate else (if is_text (codes "settle") word then Some Settle else None)))

abbrev pub asked_after : List (List ℕ) → Option Subcommand → Option Asked
asked_after words subcommand = option_and_then (λ s. option_and_then (asked_from s) (arguments_of words)) subcommand

-- by the name of a subcommand and the words behind it; none where they are refused
abbrev pub asked_by : List (List ℕ) → Option Asked
asked_by [] = None
asked_by (first ∷ words) = asked_after words (subcommand_of first)

abbrev pub most_stages : ℕ
most_stages = 100000

-- the number of stages of the words `gen` and a number of six digits at most: a generated case is run; none where they are refused
abbrev pub case_of : List (List ℕ) → Option ℕ
case_of (first ∷ text ∷ []) = if is_text (codes "gen") first then number_up_to 6 most_stages text else None
case_of _ = None

-- none where they are refused
abbrev pub asked_of : List (List ℕ) → Option Asked
asked_of words = option_or (asked_by words) (option_map a_case (case_of words))

-- the names of files in a design: the netlists, and the SDF file where there is one
abbrev pub design_names : Design → List (List ℕ)
design_names d = d.netlists ++ option_to_list d.sdf

-- the names of files in what is asked: those of the design; of a run also what drives the inputs, the save and the dump; of a writing also the file that is written
abbrev pub names_of : Asked → List (List ℕ)
names_of (a_run c) = design_names c.design ++ file_of c.input ∷ c.vcd ∷ []
names_of (a_stop c stop) = design_names c.design ++ file_of c.input ∷ c.vcd ∷ stop.save ∷ []
names_of (a_rest c state) = design_names c.design ++ file_of c.input ∷ state ∷ c.vcd ∷ []
names_of (a_writing w) = design_names w.design ++ w.out ∷ []
names_of (the_bounds d) = design_names d
names_of (a_case stages) = []

abbrev pub names_in : Option Asked → List (List ℕ)
names_in None = []
names_in (Some asked) = names_of asked

-- the design of what is asked for, where files are read
abbrev pub design_of : Asked → Option Design
design_of (a_run c) = Some c.design
design_of (a_stop c stop) = Some c.design
design_of (a_rest c state) = Some c.design
design_of (a_writing w) = Some w.design
design_of (the_bounds d) = Some d
design_of (a_case stages) = None

-- the run of what is asked for, where one is asked for
abbrev pub command_of : Asked → Option Command
command_of (a_run c) = Some c
command_of (a_stop c stop) = Some c
command_of (a_rest c state) = Some c
command_of (a_writing w) = None
command_of (the_bounds d) = None
command_of (a_case stages) = None

-- the files that may be made, in their order
abbrev pub made_of : Asked → List (List ℕ)
made_of (a_run c) = c.vcd ∷ []
made_of (a_stop c stop) = c.vcd ∷ stop.save ∷ []
made_of (a_rest c state) = c.vcd ∷ []
made_of (a_writing w) = w.out ∷ []
made_of (the_bounds d) = []
made_of (a_case stages) = []

abbrev pub made_in : Option Asked → List (List ℕ)
made_in None = []
made_in (Some asked) = made_of asked
