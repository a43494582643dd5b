-- The words of the command line and what they ask for.
use Rattle.std.specs.Prelude.{ℕ, List, [], ◌∷◌, ◌++◌, Option, Some, None, codes, option_and_then, if◌then◌else◌}
use Rattle.std.specs.Option.{option_map, option_to_list}
use Rattle.run_words.specs.Arguments.{Argument, arguments_of}
use Rattle.run_words.specs.Words.{◌>>=◌, Design, Input, are_sound, default_rounds, design_names, design_with, file_of, input_of, most_digits, most_rounds, most_time_digits, netlists_of, number_up_to, read_or, time_within, value_of}

-- What is asked of a run: why a net, by its name, has the value that it has at a time, in ticks; or why there is the violation of a
-- line of the report, which is given without its end.
pub data Question : Type 0 where
  a_net : (name : List ℕ) (time : ℕ) → Question
  a_violation : (text : List ℕ) → Question

-- a netlist and what is annotated to it, what drives its inputs, the bound on the rounds of one time, and the question
pub record Asked : Type 0 where
  pub design : Design
  pub input : Input
  pub rounds : ℕ
  pub question : Question

-- the options
abbrev pub options : List (List ℕ)
options = codes "stim" ∷ codes "wave" ∷ codes "scope" ∷ codes "sdf" ∷ codes "top" ∷ codes "corner" ∷ codes "rounds" ∷ codes "net" ∷ codes "at" ∷ codes "violation" ∷ []

-- a net and a time
abbrev pub net_question : (name text : List ℕ) → Option Question
net_question name text = option_map (a_net name) (time_within most_time_digits text)

-- a net and a time are given, or a violation
abbrev pub question_of : (net at violation : Option (List ℕ)) → Option Question
question_of (Some name) (Some text) None = net_question name text
question_of (Some name) (Some text) (Some line) = None
question_of (Some name) None violation = None
question_of None (Some text) violation = None
question_of None None violation = option_map a_violation violation

-- what is asked for by sound arguments and their netlists
abbrev pub asked_with : List (List ℕ) → List Argument → Option Asked
asked_with netlists arguments = do
  design ← design_with netlists arguments
  input ← input_of (value_of (codes "stim") arguments) (value_of (codes "wave") arguments) (value_of (codes "scope") arguments)
  rounds ← read_or default_rounds (number_up_to most_digits most_rounds) (value_of (codes "rounds") arguments)
  question ← question_of (value_of (codes "net") arguments) (value_of (codes "at") arguments) (value_of (codes "violation") arguments)
  Some (record { design = design; input = input; rounds = rounds; question = question })

abbrev pub asked_from : List Argument → Option Asked
asked_from arguments = if are_sound options arguments then asked_with (netlists_of arguments) arguments else None

-- none where they are refused
abbrev pub asked_of : List (List ℕ) → Option Asked
asked_of words = option_and_then asked_from (arguments_of words)

-- the names of files in what is asked
abbrev pub names_of : Asked → List (List ℕ)
names_of asked = design_names asked.design ++ file_of asked.input ∷ []

abbrev pub names_in : Option Asked → List (List ℕ)
names_in None = []
names_in (Some asked) = names_of asked
