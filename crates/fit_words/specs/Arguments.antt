-- The words behind the program's name as arguments.
use lib.Pointwise.{pointwise}
use Rattle.std.specs.Prelude.{ℕ, ◌+◌, List, [], ◌∷◌, ◌++◌, take, drop, map, Bool, not, ◌&&◌, ◌==◌, Option, Some, None, option_map, option_and_then, is_none, position, nat_eq, codes, if◌then◌else◌}
use Rattle.std.specs.List.{list_any, starts_with, before_first, after_first}

-- an option's name, without its dashes, and its value; an option that has none, with its dashes; or the name of a netlist
pub data Argument : Type 0 where
  setting : List ℕ → List ℕ → Argument
  flag : List ℕ → Argument
  netlist : List ℕ → Argument

abbrev pub is_text : List ℕ → List ℕ → Bool
is_text text word = pointwise nat_eq word text

abbrev pub begins : List ℕ → List ℕ → Bool
begins word front = starts_with nat_eq word front

-- a name ends at the first `=`, and its value is what follows; none where there is no `=`
abbrev pub parts_of : List ℕ → Option (List ℕ × List ℕ)
parts_of option = option_map (λ at. (take at option, drop (at + 1) option)) (position (λ b. b == 61) option)

-- the options that have no value
abbrev pub flags : List (List ℕ)
flags = codes "--drop-missing" ∷ codes "--strict" ∷ []

abbrev pub is_flag : List ℕ → Bool
is_flag word = list_any (is_text word) flags

-- an argument in one word: an option without a value, `--name=value`, or the name of a netlist, which doesn't begin with `-`
abbrev pub argument_of : List ℕ → Option Argument
argument_of word =
    if is_flag word then Some (flag word)
    else (if begins word (codes "--") then option_map (λ p. setting p.0 p.1) (parts_of (drop 2 word))
    else (if begins word (codes "-") then None else Some (netlist word)))

-- the word `--name`, whose value is the next word
abbrev pub is_name : List ℕ → Bool
is_name word = begins word (codes "--") && is_none (parts_of (drop 2 word)) && not (is_flag word)

-- an argument in two words: `--name` and a value, which doesn't begin with `-`
abbrev pub argument_in_two : List ℕ → List ℕ → Option Argument
argument_in_two word value = if begins value (codes "-") then None else Some (setting (drop 2 word) value)

abbrev pub with_first : Option Argument → Option (List Argument) → Option (List Argument)
with_first argument arguments = option_and_then (λ first. option_map (λ more. first ∷ more) arguments) argument

-- the arguments that the words before `--` say, each one word or two; none where a word is neither
abbrev pub arguments_before : List (List ℕ) → Option (List Argument)
arguments_before [] = Some []
arguments_before (word ∷ []) = with_first (argument_of word) (Some [])
arguments_before (word ∷ next ∷ words) =
    if is_name word then with_first (argument_in_two word next) (arguments_before words)
    else with_first (argument_of word) (arguments_before (next ∷ words))

-- the word `--`
abbrev pub is_end : List ℕ → Bool
is_end word = is_text (codes "--") word

-- the arguments of all words: each word behind `--` is the name of a netlist, whatever it begins with
abbrev pub arguments_of : List (List ℕ) → Option (List Argument)
arguments_of words = option_map (λ arguments. arguments ++ map netlist (after_first is_end words)) (arguments_before (before_first is_end words))
