-- Joins `Arguments` to the code.
use Rattle.std.specs.Prelude.{ℕ, ◌≡◌, ◌<◌, List, ◌∷◌, length, option_map}
use Rattle.fit_words.specs.declared.arguments.Argument as code
use Rattle.fit_words.specs.declared.arguments.Argument.TheVariants.{Setting, Flag, Netlist}
use Rattle.fit_words.specs.Arguments.{Argument, setting, flag, netlist, arguments_before}

abbrev pub argument_seen : code.Argument → Argument
argument_seen (Setting name value) = setting name.now value.now
argument_seen (Flag word) = flag word.now
argument_seen (Netlist name) = netlist name.now

-- an argument stands at the front of words before `--`, and the rest behind it
pub record ComesFirst (argument : Argument) (rest words : List (List ℕ)) : Type 0 where
  pub reads : arguments_before words ≡ option_map (λ more. argument ∷ more) (arguments_before rest)
  pub shorter : length rest < length words
