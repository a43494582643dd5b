use Rattle.std.proofs.Common.{◌≡◌, ◌++◌, map, take, string_bytes}
use Rattle.fit_words.specs.Arguments.{netlist}
use Rattle.fit_words.specs.ArgumentsSeen.{argument_seen}
use Rattle.fit_words.proofs.arguments.add_netlists.Given as goal

abbrev pub invariant-loop-word : goal.invariant-loop-word
invariant-loop-word l =
    map argument_seen l.arguments.items ≡ map argument_seen l.initial.arguments.items ++ map netlist (map string_bytes (take l.word-index l.words))
