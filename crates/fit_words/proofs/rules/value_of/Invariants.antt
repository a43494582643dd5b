use Rattle.std.proofs.Common.{◌≡◌, map, drop}
use Rattle.fit_words.specs.ArgumentsSeen.{argument_seen}
use Rattle.fit_words.specs.Words.{value_of}
use Rattle.fit_words.proofs.rules.value_of.Given as goal

abbrev pub invariant-loop-argument : goal.invariant-loop-argument
invariant-loop-argument l =
    value_of l.name (map argument_seen (drop l.argument-index l.arguments)) ≡ value_of l.name (map argument_seen l.arguments)
