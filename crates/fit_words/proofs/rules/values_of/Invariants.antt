use Rattle.std.proofs.Common.{◌≡◌, ◌++◌, map, drop}
use Rattle.fit_words.specs.ArgumentsSeen.{argument_seen}
use Rattle.fit_words.specs.Words.{values_of}
use Rattle.fit_words.proofs.rules.values_of.Given as goal

abbrev pub invariant-loop-argument : goal.invariant-loop-argument
invariant-loop-argument l =
    map (λ value. value.now) l.values.items ++ values_of l.name (map argument_seen (drop l.argument-index l.arguments)) ≡ values_of l.name (map argument_seen l.arguments)
