use Rattle.std.proofs.Common.{◌≡◌, ◌++◌, map, drop}
use Rattle.fit_words.specs.ArgumentsSeen.{argument_seen}
use Rattle.fit_words.specs.Words.{netlists_of}
use Rattle.fit_words.proofs.rules.netlists_of.Given as goal

abbrev pub invariant-loop-argument : goal.invariant-loop-argument
invariant-loop-argument l =
    map (λ name. name.now) l.names.items ++ netlists_of (map argument_seen (drop l.argument-index l.arguments)) ≡ netlists_of (map argument_seen l.arguments)
