use Rattle.std.proofs.Common.{◌≡◌, ◌++◌, length, map, option_map, string_bytes}
use Rattle.fit_words.specs.Arguments.{arguments_before}
use Rattle.fit_words.specs.ArgumentsSeen.{argument_seen}
use Rattle.fit_words.proofs.arguments.read_before.Given as goal

abbrev pub invariant-loop-left : goal.invariant-loop-left
invariant-loop-left l =
    arguments_before (map string_bytes l.words) ≡ option_map (λ more. map argument_seen l.arguments.items ++ more) (arguments_before (map string_bytes l.left))

abbrev pub decreases-loop-left : goal.decreases-loop-left
decreases-loop-left l = length l.left
