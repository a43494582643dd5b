use Rattle.std.proofs.Common.{◌≡◌, map, take}
use Rattle.fit_words.specs.Paths.{last_of}
use Rattle.fit_words.proofs.paths.lasts_of.Given as goal

abbrev pub invariant-loop-name : goal.invariant-loop-name
invariant-loop-name l = map (λ last. last.now) l.lasts.items ≡ map last_of (map (λ n. n.now) (take l.name-index l.names))
