use Rattle.std.proofs.Common.{◌≡◌, map, string_bytes, take}
use Rattle.fit_words.specs.Words.{made_name}
use Rattle.fit_top.proofs.answers.made_names.Given as goal

abbrev pub invariant-loop-input : goal.invariant-loop-input
invariant-loop-input l = map string_bytes l.names.items ≡ map (made_name l.folder) (map (λ n. n.now) (take l.input-index l.inputs))
