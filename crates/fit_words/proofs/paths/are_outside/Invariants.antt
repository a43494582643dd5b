use Rattle.std.proofs.Common.{◌≡◌, drop, map, not}
use Rattle.std.specs.List.{list_all}
use Rattle.fit_words.specs.Paths.{is_folder_of}
use Rattle.fit_words.proofs.paths.are_outside.Given as goal

abbrev pub invariant-loop-name : goal.invariant-loop-name
invariant-loop-name l =
    list_all (λ n. not (is_folder_of l.folder n)) (map (λ n. n.now) (drop l.name-index l.names)) ≡ list_all (λ n. not (is_folder_of l.folder n)) (map (λ n. n.now) l.names)
