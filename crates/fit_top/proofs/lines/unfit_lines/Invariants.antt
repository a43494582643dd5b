use Rattle.std.proofs.Common.{◌≡◌, ◌++◌, drop, flat_map, map}
use Rattle.fit_top.specs.Answer.{unfit_line}
use Rattle.fit_top.proofs.lines.unfit_lines.Given as goal

abbrev pub invariant-loop-place : goal.invariant-loop-place
invariant-loop-place l =
    l.text.items ++ flat_map (unfit_line (map (λ n. n.now) l.names)) (drop l.place-index l.places) ≡ flat_map (unfit_line (map (λ n. n.now) l.names)) l.places
