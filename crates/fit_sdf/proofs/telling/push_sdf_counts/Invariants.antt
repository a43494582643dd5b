-- The words so far.
use Rattle.std.specs.Prelude.{◌≡◌, ◌++◌, map, take}
use Rattle.fit_sdf.specs.Counts.{count_seen, sdf_counts_text}
use Rattle.fit_sdf.proofs.telling.push_sdf_counts.Given as goal

abbrev pub invariant-loop-count : goal.invariant-loop-count
invariant-loop-count l = l.text.items ≡ l.fn.text.items ++ sdf_counts_text (map count_seen (take l.count-index l.counts))
