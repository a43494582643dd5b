use Rattle.std.proofs.Common.{◌≡◌, ◌++◌, flat_map, length, reverse}
use Rattle.run_report.specs.Above.{outer_text, scopes_above}
use Rattle.run_report.proofs.paths.push_path.Given as goal

-- the names of the scopes that are left complete the text
abbrev pub invariant-loop-outer : goal.invariant-loop-outer
invariant-loop-outer l = l.text.items ++ flat_map (outer_text l.circuit) (reverse l.above.items) ≡ l.fn.text.items ++ flat_map (outer_text l.circuit) (reverse (scopes_above l.circuit l.scope))

abbrev pub decreases-loop-outer : goal.decreases-loop-outer
decreases-loop-outer l = length l.above.items
