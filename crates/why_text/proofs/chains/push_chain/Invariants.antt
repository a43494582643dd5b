-- The lines of the links so far.
use Rattle.std.proofs.Common.{◌≡◌, ◌++◌, drop, map}
use Rattle.time_checks.specs.Seen.{violation_seen}
use Rattle.why_text.specs.Lines.{chain_lines}
use Rattle.why_text.proofs.chains.push_chain.Given as goal

abbrev pub invariant-loop-link : goal.invariant-loop-link
invariant-loop-link l =
    l.text.items ++ chain_lines l.circuit l.trace (map (λ v. violation_seen v) l.violations) l.last (drop l.link-index l.links) l.end
    ≡ l.fn.text.items ++ chain_lines l.circuit l.trace (map (λ v. violation_seen v) l.violations) l.event l.links l.end
