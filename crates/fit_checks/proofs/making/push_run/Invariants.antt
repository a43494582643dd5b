-- The tokens so far.
use Rattle.std.specs.Prelude.{◌≡◌, ◌++◌, take}
use Rattle.fit_checks.specs.WrittenSeen.{kinds_seen, tokens_seen}
use Rattle.fit_checks.proofs.making.push_run.Given as goal

abbrev pub invariant-loop-token : goal.invariant-loop-token
invariant-loop-token l = kinds_seen l.out.items ≡ kinds_seen l.fn.out.items ++ tokens_seen (take l.token-index l.run)
