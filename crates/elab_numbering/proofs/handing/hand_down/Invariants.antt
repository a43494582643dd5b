-- What is there, followed by what is left, is the whole.
use Rattle.std.proofs.Common.{◌≡◌, ◌+◌, ◌≤◌, ◌++◌, drop}
use Rattle.elab_laws.specs.Handing.{numbered, new_count}
use Rattle.elab_numbering.proofs.handing.hand_down.Given as goal

abbrev pub invariant-loop-number : goal.invariant-loop-number
invariant-loop-number l = record {
  row : l.row.items ++ numbered l.free (drop l.number-index l.given) ≡ l.initial.row.items ++ numbered l.initial.free l.given;
  count : l.free + new_count (drop l.number-index l.given) ≡ l.initial.free + new_count l.given;
  within : l.free ≤ 4194304;
}
