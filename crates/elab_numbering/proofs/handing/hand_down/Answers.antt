-- None is free, and one more would be taken.
use Rattle.std.proofs.Common.{◌≡◌, ◌+◌, ◌<◌, rules, arith, drop, length}
use Rattle.elab_laws.specs.Handing.{new_count}
use Rattle.elab_numbering.proofs.HandLemmas.{takes-one}
use Rattle.elab_numbering.proofs.handing.hand_down.Goals as goal

pub returns-then-free-ge-MOST_NETS-clause-refused :
    goal.returns-then-free-ge-MOST_NETS-clause-refused
returns-then-free-ge-MOST_NETS-clause-refused c =
    let lt : c.loop-number.number-index < length c.args.given.now = omega arith in
    let count : c.loop-number.free + new_count (drop c.loop-number.number-index c.args.given.now) ≡ c.args.next + new_count c.args.given.now = c.loop-number.invariant.count in
    let more = takes-one c.args.given.now c.loop-number.number-index lt (search rules) in
    c.too_many.ensures (c.args.next + new_count c.args.given.now) (omega arith)
