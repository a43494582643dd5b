use Rattle.std.proofs.Common.{◌≡◌, ℕ, ◌<◌, ◌/◌, ◌^◌, length, slice_index}
use Rattle.udp_table.specs.Compiled.{pair_of, inputs_of}
use Rattle.udp_table.proofs.pairs.pairs_of.Given as goal

abbrev pub invariant-loop-j : goal.invariant-loop-j
invariant-loop-j l =
    (length l.pairs ≡ 10) × (l.rest ≡ l.fn.code / 3 ^ l.j)
    × ((m : ℕ) → m < l.j → slice_index l.pairs m ≡ pair_of l.input l.old (inputs_of l.fn.code) m)
