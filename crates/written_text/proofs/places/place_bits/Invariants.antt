use Rattle.std.proofs.Common.{◌≡◌, ◌<◌, ◌≤◌, ℕ, length, drop}
use Rattle.std.specs.Prelude.{All}
use Rattle.std.specs.Option.{option_or}
use Rattle.written_text.specs.Places.{place_at, bits_place}
use Rattle.written_text.proofs.places.place_bits.Given as goal

-- the bits that are left complete the places
abbrev pub invariant-loop-bit : goal.invariant-loop-bit
invariant-loop-bit l = record {
  each : (net : ℕ) → net < length l.places → option_or (place_at l.places l.mark net) (bits_place l.variable l.bit (drop l.bit l.bits) net) ≡ option_or (place_at l.fn.places l.mark net) (bits_place l.variable 0 l.bits net);
  marks : All (λ p. p.mark ≤ l.mark) l.fn.places → All (λ p. p.mark ≤ l.mark) l.places;
}
