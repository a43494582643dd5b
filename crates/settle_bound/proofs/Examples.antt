-- Two netlists worked out: one with a bound of 9, and one that is a cycle of one hop.
use Rattle.std.specs.Prelude.{◌≡◌, ℕ, zero, suc, ◌+◌, ◌<◌, ◌≤◌, pos, Contains, List, [], ◌∷◌, slice_index_or, Some, None, refl}
use Rattle.std.proofs.Common.{subst, arith}
use Rattle.std.proofs.lemmas.List.Elements.{All-nil, All-cons}
use Rattle.sg_logic.specs.declared.gates.GateKind.TheVariants.{Buf, Nand}
use Rattle.sg_delay.specs.declared.limits.PulseStyle.TheVariants.{OnEvent}
use Rattle.sg_circuit.specs.declared.nets.Net.{Net}
use Rattle.sg_circuit.specs.declared.nets.Driver.{Driver}
use Rattle.sg_circuit.specs.declared.nets.Driver.TheVariants as driver
use Rattle.sg_circuit.specs.Circuit as circuit
use Rattle.sg_circuit.specs.Circuit.{Circuit, Gate, Path}
use Rattle.sg_circuit.specs.Paths as specify
use Rattle.sg_circuit.specs.Timings.{Timing}
use Rattle.settle_bound.specs.declared.hops.Hop.{Hop}
use Rattle.settle_bound.specs.declared.hops.Hop.TheVariants.{Element, Check}
use Rattle.settle_bound.specs.Hops.{IsHop, nets_read, net_driven, weight}
use Rattle.settle_bound.specs.Chains.{IsChain, total_weight, IsBound, IsCycle}
use Rattle.settle_bound.proofs.ChainLaws.{potential-most}

abbrev net : Driver → Net
net d = record { scope = 0; name = []; bit = None; driver = d }

abbrev of : List Net → List circuit.Element → Circuit
of nets elements = record { tick = pos 0; nets = nets; elements = elements; udps = []; checks = []; check_timings = []; check_conditions = []; scopes = []; zeroed = [] }

abbrev after : ℕ → Timing
after delay = record { delay = delay; limits = None }

-- module c (Y, A); output Y; input A; buf (Y, A); specify (A => Y) = (7, 9); endspecify endmodule
-- The nets: Y, A, and the one that the gate drives.
abbrev buffer : Circuit
buffer =
    of (net (driver.Element 0) ∷ net driver.Stimulus ∷ net (driver.Element 1) ∷ []) (
    record {
      scope = 0;
      inputs = 2 ∷ [];
      output = 0;
      kind = Path (record {
        input = 1;
        edge = None;
        condition = specify.Always;
        timings = after 7 ∷ after 9 ∷ after 7 ∷ after 7 ∷ after 9 ∷ after 9 ∷ after 7 ∷ after 7 ∷ after 9 ∷ after 9 ∷ after 9 ∷ after 7 ∷ [];
      } ∷ []) OnEvent;
    }
    ∷ record { scope = 0; inputs = 1 ∷ []; output = 2; kind = Gate Buf [] }
    ∷ [])

weighs_9 : weight buffer (Element 0) ≡ 9
weighs_9 = refl

weighs_nothing : weight buffer (Element 1) ≡ 0
weighs_nothing = refl

-- the gate, then the path
by_both : List Hop
by_both = Element 1 ∷ Element 0 ∷ []

is_chain : IsChain buffer 0 by_both
unfolding by_both
is_chain = (
  All-cons (IsHop buffer) (Element 1) (Element 0 ∷ []) (omega arith) (All-cons (IsHop buffer) (Element 0) [] (omega arith) (All-nil (IsHop buffer))),
  (record { net = 2; driven = refl; read = (0, omega arith, refl) }, tt),
  refl,
)

adds_up : total_weight buffer by_both ≡ 9
unfolding by_both
adds_up = refl

-- no chain weighs more
bound_of : ℕ → ℕ
bound_of n = slice_index_or (9 ∷ 0 ∷ 0 ∷ []) n 0

number : (a b : ℕ) → Some a ≡ Some b → a ≡ b
number a b e = cc

alone : (h : Hop) (n : ℕ) → IsHop buffer h → net_driven buffer h ≡ Some n → weight buffer h ≤ bound_of n
unfolding bound_of
alone (Element zero) n is e = subst (λ m. 9 ≤ slice_index_or (9 ∷ 0 ∷ 0 ∷ []) m 0) (number 0 n e) (omega arith)
alone (Element (suc zero)) n is e = omega arith
alone (Element (suc (suc k))) n is e = absurd (let l : suc (suc k) < 2 = is in omega arith)
alone (Check k) n is e = absurd (let l : k < 0 = is.0 in omega arith)

behind : (h : Hop) (from n : ℕ) → IsHop buffer h → net_driven buffer h ≡ Some n → Contains (nets_read buffer h) from → bound_of from + weight buffer h ≤ bound_of n
unfolding bound_of
behind (Element zero) from n is e (zero, l, r) = subst (λ m. slice_index_or (9 ∷ 0 ∷ 0 ∷ []) m 0 + 9 ≤ slice_index_or (9 ∷ 0 ∷ 0 ∷ []) n 0) r (subst (λ m. 0 + 9 ≤ slice_index_or (9 ∷ 0 ∷ 0 ∷ []) m 0) (number 0 n e) (omega arith))
behind (Element zero) from n is e (suc k, l, r) = absurd (let m : suc k < 1 = l in omega arith)
behind (Element (suc zero)) from n is e (zero, l, r) = subst (λ m. slice_index_or (9 ∷ 0 ∷ 0 ∷ []) m 0 + 0 ≤ slice_index_or (9 ∷ 0 ∷ 0 ∷ []) n 0) r (omega arith)
behind (Element (suc zero)) from n is e (suc k, l, r) = absurd (let m : suc k < 1 = l in omega arith)
behind (Element (suc (suc k))) from n is e read = absurd (let l : suc (suc k) < 2 = is in omega arith)
behind (Check k) from n is e read = absurd (let l : k < 0 = is.0 in omega arith)

y_settles : IsBound buffer 0 9
unfolding bound_of
y_settles = record {
  most = λ hops chain. potential-most buffer bound_of (record { alone = alone; behind = behind }) 0 hops chain;
  some = (by_both, is_chain, adds_up);
}

-- module t (en, q); input en; output q; nand (q, en, q); endmodule
-- The nets: q and en.
abbrev ring : Circuit
ring = of (net (driver.Element 0) ∷ net driver.Stimulus ∷ []) (record { scope = 0; inputs = 1 ∷ 0 ∷ []; output = 0; kind = Gate Nand [] } ∷ [])

is_ring : IsCycle ring (Element 0 ∷ [])
is_ring = (
  All-cons (IsHop ring) (Element 0) [] (omega arith) (All-nil (IsHop ring)),
  (record { net = 0; driven = refl; read = (1, omega arith, refl) }, tt),
  λ i j d l m. absurd (omega arith),
)

-- no hops are no cycle
no_hops : (c : Circuit) → IsCycle c [] → ⊥
no_hops c h = h
