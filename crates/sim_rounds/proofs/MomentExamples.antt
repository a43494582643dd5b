-- Worked examples of moments that fit a circuit, and that don't. The circuit: a buffer with a delay of 4 from net 0, which the stimulus sets, to net 1. The time: 5, when net 0 rose.
use Rattle.std.proofs.Common.{◌≡◌, refl, ℕ, zero, suc, ◌<◌, ◌^◌, List, [], ◌∷◌, Some, None, arith, lit<, lit≤}
use Rattle.std.specs.Prelude.{pos}
use Rattle.std.proofs.lemmas.List.Elements.{All-cons, All-nil}
use Rattle.sg_logic.specs.declared.gates.GateKind.TheVariants.{Buf}
use Rattle.sg_logic.specs.declared.values.Value.TheVariants.{Zero, One, X}
use Rattle.sg_model.specs.Values.{value_at}
use Rattle.sg_model.specs.Pending.{IsPending}
use Rattle.sg_circuit.specs.declared.nets.Driver.TheVariants as driver
use Rattle.sg_circuit.specs.Circuit.{Circuit, Gate, element_at, net_at}
use Rattle.sim_machine.specs.Simulated.{machine_of}
use Rattle.sim_rounds.specs.Moments.{Fits, Moment, Pending, IsStampOf, computed_last, pending_of, stamp_at}

abbrev buffer : Circuit
buffer = record {
  tick = pos 0;
  nets = record { scope = 0; name = 97 ∷ []; bit = None; driver = driver.Stimulus } ∷ record { scope = 0; name = 98 ∷ []; bit = None; driver = driver.Element 0 } ∷ [];
  elements = record { scope = 0; inputs = 0 ∷ []; output = 1; kind = Gate Buf (4 ∷ []) } ∷ [];
  udps = [];
  checks = [];
  check_timings = [];
  check_conditions = [];
  scopes = [];
  zeroed = [];
}

-- with these transitions pending
abbrev risen : List Pending → Moment
risen pending = record {
  time = 5;
  nets = One ∷ Zero ∷ [];
  stamps = Some (record { time = 5; before = Zero; after = One }) ∷ Some (record { time = 4; before = X; after = Zero }) ∷ [];
  pending = pending;
  udps = [];
  latest = [];
  last = 5;
  evaluations = 3;
}

-- net 1 follows at 9
abbrev rise : Pending
rise = record { driver = 0; time = 9; value = One }

stamped : (net : ℕ) → net < 2 → IsStampOf 5 (net_at buffer net).driver (value_at (risen (rise ∷ [])).nets net) (stamp_at (risen (rise ∷ [])).stamps net)
stamped zero l = (lit≤ tt, refl, λ e. cc)
stamped (suc zero) l = (lit≤ tt, refl, λ e. cc)
stamped (suc (suc net)) l = absurd (omega arith)

in_order : (e : ℕ) → e < 1 → IsPending (pending_of e (rise ∷ [])) (value_at (risen (rise ∷ [])).nets (element_at buffer e).output) 6
in_order zero l = (λ e. cc, tt, lit≤ tt, tt)
in_order (suc e) l = absurd (omega arith)

computed : (e : ℕ) → e < 1
    → (machine_of buffer).value e (One ∷ Zero ∷ []) (One ∷ Zero ∷ []) (computed_last (risen (rise ∷ [])) e (element_at buffer e)) ≡ computed_last (risen (rise ∷ [])) e (element_at buffer e)
computed zero l = refl
computed (suc e) l = absurd (omega arith)

it_fits : Fits buffer (risen (rise ∷ []))
it_fits = record {
  nets = refl;
  stamps = refl;
  drivers = All-cons (λ (p : Pending). p.driver < 1) rise [] (lit< tt) (All-nil (λ (p : Pending). p.driver < 1));
  checks = refl;
  pending = in_order;
  near = All-cons (λ (p : Pending). p.time < 2 ^ 62) rise [] (lit< tt) (All-nil (λ (p : Pending). p.time < 2 ^ 62));
  stamped = stamped;
  latest = tt;
  last = lit≤ tt;
  computed = computed;
  udps = refl;
}

-- with nothing pending the buffer would have computed 0
nothing_pending : Fits buffer (risen []) → ⊥
nothing_pending h = (let e : One ≡ Zero = h.computed 0 (lit< tt) in cc)
