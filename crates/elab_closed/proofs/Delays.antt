-- Gates have no more delays than their kinds take, each below the limit, where their delays have no fault; a leg has twelve of none.
use Rattle.std.specs.Prelude.{◌≡◌, ℕ, ◌<◌, ◌≤◌, ◌^◌, List, [], ◌∷◌, All, false, Option, Some, None, length, map, nat_lt, nat_le, replicate, ℤ}
use Rattle.std.specs.List.{AllByRecursion, list_any}
use Rattle.std.proofs.Common.{arith, subst, sym}
use Rattle.std.proofs.lemmas.Bool.{leb-false, ltb-false, or_parts}
use Rattle.std.proofs.lemmas.List.{length-map, length-replicate}
use Rattle.std.proofs.lemmas.List.Elements.{All-from_recursion, All-replicate}
use Rattle.sg_circuit.specs.Timings.{Timing}
use Rattle.sg_circuit.specs.Closed.{AreGateDelays, IsTiming, HasDelays}
use Rattle.sg_delay.specs.declared.corners.Corner.{Corner}
use Rattle.vl_tree.specs.Tree.{Delay, Module}
use Rattle.elab_model.specs.declared.kinds.ElabKind.TheVariants.{BadDelay}
use Rattle.elab_model.specs.Delays.{delays_of, ticks_of}
use Rattle.elab_model.specs.Elements.{leg_kind}
use Rattle.elab_model.specs.TerminalFaults.{delay_faults, delay_limit}
use Rattle.elab_laws.proofs.ElementWidths.{no-fault}

all-under : (limit : ℕ) (ds : List ℕ) → list_any (nat_le limit) ds ≡ false → AllByRecursion (λ d. d < limit) ds
all-under limit [] h = tt
all-under limit (d ∷ ds) h =
    let two = or_parts (nat_le limit d) (list_any (nat_le limit) ds) h in
    (leb-false limit d two.0, all-under limit ds two.1)

pub gate-delays : (most : ℕ) (corner : Corner) (tick : ℤ) (m : Module) (d : Option Delay) → delay_faults most corner tick m d ≡ [] → AreGateDelays most (delays_of corner tick m d)
gate-delays most corner tick m None h = (omega arith, All-from_recursion (λ d. d < 2 ^ 60) [] tt)
gate-delays most corner tick m (Some d) h =
    let ticks = ticks_of corner tick m.settings.scale in
    let two = or_parts (nat_lt most (length d.values)) (list_any (nat_le delay_limit) (map ticks d.values)) (no-fault _ BadDelay d.place h) in
    let few = ltb-false most (length d.values) two.0 in (
      subst (λ n. n ≤ most) (sym (length-map d.values ticks)) few,
      All-from_recursion (λ d. d < 2 ^ 60) (map ticks d.values) (all-under delay_limit (map ticks d.values) two.1),
    )

replicated : (n : ℕ) (t : Timing) → IsTiming t → (length (replicate n t) ≡ n) × All IsTiming (replicate n t)
replicated n t h = (length-replicate n t, All-replicate IsTiming n t h)

pub leg-delays : HasDelays leg_kind
leg-delays = replicated 12 (record { delay = 0; limits = None }) (record { delay = omega arith; ordered = tt; error = tt })
