-- How a leg's and a path's values are placed, by the numbers that the code reckons with.
use Rattle.std.specs.Prelude.{◌≡◌, ℕ, ◌+◌, ◌<◌, ◌^◌, All, List, length, Option}
use Rattle.std.proofs.Common.{sym, ap, subst, ◌∙◌}
use Rattle.std.proofs.lemmas.List.Elements.{All-weaker}
use Rattle.cond_expr.specs.Condition.{Condition}
use Rattle.sg_delay.specs.declared.limits.PulseStyle.{PulseStyle}
use Rattle.sg_logic.specs.declared.values.Value.{Value}
use Rattle.sg_model.specs.Pending.{pending_after, OnEvent}
use Rattle.sg_model.specs.Machine.{Stamp}
use Rattle.sg_model.specs.Round.{placed_by}
use Rattle.pulse_list.specs.Seen.{style_seen}
use Rattle.sg_circuit.specs.Closed.{IsTiming, AreTimings, IsPathOf}
use Rattle.sg_circuit.specs.PathsSeen.{path_seen, paths_seen, spanned, AreIndexedPaths}
use Rattle.sg_circuit.specs.Timings.{Timing}
use Rattle.sg_circuit.specs.TimingsSeen.{timings_at}
use Rattle.sg_circuit.specs.declared.elements.LegTiming.{LegTiming}
use Rattle.sg_circuit.specs.declared.paths.Path.{Path}
use Rattle.sg_circuit.specs.declared.paths.Span.{Span}
use Rattle.sg_circuit.proofs.PathLaws.{path_was}
use Rattle.sg_circuit.proofs.SeenLaws.{all-unmapped}
use Rattle.path_pick.specs.Choice.{picked}
use Rattle.path_pick.specs.Pass.{pulse_by}
use Rattle.path_pick.specs.Within.{AreNear, IsPathWithin}
use Rattle.path_pick.specs.declared.picking.Picked.{Picked}
use Rattle.path_pick.specs.declared.pulses.Pulse.{Pulse}
use Rattle.sim_machine.specs.Simulated.{leg_rule, path_rule}

-- timings are near
pub are_near : (timings : List Timing) → AreTimings timings → AreNear timings
are_near timings h = All-weaker IsTiming (λ t. t.delay < 2 ^ 60) (λ t k. k.delay) timings h.1

pub leg_placed : (pulse : Pulse) (timing : Timing) (list : List (ℕ × Value)) (present : Value) (now : ℕ) (v : Value) → pulse ≡ pulse_by timing
    → pending_after list present now v (now + pulse.delay) pulse.reject pulse.error OnEvent ≡ placed_by (leg_rule now timing) list present now v
leg_placed pulse timing list present now v e = ap (λ (p : Pulse). pending_after list present now v (now + p.delay) p.reject p.error OnEvent) e

pub path_placed : (result wanted : Picked) (style : PulseStyle) (list : List (ℕ × Value)) (present : Value) (now : ℕ) (v : Value) → result ≡ wanted
    → pending_after list present now v result.time result.reject result.error (style_seen style) ≡ placed_by (path_rule style wanted) list present now v
path_placed result wanted style list present now v e = ap (λ p. placed_by (path_rule style p) list present now v) e

-- what is picked of the tables as the code reads them
pub picked_is : (conditions : List Condition) (timings ts : List LegTiming) (paths xs : List Path) (values : List Value) (stamps : List (Option Stamp)) (now : ℕ) (from last to : Value) (result : Picked) → ts ≡ timings → xs ≡ paths → from ≡ last
    → result ≡ picked (paths_seen conditions ts xs) values stamps now from to → result ≡ picked (paths_seen conditions timings paths) values stamps now last to
picked_is conditions timings ts paths xs values stamps now from last to result e f g h =
    h
    ∙ (ap (λ x. picked (paths_seen conditions x xs) values stamps now from to) e
    ∙ (ap (λ x. picked (paths_seen conditions timings x) values stamps now from to) f
    ∙ ap (λ x. picked (paths_seen conditions timings paths) values stamps now x to) g))

-- the paths of an element's span are what a choice of path asks for
pub paths_within : (conditions : List Condition) (timings : List LegTiming) (table : List Path) (span : Span) (nets : ℕ) (xs : List Path) → xs ≡ spanned table span
    → AreIndexedPaths (length conditions) (length timings) table span → All (λ p. AreTimings p.timings) (paths_seen conditions timings (spanned table span)) → All (IsPathOf nets) (paths_seen conditions timings (spanned table span))
    → All (λ p. IsPathWithin nets timings p) xs
paths_within conditions timings table span nets xs e indexed delays named =
    let all : List Path = spanned table span in
    let near : All (λ (p : Path). AreTimings (timings_at timings p.timing)) all = all-unmapped (λ p. AreTimings p.timings) (path_seen conditions timings) all delays in
    let of : All (λ (p : Path). IsPathOf nets (path_seen conditions timings p)) all = all-unmapped (IsPathOf nets) (path_seen conditions timings) all named in
    subst (λ ys. All (λ p. IsPathWithin nets timings p) ys) (sym e)
    (λ k d l. record {
      condition = (path_was conditions timings nets _ (of k d l)).condition;
      timing = (indexed.each k d l).timing;
      near = are_near _ (near k d l);
    })

pub inputs_within : (nets stamps : ℕ) (timings : List LegTiming) (conditions : List Condition) (table : List Path) (span : Span) (xs : List Path) → xs ≡ spanned table span → stamps ≡ nets
    → All (IsPathOf nets) (paths_seen conditions timings (spanned table span)) → All (λ (p : Path). p.input < stamps) xs
inputs_within nets stamps timings conditions table span xs e same named =
    let of : All (λ (p : Path). IsPathOf nets (path_seen conditions timings p)) (spanned table span) = all-unmapped (IsPathOf nets) (path_seen conditions timings) (spanned table span) named in
    let at_nets : All (λ (p : Path). p.input < nets) (spanned table span) = λ k d l. (of k d l).input in
    subst (λ ys. All (λ (p : Path). p.input < stamps) ys) (sym e) (subst (λ n. All (λ (p : Path). p.input < n) (spanned table span)) (sym same) at_nets)
