-- What is so of every circuit: its parts fit together.
use Rattle.std.specs.Prelude.{◌≡◌, ◌↔◌, ℕ, ℤ, pos, ◌+◌, ◌<◌, ◌≤◌, ◌^◌, ◌≤ℤ◌, ◌-ℤ◌, nat_abs, unsigned_abs, true, All, List, [], ◌∷◌, length, Option, Some, None, IfSome, IsSome, slice_index_or}
use Rattle.sg_logic.specs.Gate.{TakesInputs as GateTakes, most_delays}
use Rattle.sg_circuit.specs.declared.nets.Driver.{Driver}
use Rattle.sg_circuit.specs.declared.nets.Driver.TheVariants as driver
use Rattle.sg_circuit.specs.declared.scopes.Range.{Range}
use Rattle.sg_logic.specs.declared.edges.Edge.{Edge}
use Rattle.sg_circuit.specs.declared.checks.Check.{Check}
use Rattle.sg_circuit.specs.declared.checks.Event.{Event}
use Rattle.sg_circuit.specs.declared.checks.CheckTiming.{CheckTiming}
use Rattle.sg_circuit.specs.declared.checks.CheckKind.{CheckKind}
use Rattle.sg_circuit.specs.declared.checks.CheckKind.TheVariants.{Width, Period, Setuphold, Recrem}
use Rattle.sg_circuit.specs.declared.checks.Zero.{Zero}
use Rattle.cond_expr.specs.Values.{AreBelow}
use Rattle.sg_circuit.specs.Timings.{Timing}
use Rattle.sg_circuit.specs.Paths as specify
use Rattle.sg_circuit.specs.Circuit.{Circuit, Kind, Gate, Udp, Pass, Leg, Path, Late, net_at, element_at, scope_at}
use Rattle.sg_circuit.specs.Signals.{takes_lates, AreShort}

-- so many inputs an element of a kind has (IEEE 1364-2005, 6.1, 7.2, 7.3, 8.1)
abbrev pub TakesInputs : Kind → ℕ → Type 0
TakesInputs (Gate kind delays) n = GateTakes kind n
TakesInputs (Udp primitive first delays) n = n ≡ primitive.inputs
TakesInputs (Pass None) n = n ≡ 1
TakesInputs (Pass (Some value)) n = n ≡ 0
TakesInputs (Leg timings) n = n ≡ 1
TakesInputs (Path paths style) n = n ≡ 1
TakesInputs (Late delay) n = n ≡ 1

-- delays of a gate, in ticks: so many at most (7.14, 8.6)
abbrev pub AreGateDelays : ℕ → List ℕ → Type 0
AreGateDelays most delays = (length delays ≤ most) × All (λ d. d < 2 ^ 60) delays

-- a delay and limits, in ticks: below 2^60, and what is lost is at most as long as what becomes x (14.6)
pub record IsTiming (t : Timing) : Type 0 where
  pub delay : t.delay < 2 ^ 60
  pub ordered : IfSome t.limits (λ l. l.0 ≤ l.1)
  pub error : IfSome t.limits (λ l. l.1 < 2 ^ 60)

-- a timing for each of the twelve transitions (14.3)
abbrev pub AreTimings : List Timing → Type 0
AreTimings timings = (length timings ≡ 12) × All IsTiming timings

-- the delays that an element of a kind has (7.14, 8.6, 14.2)
abbrev pub HasDelays : Kind → Type 0
HasDelays (Gate kind delays) = AreGateDelays (most_delays kind) delays
HasDelays (Udp primitive first delays) = AreGateDelays 2 delays
HasDelays (Pass constant) = Unit {0}
HasDelays (Leg timings) = AreTimings timings
HasDelays (Path paths style) = All (λ p. AreTimings p.timings) paths
HasDelays (Late delay) = delay < 2 ^ 60

-- the nets of a path's condition are among so many
abbrev pub ReadsNets : ℕ → specify.PathCondition → Type 0
ReadsNets nets specify.Always = Unit {0}
ReadsNets nets (specify.If written bound) = AreBelow nets bound
ReadsNets nets specify.IfNone = Unit {0}

-- the nets that a path names are among so many
pub record IsPathOf (nets : ℕ) (p : specify.Path) : Type 0 where
  pub input : p.input < nets
  pub condition : ReadsNets nets p.condition

-- the nets that a kind names, which the element doesn't read as inputs, are among so many
abbrev pub NamesNets : ℕ → Kind → Type 0
NamesNets nets (Gate kind delays) = Unit {0}
NamesNets nets (Udp primitive first delays) = Unit {0}
NamesNets nets (Pass constant) = Unit {0}
NamesNets nets (Leg timings) = Unit {0}
NamesNets nets (Path paths style) = All (IsPathOf nets) paths
NamesNets nets (Late delay) = Unit {0}

-- so many specify paths lead to an output's bit at the most
abbrev pub HasFewPaths : Kind → Type 0
HasFewPaths (Path paths style) = length paths < 2 ^ 31
HasFewPaths _ = Unit {0}

-- how many bits a variable has (4.3.1)
abbrev pub width_of : Option Range → ℕ
width_of None = 1
width_of (Some r) = nat_abs (r.left -ℤ r.right) + 1

-- an element that drives a net, if one does
abbrev pub IfElement : Driver → (ℕ → Type 0) → Type 0
IfElement driver.Nobody P = Unit {0}
IfElement driver.Stimulus P = Unit {0}
IfElement (driver.Element e) P = P e
IfElement driver.Notifier P = Unit {0}

-- all checks but those of one event have a data event (15.2, 15.3)
abbrev pub HasDatum : CheckKind → Type 0
HasDatum Width = ⊥
HasDatum Period = ⊥
HasDatum _ = Unit {0}

-- and these have an edge (15.3.4, 15.3.5)
abbrev pub HasEdge : CheckKind → Option Edge → Type 0
HasEdge Width edge = IsSome edge
HasEdge Period edge = IsSome edge
HasEdge _ edge = Unit {0}

-- how many limits a check has (15.2, 15.3)
abbrev pub limit_count : CheckKind → ℕ
limit_count Setuphold = 2
limit_count Recrem = 2
limit_count _ = 1

-- where it has one, the second of the two that are kept is 0
abbrev pub HasLimits : CheckKind → List ℤ → Type 0
HasLimits Setuphold limits = Unit {0}
HasLimits Recrem limits = Unit {0}
HasLimits _ limits = slice_index_or limits 1 (pos 0) ≡ pos 0

-- the net of a check's event, and those of its condition, are among so many
pub record IsEventOf (nets : ℕ) (e : Event) : Type 0 where
  pub net : e.net < nets
  pub condition : IfSome e.condition (λ c. AreBelow nets c)

-- what a check looks for: the events that its kind asks for, limits in ticks whose sizes are below 2^60, and such a threshold
pub record IsCheckTiming (nets : ℕ) (t : CheckTiming) : Type 0 where
  pub refer : IsEventOf nets t.refer
  pub datum : IfSome t.datum (λ e. IsEventOf nets e)
  pub has_datum : IsSome t.datum ↔ HasDatum t.kind
  pub has_edge : HasEdge t.kind t.refer.edge
  pub limits : All (λ l. unsigned_abs l < 2 ^ 60) t.limits
  pub second : HasLimits t.kind t.limits
  pub threshold : t.threshold < 2 ^ 60

-- a net that the timing checks alone drive (15.5)
pub record IsNotifier (c : Circuit) (n : ℕ) : Type 0 where
  pub within : n < length c.nets
  pub driven : (net_at c n).driver ≡ driver.Notifier

-- the checks that see delayed signals (15.8)
abbrev pub TakesLates : CheckKind → Type 0
TakesLates kind = takes_lates kind ≡ true

abbrev pub IsLate : Kind → Type 0
IsLate (Late delay) = Unit {0}
IsLate _ = ⊥

-- an element is a delayed copy of a net
pub record IsLateOf (c : Circuit) (net e : ℕ) : Type 0 where
  pub within : e < length c.elements
  pub kind : IsLate (element_at c e).kind
  pub input : (element_at c e).inputs ≡ net ∷ []

-- a check's two Lates copy the nets of its reference and of its data event
pub record AreLatesOf (c : Circuit) (t : CheckTiming) (lates : List ℕ) : Type 0 where
  pub refer : IsLateOf c t.refer.net (slice_index_or lates 0 0)
  pub datum : IfSome t.datum (λ d. IsLateOf c d.net (slice_index_or lates 1 0))

-- exactly the kinds that take limits below 0 have them
pub record HasLates (c : Circuit) (t : CheckTiming) : Type 0 where
  pub exact : IsSome t.late ↔ TakesLates t.kind
  pub lates : IfSome t.late (λ lates. AreLatesOf c t lates)

-- a limit that is taken as 0 is one of the two of a check that has Lates
pub record IsZeroOf (c : Circuit) (z : Zero) : Type 0 where
  pub check : z.check < length c.check_timings
  pub late : (d : CheckTiming) → IsSome (slice_index_or c.check_timings z.check d).late
  pub part : z.part < 2

pub record IsClosed (c : Circuit) : Type 0 where
  pub few_nets : length c.nets < 2 ^ 31
  pub few_elements : length c.elements < 2 ^ 31
  pub few_checks : length c.checks < 2 ^ 31
  pub few_scopes : length c.scopes < 2 ^ 31
  -- scopes stand after their parents
  pub parents : (s : ℕ) → s < length c.scopes → IfSome (scope_at c s).parent (λ p. p < s)
  -- each number is one of a part
  pub net_scopes : All (λ n. n.scope < length c.scopes) c.nets
  pub element_scopes : All (λ e. e.scope < length c.scopes) c.elements
  pub check_scopes : All (λ k. k.scope < length c.scopes) c.checks
  pub bits : All (λ s. All (λ v. All (λ n. n < length c.nets) v.bits) s.variables) c.scopes
  pub inputs : All (λ e. All (λ n. n < length c.nets) e.inputs) c.elements
  pub outputs : All (λ e. e.output < length c.nets) c.elements
  pub paths : All (λ e. NamesNets (length c.nets) e.kind) c.elements
  -- an element's output names it as its driver, and a net's driver drives it
  pub named : (e : ℕ) → e < length c.elements → (net_at c (element_at c e).output).driver ≡ driver.Element e
  pub drivers : (n : ℕ) → n < length c.nets → IfElement (net_at c n).driver (λ e. (e < length c.elements) × ((element_at c e).output ≡ n))
  -- what each kind asks for
  pub takes_inputs : All (λ e. TakesInputs e.kind (length e.inputs)) c.elements
  pub has_delays : All (λ e. HasDelays e.kind) c.elements
  pub few_paths : All (λ e. HasFewPaths e.kind) c.elements
  pub widths : All (λ s. All (λ v. length v.bits ≡ width_of v.range) s.variables) c.scopes
  pub datums : All (λ k. IsSome k.datum ↔ HasDatum k.kind) c.checks
  -- each check looks for something, of its own kind, and its conditions are spelled in some way
  pub timing_of_each : length c.check_timings ≡ length c.checks
  pub conditions_of_each : length c.check_conditions ≡ length c.checks
  pub check_kinds : (k : ℕ) (d : Check) (e : CheckTiming) → k < length c.checks → (slice_index_or c.checks k d).kind ≡ (slice_index_or c.check_timings k e).kind
  pub check_timings : All (IsCheckTiming (length c.nets)) c.check_timings
  pub notifiers : All (λ k. IfSome k.notifier (λ n. IsNotifier c n)) c.checks
  -- no scope is finer than the tick (19.8)
  pub scales : All (λ s. c.tick ≤ℤ s.precision) c.scopes
  -- delayed signals are those of the checks, and limits are taken as 0 there alone (15.8)
  pub lates : All (HasLates c) c.check_timings
  pub short : (scope : ℕ) → AreShort c.checks c.check_timings scope
  pub zeroed : All (IsZeroOf c) c.zeroed
