-- The events and nets of which chains are told.
use Rattle.std.specs.Prelude.{◌≡◌, ℕ, ◌<◌, Option, Some, None, IfSome, length, option_map}
use Rattle.std.proofs.Common.{sym, subst}
use Rattle.sg_model.specs.Machine.{Violation}
use Rattle.sg_circuit.specs.declared.checks.Event as check
use Rattle.sg_circuit.specs.Circuit.{Circuit}
use Rattle.sg_circuit.specs.Closed.{IsClosed, IsEventOf}
use Rattle.why_causes.specs.declared.changes.Candidate.{Candidate}
use Rattle.why_causes.specs.declared.events.Event.{Event}
use Rattle.why_causes.specs.Waveform.{Waveform, last_before}
use Rattle.why_causes.proofs.WithinLaws.{last-of-in, Is}
use Rattle.why_text.specs.Lines.{timing_at}
use Rattle.why_text.specs.Parting.{datum_net, net_or, refer_net}

abbrev candidate : ℕ × Event → Candidate
candidate e = record { input = 0; number = e.0; event = e.1 }

-- the last event of a net is one of the run's
pub last_within : (w : Waveform) (net time : ℕ) (e : ℕ × Event) → Some e ≡ last_before w net time → e.0 < length w.events
last_within w net time e is =
    let h : IfSome (option_map (λ (x : ℕ × Event). candidate x) (last_before w net time)) (Is (length w.events) time) = last-of-in w time (0, net) in
    (subst (λ o. IfSome (option_map (λ (x : ℕ × Event). candidate x) o) (Is (length w.events) time)) (sym is) h).0

-- the nets of a check are nets of the circuit
pub refer_within : (c : Circuit) (v : Violation) → IsClosed c → v.check < length c.check_timings → refer_net c v < length c.nets
refer_within c v closed l = (closed.check_timings v.check _ l).refer.net

net_within : (nets net : ℕ) (o : Option check.Event) → net < nets → IfSome o (λ e. IsEventOf nets e) → net_or net o < nets
net_within nets net None l h = l
net_within nets net (Some e) l h = h.net

pub datum_within : (c : Circuit) (v : Violation) → IsClosed c → v.check < length c.check_timings → datum_net c v < length c.nets
datum_within c v closed l = net_within (length c.nets) (refer_net c v) (timing_at c v.check).datum (refer_within c v closed l) (closed.check_timings v.check _ l).datum
