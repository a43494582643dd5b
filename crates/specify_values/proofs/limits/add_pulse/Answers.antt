-- Limits that no path may have, and those of two ports.
use Rattle.std.specs.Prelude.{bytes_eq, ◌&&◌}
use Rattle.std.specs.Option.{option_map}
use Rattle.std.proofs.Common.{sym, ◌∙◌, ap}
use Rattle.indexmap.specs.IndexMap.{get_by}
use Rattle.sg_text.specs.declared.refusals.Refused.TheVariants as refused
use Rattle.elab_model.specs.declared.kinds.ElabKind.TheVariants.{UnknownName, BadDelay}
use Rattle.elab_model.specs.Faults.{fault_if}
use Rattle.elab_declared.proofs.Refusals.{refused-left, refused-right}
use Rattle.specify_model.specs.Faults.{has_no_ends, are_bad_limits}
use Rattle.specify_model.specs.PulseLimits.{limit_ticks}
use Rattle.specify_values.specs.Seen.{ends_seen, measured, view_pulse}
use Rattle.specify_values.proofs.InTurn.{fault-told}
use Rattle.specify_values.proofs.Latest.{named-added, not-for_others, text-there}
use Rattle.specify_values.proofs.PulseFaults.{ends-said, faultless, no-ends-said, no-text-said, others-added, text-empty}
use Rattle.specify_values.proofs.limits.add_pulse.Goals as goal

pub returns-in_default-clause-told : goal.returns-in_default-clause-told
returns-in_default-clause-told c = λ vs are.
    let p = view_pulse c.args.pulse in
    refused-right (fault_if (has_no_ends vs p) UnknownName p.name.place) (fault_if (are_bad_limits (limit_ticks (measured c.args.by) p)) BadDelay p.name.place) (refused.Fault BadDelay p.name.place)
    (fault-told (are_bad_limits (limit_ticks (measured c.args.by) p)) BadDelay p.name.place c.in_default.ensures.bad)

pub returns-clause-limits : goal.returns-clause-limits
returns-clause-limits c = λ vs are.
    let p = view_pulse c.args.pulse in
    record {
      named =
          named-added (measured c.args.by) vs p c.in-Some-2.ends c.in-Some.widths
          (λ q. get_by (λ k. bytes_eq q.0.now k.0.now && bytes_eq q.1.now k.1.now) c.args.limits.now.named) (λ q. get_by (λ k. bytes_eq q.0.now k.0.now && bytes_eq q.1.now k.1.now) c.insert.new.self)
          c.ends_text-text.result.now c.ends_text-text.ensures (ap (option_map ends_seen) (sym c.in-Some-2.is) ∙ c.in_ok-ends.ensures vs are) c.in-Some.ensures.widths c.in_ok-insert.ensures.updates.0;
      others = not-for_others (measured c.args.by) p c.ends_text-text.result.now c.args.limits.now c.ends_text-text.ensures (text-there c.ends_text-text.result.now c.is_empty.result c.is_empty.ensures c.if-is_empty.false);
    }

pub returns-then-is_empty-clause-limits : goal.returns-then-is_empty-clause-limits
returns-then-is_empty-clause-limits c = λ vs are.
    let p = view_pulse c.args.pulse in
    others-added vs p c.ends_text-text.result.now c.ends_text-text.ensures (measured c.args.by) c.in-Some.widths c.args.limits.now
    (text-empty c.ends_text-text.result.now c.is_empty.result c.is_empty.ensures c.if-is_empty.true) c.in-Some.ensures.widths

pub returns-then-is_empty-clause-told : goal.returns-then-is_empty-clause-told
returns-then-is_empty-clause-told c = λ vs are.
    let p = view_pulse c.args.pulse in
    faultless (measured c.args.by) vs p
    (no-text-said vs p c.ends_text-text.result.now c.ends_text-text.ensures (text-empty c.ends_text-text.result.now c.is_empty.result c.is_empty.ensures c.if-is_empty.true)) c.in-Some.ensures.sound

pub returns-in_default-2-clause-told : goal.returns-in_default-2-clause-told
returns-in_default-2-clause-told c = λ vs are.
    let p = view_pulse c.args.pulse in
    refused-left (fault_if (has_no_ends vs p) UnknownName p.name.place) (fault_if (are_bad_limits (limit_ticks (measured c.args.by) p)) BadDelay p.name.place) (refused.Fault UnknownName p.name.place)
    (fault-told (has_no_ends vs p) UnknownName p.name.place
    (no-ends-said vs p c.ends_text-text.result.now c.ends_text-text.ensures (text-there c.ends_text-text.result.now c.is_empty.result c.is_empty.ensures c.if-is_empty.false)
    (ap (option_map ends_seen) (sym c.in_default-2.is) ∙ c.in_ok-ends.ensures vs are)))

pub returns-clause-told : goal.returns-clause-told
returns-clause-told c = λ vs are.
    let p = view_pulse c.args.pulse in
    faultless (measured c.args.by) vs p
    (ends-said vs p c.ends_text-text.result.now c.ends_text-text.ensures (ends_seen c.in-Some-2.ends)
    (ap (option_map ends_seen) (sym c.in-Some-2.is) ∙ c.in_ok-ends.ensures vs are))
    c.in-Some.ensures.sound
