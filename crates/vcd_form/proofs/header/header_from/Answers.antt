-- One section more, and the end of the header.
use Rattle.std.proofs.Common.{arith, ap, length, length-append, [], ◌∷◌}
use Rattle.std.proofs.lemmas.Result.{err_from_is_err_and}
use Rattle.vcd_form.specs.Places.{read_at}
use Rattle.vcd_form.specs.Seen.{came_seen}
use Rattle.vcd_form.specs.Words.{words}
use Rattle.vcd_form.proofs.HeaderLaws.{begins, ends, kept, none_stands, section_fails, section_step, smaller, start_stops}
use Rattle.vcd_form.proofs.PlaceLaws.{between_first}
use Rattle.vcd_form.proofs.header.header_from.Goals as goal

pub more-init : goal.more-init
more-init c = record { completes = begins c.args.text.now c.new-sections.result.items c.new-sections.ensures.items; between = between_first c.args.text.now; few = omega arith }

pub more-smaller : goal.more-smaller
more-smaller c =
    let step = section_step c.args.text.now (came_seen c.more.came) (read_at c.args.text.now c.more.at) _ c.in-Some.section c.in-Some.next c.in-Some.is c.in_ok-section.ensures in
    smaller (words c.args.text.now) (came_seen c.more.came) (read_at c.args.text.now c.more.at) _ (read_at c.args.text.now c.in-Some.next) step.0 step.1

pub more-preserved : goal.more-preserved
more-preserved c =
    let step = section_step c.args.text.now (came_seen c.more.came) (read_at c.args.text.now c.more.at) _ c.in-Some.section c.in-Some.next c.in-Some.is c.in_ok-section.ensures in
    record {
      completes = kept (words c.args.text.now) c.more.sections.items _ (came_seen c.more.came) _ (read_at c.args.text.now c.more.at) c.in-Some.section (read_at c.args.text.now c.in-Some.next) c.in_ok-push.ensures.items c.came_after-came.ensures.came step.0 step.1 c.more.invariant.completes;
      between = step.2;
      few = omega (arith, c.came_after-came.ensures.few, c.more.invariant.few, ap length c.in_ok-push.ensures.items, length-append c.more.sections.items (c.in-Some.section ∷ []));
    }

pub returns-in_err-section : goal.returns-in_err-section
returns-in_err-section c =
    let p = err_from_is_err_and c.from_residual.result c.from_residual.ensures.1 in
    rw (p.1, p.2) (section_fails c.args.text.now c.more.sections.items (came_seen c.more.came) (read_at c.args.text.now c.more.at) c.in_err-section.field-0.0 c.in_err-section.ensures c.more.invariant.completes)

pub returns-in_err-byte : goal.returns-in_err-byte
returns-in_err-byte c =
    let p = err_from_is_err_and c.from_residual-in_err-byte.result c.from_residual-in_err-byte.ensures.1 in
    let none = none_stands c.args.text.now (came_seen c.more.came) (read_at c.args.text.now c.more.at) _ c.in_default.is c.in_ok-section.ensures in
    rw (p.1, p.2) (start_stops c.args.text.now c.more.sections.items (came_seen c.more.came) (read_at c.args.text.now c.more.at) c.in_err-byte.field-0.0 none c.in_err-byte.ensures c.more.invariant.completes)

pub returns : goal.returns
returns c =
    let none = none_stands c.args.text.now (came_seen c.more.came) (read_at c.args.text.now c.more.at) _ c.in_default.is c.in_ok-section.ensures in
    (ends c.args.text.now c.more.sections.items (came_seen c.more.came) (read_at c.args.text.now c.more.at) c.in_ok-byte.byte (read_at c.args.text.now c.in_ok-byte.behind) none c.in_ok-byte.ensures.0 c.more.invariant.completes, c.in_ok-byte.ensures.1)
