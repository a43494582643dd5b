use Rattle.std.proofs.Common.{ap, arith, length, map}
use Rattle.vl_lex.specs.Seen.{texts}
use Rattle.fit_changes.specs.Lines.{line_seen}
use Rattle.fit_words.specs.WordsSeen.{asked_seen}
use Rattle.fit_sdf.specs.Counts.{count_seen}
use Rattle.fit_top.specs.Work.{answer_seen, input_seen}
use Rattle.fit_top.proofs.Answered.{changed_by, faulty_by, no_bytes}
use Rattle.fit_top.proofs.answers.sdf_answer.Goals as goal

pub returns-then-len-eq0 : goal.returns-then-len-eq0
returns-then-len-eq0 c =
    changed_by answer_seen (asked_seen c.args.asked.now) (map input_seen c.args.sdf.now) c.right_answer.result (texts c.args.fitted.texts.items) (map line_seen c.args.fitted.lines.items) c.in_ok-files.files.list.items (map count_seen c.in_ok-files.files.counts.items) c.in_ok-files.files.faults.items
    c.in_ok-files.ensures.fitted (no_bytes c.in_ok-files.files.faults.items (omega (arith, c.len.ensures, c.in_ok-files.files.faults.ok.0, c.if-len-eq0.true))) c.in_ok-files.ensures.counted c.right_answer.ensures

pub returns-else-len-eq0 : goal.returns-else-len-eq0
returns-else-len-eq0 c =
    faulty_by answer_seen (asked_seen c.args.asked.now) (map input_seen c.args.sdf.now) c.refusal.result (texts c.args.fitted.texts.items) (map line_seen c.args.fitted.lines.items) c.in_ok-files.files.list.items c.in_ok-files.files.faults.items
    c.in_ok-files.ensures.fitted (λ e. c.if-len-eq0.false (omega (arith, c.len.ensures, c.in_ok-files.files.faults.ok.0, ap length e))) c.refusal.ensures
