use Rattle.std.proofs.Common.{◌∙◌, ap}
use Rattle.why_text.specs.Finding.{net_called}
use Rattle.why_top.specs.Seen.{task_seen}
use Rattle.why_top.proofs.Answered.{no_net, some_net}
use Rattle.why_top.proofs.answers.net_answer.Goals as goal

pub returns-in_default : goal.returns-in_default
returns-in_default c =
    no_net (task_seen c.args.task.now) c.args.rounds c.args.name.now c.args.time _ c.in_ok-net.field-0 c.unknown_answer.result (c.in_ok-net.ensures.found ∙ ap (net_called c.args.task.now.circuit) c.as_bytes.ensures.value) c.in_default.is c.unknown_answer.ensures

pub returns : goal.returns
returns c =
    some_net (task_seen c.args.task.now) c.args.rounds c.args.name.now c.args.time _ c.in_ok-net.field-0 c.in-Some.net _ c.chain_answer.result (c.in_ok-net.ensures.found ∙ ap (net_called c.args.task.now.circuit) c.as_bytes.ensures.value) c.in-Some.is
    c.in_ok-run.ensures c.chain_answer.ensures
