-- All that is promised of a netlist's fitting.
use Rattle.std.proofs.Common.{map}
use Rattle.fit_words.specs.WordsSeen.{asked_seen}
use Rattle.fit_top.proofs.Asking.{asks-same, fitted-for}
use Rattle.fit_top.proofs.fitting.fit_known.Goals as goal

pub returns-in-Ok : goal.returns-in-Ok
returns-in-Ok c =
    fitted-for (asked_seen c.args.asked.now) (map (λ t. t.items) c.args.texts.now) c.in-Ok.fitted _ _ c.wishes.ensures.top
    (asks-same c.given.result c.wishes.result (asked_seen c.args.asked.now) c.given.ensures c.wishes.ensures.supplies c.wishes.ensures.dropped c.wishes.ensures.checks)
    c.in-Ok.ensures.fitted c.in-Ok.ensures.unchanged
