use Rattle.signoff_phases.proofs.GivenWords.{after_first, one_more, all_taken}
use Rattle.signoff_phases.proofs.given.without_first.Goals as goal

pub loop-word-init : goal.loop-word-init
loop-word-init c =
    rw (c.new-words.ensures.items, c.into_iter-word-iterator.ensures.into_iter_gives) (after_first c.args.args c.next.new.self c.next.result c.next.ensures.cases c.next.ensures.items)

pub loop-word-preserved : goal.loop-word-preserved
loop-word-preserved c =
    one_more c.loop-word.word-iterator c.next-in-loop-word.new.self c.loop-word.words.items _ _ c.in-Some.word c.in-Some.ensures.steps c.in_ok-push.ensures.items c.loop-word.invariant

pub returns : goal.returns
returns c = all_taken c.loop-word.word-iterator c.loop-word.words.items _ c.in-None.ensures.steps.0 c.loop-word.invariant
