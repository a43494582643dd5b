use Rattle.std.proofs.Common.{map, option_map}
use Rattle.run_words.specs.ArgumentsSeen.{argument_seen}
use Rattle.why_words.specs.WordsSeen.{asked_seen}
use Rattle.why_words.proofs.WordLaws.{sound_asked, unsound_asked}
use Rattle.why_words.proofs.words.asked_from.Goals as goal

pub returns-then-are_sound : goal.returns-then-are_sound
returns-then-are_sound c =
    sound_asked (map (λ n. n.now) c.options.result.now) (map argument_seen c.args.arguments.now) (map (λ n. n.now) c.in_ok-netlists.netlists.items) (option_map (λ x. asked_seen x) c.asked_with.result) c.are_sound.result
    c.options.ensures c.are_sound.ensures c.if-are_sound.true c.in_ok-netlists.ensures c.asked_with.ensures

pub returns : goal.returns
returns c = unsound_asked (map (λ n. n.now) c.options.result.now) (map argument_seen c.args.arguments.now) c.are_sound.result c.options.ensures c.are_sound.ensures c.if-are_sound.false
