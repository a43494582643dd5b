use Rattle.std.proofs.Common.{map, string_bytes}
use Rattle.fit_words.specs.Arguments.{arguments_before}
use Rattle.fit_words.proofs.ArgumentLaws.{takes_first}
use Rattle.fit_words.proofs.arguments.read_before.Goals as goal

pub loop-left-preserved : goal.loop-left-preserved
loop-left-preserved c =
    takes_first string_bytes (arguments_before (map string_bytes c.args.words.now)) c.loop-left.arguments.items c.push.new.self.items c.in-Some.argument c.loop-left.left.now c.word-item.result c.as_str.result.now
    (map string_bytes c.in-Some.rest.now) c.in-len1-up.len_at_least c.word-item.is c.as_str.ensures.value c.loop-left.invariant c.in-Some.ensures c.in_ok-push.ensures.items
