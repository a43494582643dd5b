use Rattle.std.proofs.Common.{ap, ◌∙◌, map, option_map, option_and_then, string_bytes, Vec, Global}
use Rattle.run_words.specs.declared.arguments.Argument as code
use Rattle.run_words.specs.Arguments.{arguments_of}
use Rattle.run_words.specs.ArgumentsSeen.{argument_seen}
use Rattle.run_words.proofs.CommandLaws.{if_ok_same, some_read, none_read}
use Rattle.why_words.specs.Words.{asked_from}
use Rattle.why_words.specs.WordsSeen.{asked_seen}
use Rattle.why_words.proofs.words.read_words.Goals as goal

pub returns-in-Some : goal.returns-in-Some
returns-in-Some c =
    let given = some_read (λ (v : Vec code.Argument Global). map argument_seen v.items) c.in_ok-arguments.field-0 c.in-Some.arguments (arguments_of (map string_bytes c.args.words.now))
    c.in_ok-arguments.ensures c.in-Some.is in
    if_ok_same c.asked_from.result (option_map (λ x. asked_seen x)) (asked_from (map argument_seen c.deref.result.now)) (option_and_then asked_from (arguments_of (map string_bytes c.args.words.now)))
    c.asked_from.ensures (ap (λ l. asked_from (map argument_seen l)) c.deref.ensures.value ∙ ap (option_and_then asked_from) given)

pub returns-in-None : goal.returns-in-None
returns-in-None c =
    ap (option_and_then asked_from) (none_read (λ (v : Vec code.Argument Global). map argument_seen v.items) c.in_ok-arguments.field-0 (arguments_of (map string_bytes c.args.words.now))
    c.in_ok-arguments.ensures c.in-None.is)
