use Rattle.std.proofs.Common.{◌-◌, ◌∙◌, sym, ap, map, take, drop, length, option_map, string_bytes, Some}
use Rattle.run_words.specs.Words.{asked_after}
use Rattle.run_words.specs.WordsSeen.{asked_seen}
use Rattle.run_words.proofs.CommandLaws.{subcommand_first}
use Rattle.run_words.proofs.words.read_subcommand.Goals as goal

pub returns-in_default-2 : goal.returns-in_default-2
returns-in_default-2 c =
    let words = c.args.words.now in
    let rest = map string_bytes (take (length words - 1) (drop 1 words)) in
    sym (ap (option_map (λ x. asked_seen x)) c.in_default-2.is) ∙ c.in_ok-ruled.ensures ∙ ap (asked_after rest) (sym c.in-Some.is ∙ c.subcommand_of.ensures)
    ∙ subcommand_first string_bytes words c.first-item.result c.as_str.result.now c.in-len1-up.len_at_least c.first-item.is c.as_str.ensures.value

pub returns : goal.returns
returns c =
    let words = c.args.words.now in
    let rest = map string_bytes (take (length words - 1) (drop 1 words)) in
    ap (λ a. Some a) c.agreed.ensures ∙ sym (ap (option_map (λ x. asked_seen x)) c.in-Some-2.is) ∙ c.in_ok-ruled.ensures ∙ ap (asked_after rest) (sym c.in-Some.is ∙ c.subcommand_of.ensures)
    ∙ subcommand_first string_bytes words c.first-item.result c.as_str.result.now c.in-len1-up.len_at_least c.first-item.is c.as_str.ensures.value
