-- What is put for specify blocks spells them.
use Rattle.std.proofs.Common.{Bool, refl}
use Rattle.sg_text.specs.declared.words.Keyword.TheVariants as keyword
use Rattle.grammar.specs.Rule.{◌◂◌}
use Rattle.vl_token.specs.declared.symbols.Symbol.TheVariants.{Semicolon}
use Rattle.vl_token.specs.Tokens.{word_token}
use Rattle.vl_tree.specs.declared.specify.PulseStyle.TheVariants.{OnEvent, OnDetect, NoShowCancelled}
use Rattle.vl_tree.specs.Amounts.{specparam}
use Rattle.vl_tree.specs.Checks.{check}
use Rattle.vl_tree.specs.Kinds.{is_word}
use Rattle.vl_tree.specs.Paths.{terms, path}
use Rattle.vl_tree.specs.Rules.{word, mark, listed, many}
use Rattle.vl_tree.specs.Specify.{specparam_item_parts, specparam_item, path_item_parts, path_item, style_parts, style, style_item_parts, style_item, check_item_parts, check_item, specify_item_parts, specify_item, block_parts, block}
use Rattle.vl_print.specs.SpecifyPrinting.{put_specparam, put_terms, put_path, put_check, put_style, put_specify_item, put_block}
use Rattle.vl_tree.specs.Tree.{a_path, a_check}
use Rattle.vl_tree.proofs.AllKinds.{apart}
use Rattle.vl_tree.proofs.AmountsExact.{specparam-exact}
use Rattle.vl_print.proofs.AmountsPrinted.{specparam_prints}
use Rattle.vl_tree.proofs.Building.{repeated, with_commas}
use Rattle.vl_tree.proofs.ChecksExact.{check-exact}
use Rattle.vl_print.proofs.ChecksPrinted.{check_prints}
use Rattle.vl_tree.proofs.Lists.{comma_specparam}
use Rattle.vl_tree.proofs.PathsExact.{terms-exact, path-exact}
use Rattle.vl_print.proofs.PathsPrinted.{terms_prints, path_prints}
use Rattle.vl_print.proofs.Printed.{Prints, PrintsAt, mapped_prints, either_prints, many_prints, placed_prints, listed_prints, before_mark, before_word, word_comes_first, word_first, first_prints, either_first}
use Rattle.vl_tree.proofs.SpecifyExact.{style-exact, specify_item-exact}

specparam_item_prints : Prints specparam_item.language put_specify_item
unfolding specparam_item_parts
specparam_item_prints =
    let all = before_mark Semicolon (listed specparam) _ (with_commas specparam-exact refl (apart _ _ refl)) (listed_prints specparam put_specparam specparam-exact comma_specparam specparam_prints) in
    placed_prints _ _ _ put_specify_item (word_comes_first keyword.SpecParam (listed specparam ◂ mark Semicolon).language _ all) (λ x out. refl)

path_item_prints : (limited : Bool) → Prints (path_item limited).language put_specify_item
unfolding path_item_parts
path_item_prints limited = mapped_prints a_path _ _ put_specify_item (before_mark Semicolon (path limited) put_path (path-exact limited) (path_prints limited)) (λ x out. refl)

style_first : PrintsAt style.language put_style
unfolding style_parts
style_first =
    either_first _ _ put_style (word_first (is_word keyword.PulseStyleOnEvent) (word_token keyword.PulseStyleOnEvent) OnEvent put_style refl (λ p out. refl))
    (either_first _ _ put_style
    (word_first (is_word keyword.PulseStyleOnDetect) (word_token keyword.PulseStyleOnDetect) OnDetect put_style refl (λ p out. refl))
    (word_first (is_word keyword.NoShowCancelled) (word_token keyword.NoShowCancelled) NoShowCancelled put_style refl (λ p out. refl)))

style_item_prints : Prints style_item.language put_specify_item
unfolding style_item_parts
style_item_prints = placed_prints _ _ _ put_specify_item (first_prints style (terms ◂ mark Semicolon).language _ _ style-exact refl style_first (before_mark Semicolon terms put_terms terms-exact terms_prints)) (λ x out. refl)

check_item_prints : (limited : Bool) → Prints (check_item limited).language put_specify_item
unfolding check_item_parts
check_item_prints limited = mapped_prints a_check _ _ put_specify_item (before_mark Semicolon (check limited) put_check (check-exact limited) (check_prints limited)) (λ x out. refl)

specify_item_prints : (limited : Bool) → Prints (specify_item limited).language put_specify_item
unfolding specify_item_parts
specify_item_prints limited =
    either_prints _ _ put_specify_item specparam_item_prints (either_prints _ _ put_specify_item (path_item_prints limited) (either_prints _ _ put_specify_item style_item_prints (check_item_prints limited)))

pub block_prints : (limited : Bool) → Prints (block limited).language put_block
unfolding block_parts
block_prints limited =
    let items = before_word keyword.EndSpecify (many (specify_item limited)) _ (repeated (specify_item-exact limited) refl (apart _ _ refl)) (many_prints (specify_item limited) put_specify_item (specify_item-exact limited) (specify_item_prints limited)) in
    placed_prints _ _ _ put_block (word_comes_first keyword.Specify (many (specify_item limited) ◂ word keyword.EndSpecify).language _ items) (λ x out. refl)
