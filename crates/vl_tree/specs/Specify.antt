-- The grammar of specify blocks (IEEE 1364-2005, clause 14 and annex A.7.1). A rule is limited, or takes lists of delays of any
-- length and fills the arguments of checks that may not be filled: so a reader tells why it refuses a block.
use Rattle.std.specs.Prelude.{Bool, ◌||◌}
use Rattle.sg_text.specs.declared.words.Keyword.TheVariants as keyword
use Rattle.grammar.specs.Rule.{◌∙∙◌, ◌▸◌, ◌◂◌, mapped, named, no_kind}
use Rattle.vl_token.specs.declared.symbols.Symbol.TheVariants.{Semicolon}
use Rattle.vl_tree.specs.declared.specify.PulseStyle.{PulseStyle}
use Rattle.vl_tree.specs.declared.specify.PulseStyle.TheVariants.{OnEvent, OnDetect, NoShowCancelled}
use Rattle.vl_tree.specs.Amounts.{specparam}
use Rattle.vl_tree.specs.Checks.{check}
use Rattle.vl_tree.specs.Kinds.{Kind, is_check, is_word}
use Rattle.vl_tree.specs.Paths.{terms, path, path_starts}
use Rattle.vl_tree.specs.Rules.{Grammar, word, mark, placed, either, many, listed}
use Rattle.vl_tree.specs.Tree.{SpecifyItem, specparams, a_path, pulse_style, a_check, SpecifyBlock}

-- "specparam" specparam { "," specparam } ";"
unfoldable pub specparam_item_parts : Grammar SpecifyItem
specparam_item_parts = mapped (λ x. specparams x.0 x.1) (placed (word keyword.SpecParam ▸ (listed specparam ◂ mark Semicolon)))

abbrev pub specparam_item : Grammar SpecifyItem
specparam_item = named (is_word keyword.SpecParam) no_kind specparam_item_parts

-- path ";"
unfoldable pub path_item_parts : Bool → Grammar SpecifyItem
path_item_parts limited = mapped a_path (path limited ◂ mark Semicolon)

abbrev pub path_item : Bool → Grammar SpecifyItem
path_item limited = named path_starts no_kind (path_item_parts limited)

-- "pulsestyle_onevent" | "pulsestyle_ondetect" | "noshowcancelled"
unfoldable pub style_parts : Grammar PulseStyle
style_parts =
    either (mapped (λ _. OnEvent) (word keyword.PulseStyleOnEvent)) (either (mapped (λ _. OnDetect) (word keyword.PulseStyleOnDetect)) (mapped (λ _. NoShowCancelled) (word keyword.NoShowCancelled)))

abbrev pub style_starts : Kind → Bool
style_starts k = is_word keyword.PulseStyleOnEvent k || (is_word keyword.PulseStyleOnDetect k || is_word keyword.NoShowCancelled k)

abbrev pub style : Grammar PulseStyle
style = named style_starts no_kind style_parts

-- style terms ";"
unfoldable pub style_item_parts : Grammar SpecifyItem
style_item_parts = mapped (λ x. pulse_style x.0 x.1.0 x.1.1) (placed (style ∙∙ (terms ◂ mark Semicolon)))

abbrev pub style_item : Grammar SpecifyItem
style_item = named style_starts no_kind style_item_parts

-- check ";"
unfoldable pub check_item_parts : Bool → Grammar SpecifyItem
check_item_parts limited = mapped a_check (check limited ◂ mark Semicolon)

abbrev pub check_item : Bool → Grammar SpecifyItem
check_item limited = named is_check no_kind (check_item_parts limited)

-- one of these: no item begins with showcancelled
unfoldable pub specify_item_parts : Bool → Grammar SpecifyItem
specify_item_parts limited = either specparam_item (either (path_item limited) (either style_item (check_item limited)))

abbrev pub specify_item_starts : Kind → Bool
specify_item_starts k = is_word keyword.SpecParam k || (path_starts k || (style_starts k || is_check k))

abbrev pub specify_item : Bool → Grammar SpecifyItem
specify_item limited = named specify_item_starts no_kind (specify_item_parts limited)

-- block = "specify" { item } "endspecify"
unfoldable pub block_parts : Bool → Grammar SpecifyBlock
block_parts limited = mapped (λ x. record { place = x.0; items = x.1 }) (placed (word keyword.Specify ▸ (many (specify_item limited) ◂ word keyword.EndSpecify)))

abbrev pub block : Bool → Grammar SpecifyBlock
block limited = named (is_word keyword.Specify) no_kind (block_parts limited)
