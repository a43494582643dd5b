-- Each rule of specify blocks is read exactly.
use Rattle.std.proofs.Common.{Bool, refl}
use Rattle.sg_text.specs.declared.words.Keyword.TheVariants as keyword
use Rattle.vl_token.specs.declared.symbols.Symbol.TheVariants.{Semicolon}
use Rattle.vl_tree.specs.Specify.{specparam_item_parts, specparam_item, path_item_parts, path_item, style_parts, style, style_item_parts, style_item, check_item_parts, check_item, specify_item_parts, specify_item, block_parts, block}
use Rattle.vl_tree.proofs.AllKinds.{apart, is_within}
use Rattle.vl_tree.proofs.Building.{IsExact, the_word, the_mark, then, made, behind, before, called, with_place, or, repeated, with_commas}
use Rattle.vl_tree.proofs.AmountsExact.{specparam-exact}
use Rattle.vl_tree.proofs.ChecksExact.{check-exact}
use Rattle.vl_tree.proofs.PathsExact.{terms-exact, path-exact}

pub specparam_item-exact : IsExact specparam_item
unfolding specparam_item_parts
specparam_item-exact =
    let all = before (with_commas specparam-exact refl (apart _ _ refl)) (the_mark Semicolon) (apart _ _ refl) in
    called _ _ (made _ (with_place (behind (the_word keyword.SpecParam) all (apart _ _ refl)) refl)) refl (is_within _ _ refl) (is_within _ _ refl)

pub path_item-exact : (limited : Bool) → IsExact (path_item limited)
unfolding path_item_parts
path_item-exact limited = called _ _ (made _ (before (path-exact limited) (the_mark Semicolon) (apart _ _ refl))) refl (is_within _ _ refl) (is_within _ _ refl)

pub style-exact : IsExact style
unfolding style_parts
style-exact =
    let others = or (made _ (the_word keyword.PulseStyleOnDetect)) (made _ (the_word keyword.NoShowCancelled)) refl refl (apart _ _ refl) in
    called _ _ (or (made _ (the_word keyword.PulseStyleOnEvent)) others refl refl (apart _ _ refl)) refl (is_within _ _ refl) (is_within _ _ refl)

pub style_item-exact : IsExact style_item
unfolding style_item_parts
style_item-exact = called _ _ (made _ (with_place (then style-exact (before terms-exact (the_mark Semicolon) (apart _ _ refl)) (apart _ _ refl)) refl)) refl (is_within _ _ refl) (is_within _ _ refl)

pub check_item-exact : (limited : Bool) → IsExact (check_item limited)
unfolding check_item_parts
check_item-exact limited = called _ _ (made _ (before (check-exact limited) (the_mark Semicolon) (apart _ _ refl))) refl (is_within _ _ refl) (is_within _ _ refl)

pub specify_item-exact : (limited : Bool) → IsExact (specify_item limited)
unfolding specify_item_parts
specify_item-exact limited =
    let last = or style_item-exact (check_item-exact limited) refl refl (apart _ _ refl) in
    let others = or (path_item-exact limited) last refl refl (apart _ _ refl) in
    called _ _ (or specparam_item-exact others refl refl (apart _ _ refl)) refl (is_within _ _ refl) (is_within _ _ refl)

pub block-exact : (limited : Bool) → IsExact (block limited)
unfolding block_parts
block-exact limited =
    let items = before (repeated (specify_item-exact limited) refl (apart _ _ refl)) (the_word keyword.EndSpecify) (apart _ _ refl) in
    called _ _ (made _ (with_place (behind (the_word keyword.Specify) items (apart _ _ refl)) refl)) refl (is_within _ _ refl) (is_within _ _ refl)
