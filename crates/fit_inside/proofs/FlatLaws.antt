-- Cells without a hierarchy, as the code looks at them.
use Rattle.std.specs.Prelude.{◌≡◌, ℕ, Bool, true, false, not, ◌||◌, List, [], ◌∷◌, map, refl}
use Rattle.std.specs.List.{list_all, list_any}
use Rattle.std.proofs.Common.{◌∙◌, ap, sym}
use Rattle.std.proofs.lemmas.List.Folds.{list_all-map}
use Rattle.vl_tree.specs.Seen.{view_item, view_module, view_part}
use Rattle.vl_tree.specs.declared.items.Item as code_item
use Rattle.vl_tree.specs.declared.modules.Module as code_module
use Rattle.vl_tree.specs.declared.modules.Part as code_part
use Rattle.vl_tree.specs.declared.modules.Part.TheVariants as part
use Rattle.fit_inside.specs.Inside.{is_cell, is_flat, is_flat_part, is_leaf, is_module, is_specify}

any-seen : (items : List code_item.Item) → list_any (λ i. is_specify (view_item i)) items ≡ list_any is_specify (map view_item items)
any-seen [] = refl
any-seen (i ∷ is) = ap (λ b. is_specify (view_item i) || b) (any-seen is)

-- a module that is marked as no cell
pub unmarked : (m : code_module.Module) (items : List code_item.Item) (b : Bool) → m.mark.cell ≡ false → items ≡ m.items.items → b ≡ list_any (λ i. is_specify (view_item i)) items → b ≡ is_cell (view_module m)
unmarked m items b none same e =
    e ∙ any-seen items ∙ ap (λ is. list_any is_specify (map view_item is)) same ∙ ap (λ c. c || list_any is_specify (map view_item m.items.items)) (sym none)

-- a cell
pub of-cell : (of_module : List ℕ → Bool) (p : code_part.Part) (m : code_module.Module) (items : List code_item.Item) (cell b : Bool) → p ≡ part.Module m → cell ≡ is_cell (view_module m) → cell ≡ true
    → items ≡ m.items.items → b ≡ list_all (λ i. is_leaf of_module (view_item i)) items → b ≡ is_flat_part of_module (view_part p)
of-cell of_module p m items cell b is e held same all =
    let n : not (is_cell (view_module m)) ≡ false = ap not (sym e ∙ held) in
    all ∙ sym (list_all-map (is_leaf of_module) view_item items) ∙ ap (λ is. list_all (is_leaf of_module) (map view_item is)) same
    ∙ ap (λ x. x || list_all (is_leaf of_module) (map view_item m.items.items)) (sym n) ∙ ap (λ q. is_flat_part of_module (view_part q)) (sym is)

pub flat-of : (kept : List ℕ → Bool) (parts one two : List code_part.Part) (b : Bool) → one ≡ parts → two ≡ parts → ((n : List ℕ) → kept n ≡ is_module (map view_part one) n)
    → b ≡ list_all (λ p. is_flat_part kept (view_part p)) two → b ≡ is_flat (map view_part parts)
flat-of kept parts one two b o t k e =
    let f : kept ≡ is_module (map view_part parts) = λ i n. (k n ∙ ap (λ ps. is_module (map view_part ps) n) o) i in
    e ∙ ap (list_all (λ p. is_flat_part kept (view_part p))) t ∙ sym (list_all-map (is_flat_part kept) view_part parts) ∙ ap (λ g. list_all (is_flat_part g) (map view_part parts)) f
