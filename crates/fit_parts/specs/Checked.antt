-- A bridge, on which no public clause rests: how long the first part is, and what is looked at of a set of names, part by part.
use Rattle.std.specs.Prelude.{ℕ, suc, Bool, true, false, not, ◌||◌, List, [], ◌∷◌, Option, Some, None, if◌then◌else◌}
use Rattle.std.specs.List.{list_all}
use Rattle.vl_tree.specs.Tree.{Item, Part, a_module, a_primitive}
use Rattle.fit_parts.specs.Trees.{used_by_item}

-- how many items there are up to the first for which a test holds, with it
abbrev pub front_len : {A : Type 0} → (A → Bool) → List A → ℕ
front_len test [] = 0
front_len test (x ∷ xs) = if test x then 1 else suc (front_len test xs)

-- whether a set holds what an item uses
abbrev pub item_held : (List ℕ → Bool) → Item → Bool
item_held below i = list_all below (used_by_item i)

-- whether a set holds what a part uses, if it holds the part
abbrev pub closes : (List ℕ → Bool) → Part → Bool
closes below (a_module m) = not (below m.name.text) || list_all (item_held below) m.items
closes below (a_primitive p) = true

-- whether a part has a name, and that is among others if a set holds it
abbrev pub stays_among : (List ℕ → Bool) → (List ℕ → Bool) → Option (List ℕ) → Bool
stays_among defined below None = false
stays_among defined below (Some n) = not (below n) || defined n
