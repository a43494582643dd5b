-- What it is that a netlist's files are taken, and that no rule concerns them.
use Rattle.std.specs.Prelude.{◌≡◌, ℕ, Bool, true, false, not, ◌||◌, List, length, Ok, bytes_eq}
use Rattle.std.specs.List.{list_all, list_any}
use Rattle.vl_lex.specs.Lexes.{Lexes}
use Rattle.vl_token.specs.Tokens.{Lexeme}
use Rattle.vl_tree.specs.Modules.{source}
use Rattle.vl_tree.specs.Tree.{Item, ports, nets, supplies, registers, assigns, gates, instances, specify_block, Module, Part, a_module, a_primitive, Source}

-- The texts of a netlist's files have tokens, which spell a tree.
pub record IsTreeOf (texts : List (List ℕ)) (tree : Source) : Type 0 where
  pub tokens : List Lexeme
  pub are_tokens : Lexes texts (Ok tokens)
  pub are_tree : source.language.Spells tokens 0 tree (length tokens)

-- they are taken
abbrev pub IsAccepted : List (List ℕ) → Type 0
IsAccepted texts = (tree : Source) × IsTreeOf texts tree

-- ---- cells without a hierarchy

abbrev pub is_module_of : List ℕ → Part → Bool
is_module_of n (a_module m) = bytes_eq n m.name.text
is_module_of n (a_primitive p) = false

-- whether a name is that of a module
abbrev pub is_module : Source → List ℕ → Bool
is_module tree n = list_any (is_module_of n) tree

abbrev pub is_specify : Item → Bool
is_specify (ports p d t r ns) = false
is_specify (nets p t r ns) = false
is_specify (supplies p s r ns) = false
is_specify (registers p ns) = false
is_specify (assigns p js) = false
is_specify (gates p g d is) = false
is_specify (instances n d is) = false
is_specify (specify_block b) = true

-- whether an item has no instance of a module
abbrev pub is_leaf : (List ℕ → Bool) → Item → Bool
is_leaf of_module (ports p d t r ns) = true
is_leaf of_module (nets p t r ns) = true
is_leaf of_module (supplies p s r ns) = true
is_leaf of_module (registers p ns) = true
is_leaf of_module (assigns p js) = true
is_leaf of_module (gates p g d is) = true
is_leaf of_module (instances n d is) = not (of_module n.text)
is_leaf of_module (specify_block b) = true

-- a module that is a cell (IEEE 1364-2005, 19.1) or has a specify block
abbrev pub is_cell : Module → Bool
is_cell m = m.settings.cell || list_any is_specify m.items

-- a part is no such module, or has no instance of a module
abbrev pub is_flat_part : (List ℕ → Bool) → Part → Bool
is_flat_part of_module (a_module m) = not (is_cell m) || list_all (is_leaf of_module) m.items
is_flat_part of_module (a_primitive p) = true

abbrev pub is_flat : Source → Bool
is_flat tree = list_all (is_flat_part (is_module tree)) tree

-- No rule concerns the files: they are taken, and no cell has an instance of a module.
pub record IsInside (texts : List (List ℕ)) : Type 0 where
  pub tree : Source
  pub is_tree : IsTreeOf texts tree
  pub flat : is_flat tree ≡ true
