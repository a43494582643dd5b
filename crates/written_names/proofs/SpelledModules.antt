-- The modules of a tree that good tokens spell have blocks with spelled conditions.
use Rattle.std.specs.Prelude.{true, List, Option, Some, flat_map, ◌≡◌, IfSome}
use Rattle.std.specs.List.{AllByRecursion}
use Rattle.std.proofs.Common.{subst}
use Rattle.sg_logic.specs.declared.gates.GateKind.{GateKind}
use Rattle.sg_text.specs.declared.places.Place.{Place}
use Rattle.sg_text.specs.declared.words.Keyword.TheVariants as keyword
use Rattle.grammar.specs.Rule.{◌∙∙◌, ◌▸◌, ◌◂◌, mapped}
use Rattle.vl_token.specs.declared.symbols.Symbol.TheVariants.{Semicolon}
use Rattle.vl_token.specs.Tokens.{Lexeme, Settings}
use Rattle.vl_tree.specs.Expressions.{delay, name, names, range}
use Rattle.vl_tree.specs.Items.{assign_item, assign_item_parts, block_item, block_item_parts, direction, gate, gate_instance, gate_item, gate_item_parts, instance, instance_item, instance_item_parts, item, item_parts, join, net_item, net_item_parts, net_name, net_type, port_item, port_item_parts, register_item, register_item_parts, supply, supply_item, supply_item_parts}
use Rattle.vl_tree.specs.Modules.{module_parts, module_rule, module_word, part, part_parts, port_list, source}
use Rattle.vl_tree.specs.Primitives.{primitive}
use Rattle.vl_tree.specs.Rules.{Grammar, either, listed, many, mark, optional, placed, word}
use Rattle.vl_tree.specs.Specify.{block}
use Rattle.vl_tree.specs.Tree as tree
use Rattle.vl_tree.specs.Tree.{Item, Module, Named, Source, SpecifyItem}
use Rattle.vl_tree.specs.declared.names.Direction.{Direction}
use Rattle.vl_tree.specs.declared.names.NetType.{NetType}
use Rattle.vl_tree.specs.declared.names.Range.{Range}
use Rattle.vl_tree.specs.declared.names.Supply.{Supply}
use Rattle.specify_model.specs.Blocks.{items_of_item, path_of_item, specify_items, specify_paths}
use Rattle.specify_model.specs.Checks.{check_of_item, check_texts}
use Rattle.elab_laws.proofs.Lists.{all-flat_in, all-weaker}
use Rattle.elab_laws.proofs.Once.{all-kept}
use Rattle.written_names.proofs.DefinedModules.{OfPart}
use Rattle.written_names.proofs.SpelledBlocks.{IsSpelledCheck, IsSpelledPath, IsSpelledSpecify, block_is}
use Rattle.written_names.proofs.WordLaws.{AreGood}
use Rattle.written_names.proofs.Yields.{Yields, before, behind, made_of, of_either, of_many, of_second}

abbrev IsSpelledItem : Item → Type 0
IsSpelledItem i = AllByRecursion IsSpelledSpecify (items_of_item i)

item_is : (ts : List Lexeme) → AreGood ts → Yields ts IsSpelledItem item
unfolding item_parts port_item_parts net_item_parts supply_item_parts register_item_parts assign_item_parts gate_item_parts block_item_parts instance_item_parts
item_is ts good =
    of_either ts IsSpelledItem port_item (either net_item (either supply_item (either register_item (either assign_item (either gate_item (either block_item instance_item))))))
    (made_of ts IsSpelledItem (λ (x : Place × (Direction × (Option NetType × (Option Range × List Named)))). tree.ports x.0 x.1.0 x.1.1.0 x.1.1.1.0 x.1.1.1.1) (placed (direction ∙∙ (optional net_type ∙∙ (optional range ∙∙ (names ◂ mark Semicolon))))) (λ i j x h. tt))
    (of_either ts IsSpelledItem net_item (either supply_item (either register_item (either assign_item (either gate_item (either block_item instance_item)))))
    (made_of ts IsSpelledItem (λ (x : Place × (NetType × (Option Range × List tree.NetName))). tree.nets x.0 x.1.0 x.1.1.0 x.1.1.1) (placed (net_type ∙∙ (optional range ∙∙ (listed net_name ◂ mark Semicolon)))) (λ i j x h. tt))
    (of_either ts IsSpelledItem supply_item (either register_item (either assign_item (either gate_item (either block_item instance_item))))
    (made_of ts IsSpelledItem (λ (x : Place × (Supply × (Option Range × List Named))). tree.supplies x.0 x.1.0 x.1.1.0 x.1.1.1) (placed (supply ∙∙ (optional range ∙∙ (names ◂ mark Semicolon)))) (λ i j x h. tt))
    (of_either ts IsSpelledItem register_item (either assign_item (either gate_item (either block_item instance_item)))
    (made_of ts IsSpelledItem (λ (x : Place × List Named). tree.registers x.0 x.1) (placed (word keyword.Reg ▸ (names ◂ mark Semicolon))) (λ i j x h. tt))
    (of_either ts IsSpelledItem assign_item (either gate_item (either block_item instance_item))
    (made_of ts IsSpelledItem (λ (x : Place × List tree.Join). tree.assigns x.0 x.1) (placed (word keyword.Assign ▸ (listed join ◂ mark Semicolon))) (λ i j x h. tt))
    (of_either ts IsSpelledItem gate_item (either block_item instance_item)
    (made_of ts IsSpelledItem (λ (x : Place × (GateKind × (Option tree.Delay × List tree.GateInstance))). tree.gates x.0 x.1.0 x.1.1.0 x.1.1.1) (placed (gate ∙∙ (optional delay ∙∙ (listed gate_instance ◂ mark Semicolon)))) (λ i j x h. tt))
    (of_either ts IsSpelledItem block_item instance_item (made_of ts IsSpelledItem tree.specify_block (block true) (block_is ts good true))
    (made_of ts IsSpelledItem (λ (x : Named × (Option tree.Delay × List tree.Instance)). tree.instances x.0 x.1.0 x.1.1) (name ∙∙ (optional delay ∙∙ (listed instance ◂ mark Semicolon))) (λ i j x h. tt))))))))

-- what stands in a module's blocks
abbrev pub IsSpelledModule : Module → Type 0
IsSpelledModule m = AllByRecursion IsSpelledSpecify (specify_items m)

abbrev Later : Type 0
Later = Named × (Option (Option tree.Head) × List Item)

module_is : (ts : List Lexeme) → AreGood ts → Yields ts IsSpelledModule module_rule
unfolding module_parts
module_is ts good =
    made_of ts IsSpelledModule (λ (x : (Place × Settings) × Later). record { place = x.0.0; settings = x.0.1; name = x.1.0; head = x.1.1.0; items = x.1.1.1 }) (module_word ∙∙ (name ∙∙ (optional port_list ∙∙ body)))
    (of_second ts (λ (x : Later). AreItems x.1.1) module_word (name ∙∙ (optional port_list ∙∙ body))
    (of_second ts (λ (x : Option (Option tree.Head) × List Item). AreItems x.1) name (optional port_list ∙∙ body)
    (of_second ts AreItems (optional port_list) body
    (behind ts AreItems (mark Semicolon) (many item ◂ word keyword.EndModule)
    (before ts AreItems (many item) (word keyword.EndModule) (λ i j is h. all-flat_in IsSpelledSpecify items_of_item is (of_many ts IsSpelledItem item (item_is ts good) i j is h)))))))
  where
    AreItems : List Item → Type 0
    AreItems is = AllByRecursion IsSpelledSpecify (flat_map items_of_item is)

    body : Grammar (List Item)
    body = mark Semicolon ▸ (many item ◂ word keyword.EndModule)

part_is : (ts : List Lexeme) → AreGood ts → Yields ts (OfPart IsSpelledModule) part
unfolding part_parts
part_is ts good =
    of_either ts (OfPart IsSpelledModule) (mapped tree.a_module module_rule) (mapped tree.a_primitive primitive) (made_of ts (OfPart IsSpelledModule) tree.a_module module_rule (module_is ts good))
    (made_of ts (OfPart IsSpelledModule) tree.a_primitive primitive (λ i j x h. tt))

pub source_is : (ts : List Lexeme) → AreGood ts → Yields ts (AllByRecursion (OfPart IsSpelledModule)) source
source_is ts good = of_many ts (OfPart IsSpelledModule) part (part_is ts good)

-- ---- its paths and checks

path_of : (i : SpecifyItem) → IsSpelledSpecify i → IfSome (path_of_item i) IsSpelledPath
path_of (tree.specparams p ps) h = tt
path_of (tree.a_path p) h = h
path_of (tree.pulse_style p s ts) h = tt
path_of (tree.a_check c) h = tt

check_of : (i : SpecifyItem) → IsSpelledSpecify i → IfSome (check_of_item i) IsSpelledCheck
check_of (tree.specparams p ps) h = tt
check_of (tree.a_path p) h = tt
check_of (tree.pulse_style p s ts) h = tt
check_of (tree.a_check c) h = h

pub paths_are : (m : Module) → IsSpelledModule m → AllByRecursion IsSpelledPath (specify_paths (specify_items m))
paths_are m h =
    all-kept IsSpelledPath path_of_item (specify_items m)
    (all-weaker IsSpelledSpecify (λ i. (p : tree.SpecifyPath) → path_of_item i ≡ Some p → IsSpelledPath p) (specify_items m) (λ i k p e. subst (λ o. IfSome o IsSpelledPath) e (path_of i k)) h)

pub checks_are : (m : Module) → IsSpelledModule m → AllByRecursion IsSpelledCheck (check_texts (specify_items m))
checks_are m h =
    all-kept IsSpelledCheck check_of_item (specify_items m)
    (all-weaker IsSpelledSpecify (λ i. (c : tree.Check) → check_of_item i ≡ Some c → IsSpelledCheck c) (specify_items m) (λ i k c e. subst (λ o. IfSome o IsSpelledCheck) e (check_of i k)) h)
