-- The names that have instances.
use Rattle.std.specs.Prelude.{◌≡◌, ℕ, ◌+◌, ◌<◌, List, [], ◌∷◌, ◌++◌, Bool, true, false, ◌||◌, Option, Some, None, map, filter_map, flat_map, length, slice_index_or, refl, bytes_eq, if◌then◌else◌}
use Rattle.std.specs.Borrow.{Bor}
use Rattle.std.specs.List.{list_any, cons_option}
use Rattle.std.proofs.Common.{sym, ◌∙◌, ap, arith, take, append-nil}
use Rattle.std.proofs.Math.Bool.{or-false, or_assoc}
use Rattle.std.proofs.lemmas.List.{map-append, take_more}
use Rattle.std.proofs.lemmas.List.Folds.{list_any-append}
use Rattle.sg_logic.specs.declared.gates.GateKind.{GateKind}
use Rattle.sg_logic.specs.declared.values.Value.{Value}
use Rattle.vl_tree.specs.declared.items.Item as code_item
use Rattle.vl_tree.specs.declared.items.Instance as code_instance
use Rattle.vl_tree.specs.declared.modules.Part as code_part
use Rattle.vl_tree.specs.Seen.{view_instance, view_item, view_part}
use Rattle.vl_tree.specs.Tree.{Named, NetName, Join, Expression, GateInstance, SpecifyItem, specparams, a_path, pulse_style, a_check, Item, Delay, a_module, a_primitive, Source}
use Rattle.elab_model.specs.Members.{assignment, supply, gate, instance, assignment_to, member_of_item, members, members_of_item}
use Rattle.elab_model.specs.Tops.{has_instance, is_instance_of}
use Rattle.elab_declared.specs.Words.{is_seen}
use Rattle.elab_declared.proofs.Again.{put-in}
use Rattle.elab_hierarchy.specs.Tops.{part_has}

-- ---- members of no instance

pub nets-unused : (n : List ℕ) (ns : List NetName) → list_any (is_instance_of n) (filter_map (λ m. assignment_to m.name m.value) ns) ≡ false
nets-unused n [] = refl
nets-unused n (m ∷ ns) = by m.value (nets-unused n ns)
  where
    by : (e : Option Expression) → list_any (is_instance_of n) (filter_map (λ m. assignment_to m.name m.value) ns) ≡ false
        → list_any (is_instance_of n) (cons_option (assignment_to m.name e) (filter_map (λ m. assignment_to m.name m.value) ns)) ≡ false
    by None h = h
    by (Some e) h = h

pub supplies-unused : (n : List ℕ) (v : Value) (ns : List Named) → list_any (is_instance_of n) (map (λ m. supply m v) ns) ≡ false
supplies-unused n v [] = refl
supplies-unused n v (m ∷ ns) = supplies-unused n v ns

pub assigns-unused : (n : List ℕ) (js : List Join) → list_any (is_instance_of n) (map assignment js) ≡ false
assigns-unused n [] = refl
assigns-unused n (j ∷ js) = assigns-unused n js

pub gates-unused : (n : List ℕ) (g : GateKind) (d : Option Delay) (is : List GateInstance) → list_any (is_instance_of n) (map (gate g d) is) ≡ false
gates-unused n g d [] = refl
gates-unused n g d (i ∷ is) = gates-unused n g d is

pub paths-unused : (n : List ℕ) (is : List SpecifyItem) → list_any (is_instance_of n) (filter_map member_of_item is) ≡ false
paths-unused n [] = refl
paths-unused n (specparams p ps ∷ is) = paths-unused n is
paths-unused n (a_path p ∷ is) = paths-unused n is
paths-unused n (pulse_style p s ts ∷ is) = paths-unused n is
paths-unused n (a_check c ∷ is) = paths-unused n is

-- ---- members of an item

abbrev pub uses : List ℕ → code_item.Item → Bool
uses n i = list_any (is_instance_of n) (members_of_item (view_item i))

pub instances-used : (n : List ℕ) (m : Named) (d : Option Delay) (is : List code_instance.Instance)
    → list_any (λ i. bytes_eq n m.text) is ≡ list_any (is_instance_of n) (map (instance m d) (map view_instance is))
instances-used n m d [] = refl
instances-used n m d (i ∷ is) = ap (λ b. bytes_eq n m.text || b) (instances-used n m d is)

-- the names after an item are those before, and those that it uses
abbrev pub AddsUsed : List (Bor (List ℕ)) → List (Bor (List ℕ)) → (List ℕ → Bool) → Type 0
AddsUsed before after f = (n : List ℕ) → is_seen n after ≡ (is_seen n before || f n)

pub item-used : (before after : List (Bor (List ℕ))) (i v : code_item.Item) (f : List ℕ → Bool) → i ≡ v → ((n : List ℕ) → f n ≡ uses n v) → AddsUsed before after f → AddsUsed before after (λ n. uses n i)
item-used before after i v f e h k n = k n ∙ ap (λ b. is_seen n before || b) (h n ∙ ap (uses n) (sym e))

pub item-unused : (keys : List (Bor (List ℕ))) (i v : code_item.Item) → i ≡ v → ((n : List ℕ) → uses n v ≡ false) → AddsUsed keys keys (λ n. uses n i)
item-unused keys i v e h n = sym (or-false (is_seen n keys)) ∙ ap (λ b. is_seen n keys || b) (sym (ap (uses n) e ∙ h n))

-- one name, where there is an instance
any-same : (b : Bool) (i : code_instance.Instance) (is : List code_instance.Instance) → list_any (λ j. b) (i ∷ is) ≡ (b || false)
any-same true i is = refl
any-same false i [] = refl
any-same false i (j ∷ is) = any-same false j is

pub name-used : (before after : List (Bor (List ℕ))) (k : Bor (List ℕ)) (is : List code_instance.Instance) → 0 < length is
    → after ≡ (if is_seen k.now before then before else before ++ k ∷ []) → AddsUsed before after (λ n. list_any (λ i. bytes_eq n k.now) is)
name-used before after k [] lt e n = absurd (omega arith)
name-used before after k (i ∷ is) lt e n = put-in n before after k e ∙ ap (λ b. is_seen n before || b) (sym (any-same (bytes_eq n k.now) i is))

pub name-unused : (keys : List (Bor (List ℕ))) (k : List ℕ) (is : List code_instance.Instance) → length is ≡ 0 → AddsUsed keys keys (λ n. list_any (λ i. bytes_eq n k) is)
name-unused keys k [] e n = sym (or-false (is_seen n keys))
name-unused keys k (i ∷ is) e n = absurd (omega arith)

-- ---- items and definitions, one after another

pub items-none : (keys : List (Bor (List ℕ))) → AddsUsed keys keys (λ n. false)
items-none keys n = sym (or-false (is_seen n keys))

pub item-more : (start keys after : List (Bor (List ℕ))) (items : List code_item.Item) (d : code_item.Item) (k : ℕ) → k < length items
    → AddsUsed keys after (λ n. uses n (slice_index_or items k d))
    → AddsUsed start keys (λ n. list_any (is_instance_of n) (flat_map members_of_item (map view_item (take k items))))
    → AddsUsed start after (λ n. list_any (is_instance_of n) (flat_map members_of_item (map view_item (take (k + 1) items))))
item-more start keys after items d k lt one h n =
    one n ∙ ap (λ b. b || uses n (slice_index_or items k d)) (h n) ∙ or_assoc (is_seen n start) _ _
    ∙ ap (λ b. is_seen n start || b)
    (sym (ap (λ is. list_any (is_instance_of n) (flat_map members_of_item (map view_item is))) (take_more items k d lt)
    ∙ ap (λ is. list_any (is_instance_of n) (flat_map members_of_item is)) (map-append view_item (take k items) (slice_index_or items k d ∷ []))
    ∙ flat-more n (map view_item (take k items)) (view_item (slice_index_or items k d))))
  where
    flat-more : (n : List ℕ) (is : List Item) (i : Item) → list_any (is_instance_of n) (flat_map members_of_item (is ++ i ∷ [])) ≡ (list_any (is_instance_of n) (flat_map members_of_item is) || list_any (is_instance_of n) (members_of_item i))
    flat-more n [] i = ap (list_any (is_instance_of n)) (append-nil (members_of_item i))
    flat-more n (j ∷ is) i =
        list_any-append (is_instance_of n) (members_of_item j) (flat_map members_of_item (is ++ i ∷ []))
        ∙ ap (λ b. list_any (is_instance_of n) (members_of_item j) || b) (flat-more n is i)
        ∙ sym (or_assoc (list_any (is_instance_of n) (members_of_item j)) (list_any (is_instance_of n) (flat_map members_of_item is)) (list_any (is_instance_of n) (members_of_item i)))
        ∙ ap (λ b. b || list_any (is_instance_of n) (members_of_item i)) (sym (list_any-append (is_instance_of n) (members_of_item j) (flat_map members_of_item is)))

-- the first k definitions use these names
abbrev pub PartsUse : List (Bor (List ℕ)) → List code_part.Part → ℕ → Type 0
PartsUse keys parts k = (n : List ℕ) → is_seen n keys ≡ list_any (part_has n) (map view_part (take k parts))

pub part-more : (keys after : List (Bor (List ℕ))) (parts : List code_part.Part) (d : code_part.Part) (k : ℕ) → k < length parts
    → AddsUsed keys after (λ n. part_has n (view_part (slice_index_or parts k d))) → PartsUse keys parts k → PartsUse after parts (k + 1)
part-more keys after parts d k lt one h n =
    one n ∙ ap (λ b. b || part_has n (view_part (slice_index_or parts k d))) (h n)
    ∙ ap (λ b. list_any (part_has n) (map view_part (take k parts)) || b) (sym (or-false (part_has n (view_part (slice_index_or parts k d)))))
    ∙ sym (ap (λ ps. list_any (part_has n) (map view_part ps)) (take_more parts k d lt)
    ∙ ap (list_any (part_has n)) (map-append view_part (take k parts) (slice_index_or parts k d ∷ []))
    ∙ list_any-append (part_has n) (map view_part (take k parts)) (view_part (slice_index_or parts k d) ∷ []))

-- the definitions' word for it
pub has-instance : (n : List ℕ) (source : Source) → list_any (part_has n) source ≡ has_instance source n
has-instance n [] = refl
has-instance n (a_module m ∷ ps) = ap (λ b. list_any (is_instance_of n) (members m) || b) (has-instance n ps)
has-instance n (a_primitive p ∷ ps) = has-instance n ps
