-- A specify block beside an instance of a module.
use Rattle.std.specs.Prelude.{◌≡◌, ℕ, ◌+◌, List, [], ◌∷◌, Bool, true, false, not, ◌||◌, Option, Some, None, is_some, map, filter_map, refl, if◌then◌else◌}
use Rattle.std.specs.List.{IsAmong, cons_option, enumerate_from, list_any}
use Rattle.std.proofs.Common.{sym, ◌∙◌, ap, arith, subst}
use Rattle.sg_text.specs.declared.places.Place.{Place}
use Rattle.sg_text.specs.declared.refusals.Refused.TheVariants as refused
use Rattle.vl_tree.specs.Tree.{Instance, Item, Module, Source}
use Rattle.elab_model.specs.declared.kinds.ElabKind.TheVariants.{SpecifyInHierarchy}
use Rattle.elab_model.specs.Definitions.{module_of}
use Rattle.elab_model.specs.Faults.{fault, RefusesOneOf}
use Rattle.elab_model.specs.Hierarchy.{Child, child_of, child_of_member, children_in, is_empty}
use Rattle.elab_model.specs.Members.{Member, assignment, supply, gate, instance, path, check, members}
use Rattle.specify_model.specs.Blocks.{block_of}
use Rattle.specify_model.specs.Faults.{blocks_in_hierarchy}
use Rattle.elab_declared.specs.Words.{first_of}
use Rattle.elab_variables.specs.Seen.{view_member}
use Rattle.elab_variables.specs.declared.member_list.Member as code_member
use Rattle.elab_paths.specs.OfModules.{is_child}

-- ---- the instances of modules among members

-- its number doesn't matter
child-numbered : (o : Option Module) (k : ℕ) (i : Instance) → is_some (child_of o k i) ≡ is_some o
child-numbered None k i = refl
child-numbered (Some m) k i = refl

any-number : (source : Source) (k : ℕ) (x : Member) → is_some (child_of_member source k x) ≡ is_child source x
any-number source k (assignment j) = refl
any-number source k (supply n v) = refl
any-number source k (gate g d i) = refl
any-number source k (path p) = refl
any-number source k (check c) = refl
any-number source k (instance n d i) = child-numbered (module_of source n.text) k i ∙ sym (child-numbered (module_of source n.text) 0 i)

-- there is one, or the module has no child
any-child : (source : Source) (a : ℕ) (xs : List Member) → not (is_empty (filter_map (λ i. child_of_member source i.0 i.1) (enumerate_from a xs))) ≡ list_any (is_child source) xs
any-child source a [] = refl
any-child source a (x ∷ xs) = by (child_of_member source a x) (any-number source a x) (any-child source (a + 1) xs)
  where
    by : (o : Option Child) → is_some o ≡ is_child source x → not (is_empty (filter_map (λ i. child_of_member source i.0 i.1) (enumerate_from (a + 1) xs))) ≡ list_any (is_child source) xs
        → not (is_empty (cons_option o (filter_map (λ i. child_of_member source i.0 i.1) (enumerate_from (a + 1) xs)))) ≡ (is_child source x || list_any (is_child source) xs)
    by None e rest = rest ∙ ap (λ b. b || list_any (is_child source) xs) e
    by (Some c) e rest = ap (λ b. b || list_any (is_child source) xs) e

any-seen : (source : Source) (xs : List code_member.Member) → list_any (λ x. is_child source (view_member x)) xs ≡ list_any (is_child source) (map view_member xs)
any-seen source [] = refl
any-seen source (x ∷ xs) = ap (λ b. is_child source (view_member x) || b) (any-seen source xs)

pub has-child : (source : Source) (m : Module) (xs : List code_member.Member) (test : Bool) → map view_member xs ≡ members m → test ≡ list_any (λ x. is_child source (view_member x)) xs
    → is_empty (children_in source m) ≡ not test
has-child source m xs test are is =
    flip (is_empty (children_in source m)) test (any-child source 0 (members m) ∙ ap (list_any (is_child source)) (sym are) ∙ sym (any-seen source xs) ∙ sym is)
  where
    flip : (a b : Bool) → not a ≡ b → a ≡ not b
    flip true b e = let f : b ≡ false = sym e in ap not (sym f)
    flip false b e = let f : b ≡ true = sym e in ap not (sym f)

-- ---- what is refused

abbrev pub places_among : List Item → List Place
places_among items = map (λ b. b.place) (filter_map block_of items)

abbrev pub block_places : Module → List Place
block_places m = places_among m.items

pub no-child : (source : Source) (m : Module) → is_empty (children_in source m) ≡ true → map (fault SpecifyInHierarchy) (blocks_in_hierarchy source m) ≡ []
no-child source m e = ap (λ b. map (fault SpecifyInHierarchy) (if b then [] else block_places m)) e

pub block-refused : (source : Source) (m : Module) (place : Place) → first_of (block_places m) ≡ Some place → is_empty (children_in source m) ≡ false
    → RefusesOneOf (map (fault SpecifyInHierarchy) (blocks_in_hierarchy source m)) (refused.Fault SpecifyInHierarchy place)
block-refused source m place first e = subst (λ b. IsAmong (map (fault SpecifyInHierarchy) (if b then [] else block_places m)) (fault SpecifyInHierarchy place)) (sym e) (by (block_places m) first)
  where
    by : (ps : List Place) → first_of ps ≡ Some place → IsAmong (map (fault SpecifyInHierarchy) ps) (fault SpecifyInHierarchy place)
    by [] f = cc
    by (p ∷ ps) f = let g : place ≡ p = cc in (0, (omega arith, ap (fault SpecifyInHierarchy) g))
