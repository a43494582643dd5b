-- The timing checks of a module are members of it.
use Rattle.std.specs.Prelude.{◌≡◌, List, [], ◌∷◌, Option, Some, None, filter_map, refl}
use Rattle.std.specs.List.{cons_option}
use Rattle.std.proofs.Common.{sym, ◌∙◌, ap, inl, inr}
use Rattle.vl_tree.specs.Tree.{Check, SpecifyItem, specparams, a_path, pulse_style, a_check, Item, ports, nets, supplies, registers, assigns, gates, instances, specify_block, Module}
use Rattle.elab_model.specs.Members.{check, member_of_item, members_of_item, members}
use Rattle.specify_model.specs.Blocks.{items_of_item, specify_items}
use Rattle.specify_model.specs.Checks.{check_of_item, check_texts}
use Rattle.elab_laws.specs.Words.{In}
use Rattle.elab_laws.proofs.Lists.{from-flat, in-flat}
use Rattle.elab_laws.proofs.Outside.{kept-from}

in-kept : {A B : Type 0} (f : A → Option B) (x : A) (y : B) (xs : List A) → In x xs → f x ≡ Some y → In y (filter_map f xs)
in-kept f x y [] h e = absurd h
in-kept {A} {B} f x y (z ∷ xs) h e = by (f z) refl (λ k. in-kept f x y xs k e)
  where
    by : (o : Option B) → f z ≡ o → (In x xs → In y (filter_map f xs)) → In y (cons_option o (filter_map f xs))
    by None g later = elim h [ inl i ↦ (let c : None ≡ Some y = sym g ∙ ap f (sym i) ∙ e in cc) | inr k ↦ later k ]
    by (Some w) g later = elim h [ inl i ↦ (let c : Some w ≡ Some y = sym g ∙ ap f (sym i) ∙ e in let d : w ≡ y = cc in inl (sym d)) | inr k ↦ inr (later k) ]

item-member : (c : Check) (i : SpecifyItem) → check_of_item i ≡ Some c → member_of_item i ≡ Some (check c)
item-member c (specparams p ps) e = cc
item-member c (a_path p) e = cc
item-member c (pulse_style p s ts) e = cc
item-member c (a_check d) e = let g : d ≡ c = cc in ap (λ d. Some (check d)) g

block-member : (c : Check) (i : SpecifyItem) (item : Item) → In i (items_of_item item) → check_of_item i ≡ Some c → In (check c) (members_of_item item)
block-member c i (ports p d t r ns) h e = absurd h
block-member c i (nets p t r ns) h e = absurd h
block-member c i (supplies p s r ns) h e = absurd h
block-member c i (registers p ns) h e = absurd h
block-member c i (assigns p js) h e = absurd h
block-member c i (gates p g d is) h e = absurd h
block-member c i (instances n d is) h e = absurd h
block-member c i (specify_block b) h e = in-kept member_of_item i (check c) b.items h (item-member c i e)

pub check-member : (m : Module) (c : Check) → In c (check_texts (specify_items m)) → In (check c) (members m)
check-member m c h =
    let k = kept-from check_of_item c (specify_items m) h in
    let r = from-flat items_of_item k.element m.items k.there in
    in-flat members_of_item r.source (check c) m.items r.there (block-member c k.element r.source r.made k.gives)
