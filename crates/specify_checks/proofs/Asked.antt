-- The timing checks of a module are members of it.
use Rattle.std.specs.Prelude.{◌≡◌, List, [], ◌∷◌, filter_map}
use Rattle.std.specs.List.{AllByRecursion}
use Rattle.std.proofs.Common.{ap, inl, inr}
use Rattle.vl_tree.specs.Tree.{Check, SpecifyItem, specparams, a_path, pulse_style, a_check, Item, ports, nets, supplies, registers, assigns, gates, instances, specify_block, Module}
use Rattle.elab_laws.specs.Words.{In}
use Rattle.elab_laws.proofs.Lists.{all-from, all-in, from-flat, in-flat}
use Rattle.elab_model.specs.Members.{check, delayed_names, member_of_item, members_of_item, members}
use Rattle.elab_model.specs.Names.{Variable}
use Rattle.elab_lates.specs.declared.copies.ModuleCopies.{ModuleCopies}
use Rattle.specify_model.specs.Blocks.{items_of_item, specify_items}
use Rattle.specify_model.specs.Checks.{check_texts}
use Rattle.specify_checks.specs.Copies.{AreNamed, IsCheckOf, IsReadable}

in-items : (c : Check) (is : List SpecifyItem) → In c (check_texts is) → In (a_check c) is
in-items c [] h = absurd h
in-items c (specparams p ps ∷ is) h = inr (in-items c is h)
in-items c (a_path p ∷ is) h = inr (in-items c is h)
in-items c (pulse_style p s ts ∷ is) h = inr (in-items c is h)
in-items c (a_check k ∷ is) (inl e) = inl (ap a_check e)
in-items c (a_check k ∷ is) (inr h) = inr (in-items c is h)

among-members : (c : Check) (is : List SpecifyItem) → In (a_check c) is → In (check c) (filter_map member_of_item is)
among-members c [] h = absurd h
among-members c (specparams p ps ∷ is) (inl e) = cc
among-members c (specparams p ps ∷ is) (inr h) = among-members c is h
among-members c (a_path p ∷ is) (inl e) = cc
among-members c (a_path p ∷ is) (inr h) = inr (among-members c is h)
among-members c (pulse_style p s ts ∷ is) (inl e) = cc
among-members c (pulse_style p s ts ∷ is) (inr h) = among-members c is h
among-members c (a_check k ∷ is) (inl e) = let s : c ≡ k = cc in inl (ap check s)
among-members c (a_check k ∷ is) (inr h) = inr (among-members c is h)

of-item : (c : Check) (i : Item) → In (a_check c) (items_of_item i) → In (check c) (members_of_item i)
of-item c (ports p d t r ns) h = absurd h
of-item c (nets p t r ns) h = absurd h
of-item c (supplies p s r ns) h = absurd h
of-item c (registers p ns) h = absurd h
of-item c (assigns p js) h = absurd h
of-item c (gates p g d is) h = absurd h
of-item c (instances n d is) h = absurd h
of-item c (specify_block b) h = among-members c b.items h

pub check-there : (m : Module) (c : Check) → In c (check_texts (specify_items m)) → In (check c) (members m)
check-there m c h =
    let r = from-flat items_of_item (a_check c) m.items (in-items c (specify_items m) h) in
    in-flat members_of_item r.source (check c) m.items r.there (of-item c r.source r.made)

pub all-asked : (m : Module) (vs : List Variable) (copies : ModuleCopies) → IsReadable m vs copies → AllByRecursion (IsCheckOf m vs copies) (check_texts (specify_items m))
all-asked m vs copies h =
    all-from (IsCheckOf m vs copies) (check_texts (specify_items m))
    (λ c there. record { ready = h.ready; member = check-there m c there; named = all-in (λ c. AreNamed vs (delayed_names c)) c (check_texts (specify_items m)) h.named there })
