-- The bits to which specify paths lead are bits of variables of their module.
use Rattle.std.specs.Prelude.{List, [], ◌∷◌, filter_map, flat_map, map, zip}
use Rattle.std.specs.List.{AllByRecursion}
use Rattle.vl_tree.specs.declared.paths.Arrow.{Arrow}
use Rattle.vl_tree.specs.declared.paths.Arrow.TheVariants.{Parallel, Full}
use Rattle.vl_tree.specs.Tree.{Term, Module}
use Rattle.elab_model.specs.Bits.{Bit, net, constant, bits}
use Rattle.elab_model.specs.Ends.{ends, all_ends}
use Rattle.elab_model.specs.Homes.{is_output}
use Rattle.elab_model.specs.Members.{Member, assignment, supply, gate, instance, path, check, members}
use Rattle.elab_model.specs.Names.{Variable, variable, variables}
use Rattle.elab_model.specs.Terms.{NetBit, net_bit, expression_of, term_bits, terms_bits, pairs, path_pairs}
use Rattle.elab_laws.proofs.Filters.{all-filter}
use Rattle.elab_laws.proofs.Lists.{all-flat, all-map}
use Rattle.elab_laws.proofs.Places.{HasBit, IsBitOf, bits-below}

-- a variable has the bit
abbrev pub HasNetBit : List Variable → NetBit → Type 0
HasNetBit vs b = HasBit vs b.name b.position

pub net-bits : (vs : List Variable) (bs : List Bit) → AllByRecursion (IsBitOf vs) bs → AllByRecursion (HasNetBit vs) (filter_map net_bit bs)
net-bits vs [] h = tt
net-bits vs (net n p ∷ bs) h = (h.0, net-bits vs bs h.1)
net-bits vs (constant at v ∷ bs) h = net-bits vs bs h.1

pub term-below : (vs : List Variable) (t : Term) → AllByRecursion (HasNetBit vs) (term_bits vs t)
term-below vs t = net-bits vs (bits vs (expression_of t)) (bits-below vs (expression_of t))

pub terms-below : (vs : List Variable) (ts : List Term) → AllByRecursion (HasNetBit vs) (terms_bits vs ts)
terms-below vs ts = all-flat (HasNetBit vs) (term_bits vs) ts (term-below vs)

pub zip-ends : {A B : Type 0} (P : B → Type 0) (xs : List A) (ys : List B) → AllByRecursion P ys → AllByRecursion P (map (λ e. e.1) (zip xs ys))
zip-ends P [] ys h = tt
zip-ends P (x ∷ xs) [] h = tt
zip-ends P (x ∷ xs) (y ∷ ys) h = (h.0, zip-ends P xs ys h.1)

abbrev Ends : (NetBit → Type 0) → NetBit × NetBit → Type 0
Ends P e = P e.1

pub pairs-end : (P : NetBit → Type 0) (a : Arrow) (xs ys : List NetBit) → AllByRecursion P ys → AllByRecursion P (map (λ e. e.1) (pairs a xs ys))
pairs-end P Parallel xs ys h = zip-ends P xs ys h
pairs-end P Full xs ys h =
    all-map P (λ e. e.1) (flat_map (λ i. map (λ o. (i, o)) ys) xs) (all-flat (Ends P) (λ i. map (λ o. (i, o)) ys) xs (λ i. all-map (Ends P) (λ o. (i, o)) ys h))

member-ends : (m : Module) (x : Member) → AllByRecursion (HasNetBit (variables m)) (ends m x)
member-ends m (assignment j) = tt
member-ends m (supply n v) = tt
member-ends m (gate g d i) = tt
member-ends m (instance n d i) = tt
member-ends m (check c) = tt
member-ends m (path p) =
    all-filter (HasNetBit (variables m)) (λ b. is_output (variable m b.name).port) (map (λ e. e.1) (path_pairs (variables m) p))
    (pairs-end (HasNetBit (variables m)) p.arrow (terms_bits (variables m) p.sources) (terms_bits (variables m) p.destination.terms) (terms-below (variables m) p.destination.terms))

pub ends-below : (m : Module) → AllByRecursion (HasNetBit (variables m)) (all_ends m)
ends-below m = all-flat (HasNetBit (variables m)) (ends m) (members m) (member-ends m)
