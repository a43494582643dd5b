-- Where no name is declared twice as a port, nor twice as a net, two declarations of a name are a port and its own net.
use Rattle.std.specs.Prelude.{◌≡◌, List, [], ◌∷◌, ◌++◌, Bool, true, false, not, ◌&&◌, ◌||◌, map, flat_map, refl, bytes_eq, if◌then◌else◌}
use Rattle.std.specs.List.{list_any}
use Rattle.std.proofs.Common.{sym, ◌∙◌, ap}
use Rattle.std.proofs.lemmas.Grind.{flat_map-append}
use Rattle.std.proofs.lemmas.List.{append-nil, map-append}
use Rattle.sg_text.specs.declared.places.Place.{Place}
use Rattle.vl_tree.specs.Tree.{Named, Item, PortDeclaration, Module}
use Rattle.elab_model.specs.declared.kinds.ElabKind.{ElabKind}
use Rattle.elab_model.specs.declared.kinds.ElabKind.TheVariants.{WidthMismatch, DuplicateName}
use Rattle.elab_model.specs.Faults.{fault, fault_if, places_again, texts_of}
use Rattle.elab_model.specs.NameFaults.{declared_ports, declared_nets, twice_in_list, two_directions, two_nets, name_faults, RangeText, port_range, net_range, range_texts, is_same_range, is_xor, differs_from, differing_ranges, two_ranges}
use Rattle.elab_model.specs.Names.{is_among}
use Rattle.elab_model.specs.Ports.{NetDeclaration, ports_of_head, ports_of_item, nets_of_item}
use Rattle.elab_names.specs.GivenRanges.{given, given_by_text, differs_in_range, differing_places, range_faults}

-- ---- the names of one kind: those of ports, or those of nets

abbrev of_kind : Bool → RangeText → List Named
of_kind kind t = if is_xor kind t.is_port then [] else t.name ∷ []

abbrev all_of_kind : Bool → List RangeText → List Named
all_of_kind kind ts = flat_map (of_kind kind) ts

ports-are : (ds : List PortDeclaration) → all_of_kind true (map port_range ds) ≡ map (λ d. d.name) ds
ports-are [] = refl
ports-are (d ∷ ds) = ap (λ ns. d.name ∷ ns) (ports-are ds)

nets-are : (ds : List NetDeclaration) → all_of_kind false (map net_range ds) ≡ map (λ d. d.name) ds
nets-are [] = refl
nets-are (d ∷ ds) = ap (λ ns. d.name ∷ ns) (nets-are ds)

ports-arent : (ds : List PortDeclaration) → all_of_kind false (map port_range ds) ≡ []
ports-arent [] = refl
ports-arent (d ∷ ds) = ports-arent ds

nets-arent : (ds : List NetDeclaration) → all_of_kind true (map net_range ds) ≡ []
nets-arent [] = refl
nets-arent (d ∷ ds) = nets-arent ds

abbrev texts_of_item : Item → List RangeText
texts_of_item i = map port_range (ports_of_item i) ++ map net_range (nets_of_item i)

by-items : {A : Type 0} (kind : Bool) (name : A → Named) (f : Item → List A) → ((i : Item) → all_of_kind kind (texts_of_item i) ≡ map name (f i)) → (is : List Item)
    → all_of_kind kind (flat_map texts_of_item is) ≡ map name (flat_map f is)
by-items kind name f h [] = refl
by-items kind name f h (i ∷ is) =
    flat_map-append (of_kind kind) (texts_of_item i) (flat_map texts_of_item is) ∙ ap (λ ns. ns ++ all_of_kind kind (flat_map texts_of_item is)) (h i)
    ∙ ap (λ ns. map name (f i) ++ ns) (by-items kind name f h is) ∙ sym (map-append name (f i) (flat_map f is))

ports-of-item : (i : Item) → all_of_kind true (texts_of_item i) ≡ map (λ d. d.name) (ports_of_item i)
ports-of-item i =
    flat_map-append (of_kind true) (map port_range (ports_of_item i)) (map net_range (nets_of_item i))
    ∙ ap (λ ns. all_of_kind true (map port_range (ports_of_item i)) ++ ns) (nets-arent (nets_of_item i)) ∙ append-nil (all_of_kind true (map port_range (ports_of_item i))) ∙ ports-are (ports_of_item i)

nets-of-item : (i : Item) → all_of_kind false (texts_of_item i) ≡ map (λ d. d.name) (nets_of_item i)
nets-of-item i =
    flat_map-append (of_kind false) (map port_range (ports_of_item i)) (map net_range (nets_of_item i))
    ∙ ap (λ ns. ns ++ all_of_kind false (map net_range (nets_of_item i))) (ports-arent (ports_of_item i)) ∙ nets-are (nets_of_item i)

ports-declared : (m : Module) → all_of_kind true (range_texts m) ≡ declared_ports m
ports-declared m =
    let hs = ports_of_head m.head in
    flat_map-append (of_kind true) (map port_range hs) (flat_map texts_of_item m.items) ∙ ap (λ ns. ns ++ all_of_kind true (flat_map texts_of_item m.items)) (ports-are hs)
    ∙ ap (λ ns. map (λ d. d.name) hs ++ ns) (by-items true (λ d. d.name) ports_of_item ports-of-item m.items) ∙ sym (map-append (λ d. d.name) hs (flat_map ports_of_item m.items))

nets-declared : (m : Module) → all_of_kind false (range_texts m) ≡ declared_nets m
nets-declared m =
    let hs = ports_of_head m.head in
    flat_map-append (of_kind false) (map port_range hs) (flat_map texts_of_item m.items) ∙ ap (λ ns. ns ++ all_of_kind false (flat_map texts_of_item m.items)) (ports-arent hs)
    ∙ by-items false (λ d. d.name) nets_of_item nets-of-item m.items

-- ---- a name that is new among those of its kind

or-neither : (a b : Bool) → (a || b) ≡ false → (a ≡ false) × (b ≡ false)
or-neither true b h = cc
or-neither false b h = (refl, h)

new-of-kind : (s : RangeText) (before : List RangeText) → is_among s.name.text (texts_of (all_of_kind s.is_port before)) ≡ false → list_any (differs_from s) before ≡ list_any (differs_in_range (given_by_text s)) (given before)
new-of-kind s [] h = refl
new-of-kind s (t ∷ ts) h = by (is_xor s.is_port t.is_port) h (new-of-kind s ts)
  where
    by : (x : Bool) → is_among s.name.text (texts_of ((if x then [] else t.name ∷ []) ++ all_of_kind s.is_port ts)) ≡ false
        → (is_among s.name.text (texts_of (all_of_kind s.is_port ts)) ≡ false → list_any (differs_from s) ts ≡ list_any (differs_in_range (given_by_text s)) (given ts))
        → ((bytes_eq s.name.text t.name.text && (x && not (is_same_range s.range t.range))) || list_any (differs_from s) ts)
        ≡ ((bytes_eq s.name.text t.name.text && not (is_same_range s.range t.range)) || list_any (differs_in_range (given_by_text s)) (given ts))
    by true h r = ap (λ b. (bytes_eq s.name.text t.name.text && not (is_same_range s.range t.range)) || b) (r h)
    by false h r =
        let p = or-neither (bytes_eq s.name.text t.name.text) (is_among s.name.text (texts_of (all_of_kind s.is_port ts))) h in
        ap (λ b. (b && (false && not (is_same_range s.range t.range))) || list_any (differs_from s) ts) p.0 ∙ r p.1
        ∙ sym (ap (λ b. (b && not (is_same_range s.range t.range)) || list_any (differs_in_range (given_by_text s)) (given ts)) p.0)

fault-first : (b : Bool) (k : ElabKind) (p : Place) (ps : List Place) → fault_if b k p ++ map (fault k) ps ≡ map (fault k) ((if b then p ∷ [] else []) ++ ps)
fault-first true k p ps = refl
fault-first false k p ps = refl

none-then : (b : Bool) (p : Place) (ps : List Place) → (if b then p ∷ [] else []) ++ ps ≡ [] → (b ≡ false) × (ps ≡ [])
none-then true p ps h = cc
none-then false p ps h = (refl, h)

-- no name of a kind stands twice, from here on
abbrev Once : Bool → List RangeText → List RangeText → Type 0
Once kind before ts = places_again (texts_of (all_of_kind kind before)) (all_of_kind kind ts) ≡ []

one-kind : (before ts : List RangeText) → Once true before ts → Once false before ts → differing_ranges before ts ≡ map (fault WidthMismatch) (differing_places (given before) (given ts))
one-kind before [] p n = refl
one-kind before (s ∷ ss) p n = by s.is_port p n (one-kind (s ∷ before) ss)
  where
    as_kind : Bool → RangeText
    as_kind k = record { name = s.name; range = s.range; is_port = k }

    with_rest : (t : RangeText) → is_among t.name.text (texts_of (all_of_kind t.is_port before)) ≡ false
        → differing_ranges (t ∷ before) ss ≡ map (fault WidthMismatch) (differing_places (given (t ∷ before)) (given ss))
        → differing_ranges before (t ∷ ss) ≡ map (fault WidthMismatch) (differing_places (given before) (given (t ∷ ss)))
    with_rest t e r =
        ap (λ b. fault_if b WidthMismatch t.name.place ++ differing_ranges (t ∷ before) ss) (new-of-kind t before e)
        ∙ ap (λ fs. fault_if (list_any (differs_in_range (given_by_text t)) (given before)) WidthMismatch t.name.place ++ fs) r
        ∙ fault-first (list_any (differs_in_range (given_by_text t)) (given before)) WidthMismatch t.name.place (differing_places (given (t ∷ before)) (given ss))

    by : (k : Bool) → Once true before (as_kind k ∷ ss) → Once false before (as_kind k ∷ ss)
        → (Once true (as_kind k ∷ before) ss → Once false (as_kind k ∷ before) ss → differing_ranges (as_kind k ∷ before) ss ≡ map (fault WidthMismatch) (differing_places (given (as_kind k ∷ before)) (given ss)))
        → differing_ranges before (as_kind k ∷ ss) ≡ map (fault WidthMismatch) (differing_places (given before) (given (as_kind k ∷ ss)))
    by true p n r =
        let q = none-then (is_among s.name.text (texts_of (all_of_kind true before))) s.name.place (places_again (s.name.text ∷ texts_of (all_of_kind true before)) (all_of_kind true ss)) p in
        with_rest (as_kind true) q.0 (r q.1 n)
    by false p n r =
        let q = none-then (is_among s.name.text (texts_of (all_of_kind false before))) s.name.place (places_again (s.name.text ∷ texts_of (all_of_kind false before)) (all_of_kind false ss)) n in
        with_rest (as_kind false) q.0 (r p q.1)

-- ---- the faults of a module in which no name stands twice

front : {A : Type 0} (xs ys : List A) → xs ++ ys ≡ [] → xs ≡ []
front [] ys h = refl
front (x ∷ xs) ys h = cc

back : {A : Type 0} (xs ys : List A) → xs ++ ys ≡ [] → ys ≡ []
back [] ys h = h
back (x ∷ xs) ys h = cc

none-again : (ps : List Place) → map (fault DuplicateName) ps ≡ [] → ps ≡ []
none-again [] h = refl
none-again (p ∷ ps) h = cc

pub two-ranges : (m : Module) → name_faults m ≡ [] → range_faults (given (range_texts m)) ≡ two_ranges m
two-ranges m h =
    let second = back (twice_in_list m) _ h in
    let p : places_again [] (declared_ports m) ≡ [] = none-again (places_again [] (declared_ports m)) (front (two_directions m) _ second) in
    let n : places_again [] (declared_nets m) ≡ [] = none-again (places_again [] (declared_nets m)) (front (two_nets m) _ (back (two_directions m) _ second)) in
    sym (one-kind [] (range_texts m) (ap (places_again []) (ports-declared m) ∙ p) (ap (places_again []) (nets-declared m) ∙ n))
