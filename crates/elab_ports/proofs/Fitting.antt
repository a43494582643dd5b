-- What no fault of connections says: no port is connected twice, and each is a variable of the child, as wide as what is connected to it.
use Rattle.std.specs.Prelude.{◌≡◌, ℕ, ◌+◌, List, [], ◌∷◌, ◌++◌, Bool, true, false, ◌||◌, Some, map, flat_map, zip, refl, cond, bytes_eq, if◌then◌else◌}
use Rattle.std.specs.List.{AllByRecursion, position_from}
use Rattle.std.proofs.Common.{sym, ◌∙◌, ap, subst}
use Rattle.std.proofs.lemmas.List.Folds.{list_any-append}
use Rattle.std.proofs.lemmas.Slice.Eq.{bytes_eq-Decides}
use Rattle.sg_circuit.specs.Closed.{width_of}
use Rattle.sg_text.specs.declared.places.Place.{Place}
use Rattle.vl_tree.specs.Tree.{Named, Expression, Connections, by_order, by_name, Module}
use Rattle.elab_model.specs.declared.kinds.ElabKind.TheVariants.{DuplicateName}
use Rattle.elab_model.specs.Connections.{port_values}
use Rattle.elab_model.specs.Faults.{fault, places_again, duplicates}
use Rattle.elab_model.specs.Members.{connection_values}
use Rattle.elab_model.specs.ModuleFaults.{connection_faults}
use Rattle.elab_model.specs.NameFaults.{twice_in_list, two_directions, two_nets, two_instances, no_port, no_direction, name_faults, two_ranges, too_wide, declaration_faults}
use Rattle.elab_model.specs.Names.{Variable, variable, variables, variable_names, is_among, first_of_each}
use Rattle.elab_model.specs.Ports.{port_list, port_names}
use Rattle.elab_model.specs.TerminalFaults.{expression_faults}
use Rattle.elab_laws.proofs.Lists.{all-weaker, Pairwise, pairwise-map, pairwise-map_back}
use Rattle.elab_laws.proofs.NoFaults.{front, flat-empty, map-empty}
use Rattle.elab_laws.proofs.Once.{none-twice}
use Rattle.elab_laws.proofs.Ports.{FitsPort, values-fit as ports-fit}
use Rattle.elab_ports.specs.Bound.{AreConnected}
use Rattle.elab_ports.proofs.Pairs.{pairs, values, values-are, Differ}
use Rattle.elab_ports.proofs.Rows.{SplitsFrom}
use Rattle.elab_ports.proofs.Updates.{Fits}

-- ---- a port is a variable

among-first : (n : List ℕ) (seen ns : List (List ℕ)) → is_among n ns ≡ true → is_among n seen ≡ false → is_among n (first_of_each seen ns) ≡ true
among-first n seen [] h g = cc
among-first n seen (m ∷ ms) h g = by (bytes_eq n m) (is_among m seen) refl refl (λ k. among-first n seen ms k g) (λ k j. among-first n (m ∷ seen) ms k j)
  where
    by : (a b : Bool) → bytes_eq n m ≡ a → is_among m seen ≡ b → (is_among n ms ≡ true → is_among n (first_of_each seen ms) ≡ true)
        → (is_among n ms ≡ true → is_among n (m ∷ seen) ≡ false → is_among n (first_of_each (m ∷ seen) ms) ≡ true)
        → is_among n (if b then first_of_each seen ms else m ∷ first_of_each (m ∷ seen) ms) ≡ true
    by true true d e f k =
        let same : n ≡ m = (bytes_eq-Decides n m).0 d in
        let x : false ≡ true = sym g ∙ ap (λ z. is_among z seen) same ∙ e in cc
    by true false d e f k = ap (λ a. a || is_among n (first_of_each (m ∷ seen) ms)) d
    by false true d e f k = f (ap (λ a. a || is_among n ms) (sym d) ∙ h)
    by false false d e f k =
        ap (λ a. a || is_among n (first_of_each (m ∷ seen) ms)) d ∙ k (ap (λ a. a || is_among n ms) (sym d) ∙ h) (ap (λ a. a || is_among n seen) d ∙ g)

or-left : (a b : Bool) → a ≡ true → (a || b) ≡ true
or-left true b h = refl
or-left false b h = cc

among-variables : (m : Module) (n : List ℕ) → is_among n (port_names m) ≡ true → is_among n (variable_names m) ≡ true
among-variables m n h = among-first n [] _ (list_any-append (bytes_eq n) (port_names m) _ ∙ or-left (is_among n (port_names m)) _ h) refl

record Placed (n : List ℕ) (i : ℕ) (vs : List Variable) : Type 0 where
  place : ℕ
  named : position_from (λ v. bytes_eq n v.name) i vs ≡ Some place

has-place : (m : Module) (n : List ℕ) (i : ℕ) (ns : List (List ℕ)) → is_among n ns ≡ true → Placed n i (map (variable m) ns)
has-place m n i [] h = cc
has-place m n i (k ∷ ns) h = by (bytes_eq n k) refl (λ g. has-place m n (i + 1) ns g)
  where
    by : (b : Bool) → bytes_eq n k ≡ b → (is_among n ns ≡ true → Placed n (i + 1) (map (variable m) ns)) → Placed n i (map (variable m) (k ∷ ns))
    by true e f = record { place = i; named = ap (λ b. cond b (Some i) (position_from (λ v. bytes_eq n v.name) (i + 1) (map (variable m) ns))) e }
    by false e f =
        let g : is_among n ns ≡ true = ap (λ a. a || is_among n ns) (sym e) ∙ h in
        let r = f g in
        record { place = r.place; named = ap (λ b. cond b (Some i) (position_from (λ v. bytes_eq n v.name) (i + 1) (map (variable m) ns))) e ∙ r.named }

own-name : (m : Module) (ns : List (List ℕ)) → AllByRecursion (λ v. v ≡ variable m v.name) (map (variable m) ns)
own-name m [] = tt
own-name m (n ∷ ns) = (refl, own-name m ns)

all-seam : {A : Type 0} (P : A → Type 0) (xs ys : List A) (y : A) → AllByRecursion P (xs ++ y ∷ ys) → P y
all-seam P [] ys y h = h.0
all-seam P (x ∷ xs) ys y h = all-seam P xs ys y h.1

found-variable : (m : Module) (n : List ℕ) (k : ℕ) (s : SplitsFrom 0 (variables m) n k) → s.found ≡ variable m n
found-variable m n k s =
    all-seam (λ v. v ≡ variable m v.name) s.before s.after s.found (subst (AllByRecursion (λ v. v ≡ variable m v.name)) s.whole (own-name m (variable_names m)))
    ∙ ap (variable m) (sym s.named)

-- ---- all connections

fits : (vs : List Variable) (m : Module) (y : List ℕ × Expression) → FitsPort vs m y → Fits vs (variables m) y
fits vs m y h =
    let r = has-place m y.0 0 (variable_names m) (among-variables m y.0 h.named) in
    record { place = r.place; named = r.named; wide = λ s. h.wide ∙ ap (λ v. width_of v.range) (sym (found-variable m y.0 r.place s)) }

all-sound : (vs : List Variable) (es : List Expression) → AllByRecursion (λ e. expression_faults vs e ≡ []) es → flat_map (expression_faults vs) es ≡ []
all-sound vs [] h = refl
all-sound vs (e ∷ es) h = ap (λ fs. fs ++ flat_map (expression_faults vs) es) h.0 ∙ all-sound vs es h.1

-- what the faults of names say of ports: none stands twice in the list, and each has a direction
record HasPorts (m : Module) : Type 0 where
  once : places_again [] (port_list m) ≡ []
  directed : no_direction m ≡ []

has-ports : (m : Module) → declaration_faults m ≡ [] → HasPorts m
has-ports m h =
    let each = flat-empty (λ fs. fs) (twice_in_list m ∷ two_directions m ∷ two_nets m ∷ two_instances m ∷ no_port m ∷ no_direction m ∷ []) (front (name_faults m) (two_ranges m ++ too_wide m) h) in
    record { once = map-empty (fault DuplicateName) (places_again [] (port_list m)) each.0; directed = each.1.1.1.1.1.0 }

abbrev OtherName : Named → Named → Type 0
OtherName a b = bytes_eq a.text b.text ≡ false

all-firsts : {B : Type 0} (P : Named → Type 0) (ps : List Named) (ys : List B) → AllByRecursion P ps → AllByRecursion (λ x. P x.0) (zip ps ys)
all-firsts P [] ys h = tt
all-firsts P (p ∷ ps) [] h = tt
all-firsts P (p ∷ ps) (y ∷ ys) h = (h.0, all-firsts P ps ys h.1)

zip-apart : {B : Type 0} (ps : List Named) (ys : List B) → Pairwise OtherName ps → Pairwise (λ x y. OtherName x.0 y.0) (zip ps ys)
zip-apart [] ys h = tt
zip-apart (p ∷ ps) [] h = tt
zip-apart (p ∷ ps) (y ∷ ys) h = (all-firsts (OtherName p) ps ys h.0, zip-apart ps ys h.1)

pub pairs-apart : (vs : List Variable) (m : Module) (p : Place) (x : Connections) → declaration_faults m ≡ [] → connection_faults vs m p x ≡ [] → Pairwise Differ (pairs x (port_list m))
pairs-apart vs m p (by_order es) d h =
    pairwise-map Differ (λ x. (x.0.text, x.1)) (zip (port_list m) es) (zip-apart (port_list m) es (none-twice [] (port_list m) (has-ports m d).once).apart)
pairs-apart vs m p (by_name cs) d h =
    let e : places_again [] (map (λ c. c.port) cs) ≡ [] = map-empty (fault DuplicateName) (places_again [] (map (λ c. c.port) cs)) (front (duplicates (map (λ c. c.port) cs)) _ h) in
    pairwise-map Differ (λ c. (c.port.text, c.value)) cs (pairwise-map_back OtherName (λ c. c.port) cs (none-twice [] (map (λ c. c.port) cs) e).apart)

pub values-fit : (vs : List Variable) (m : Module) (p : Place) (x : Connections) → AreConnected vs m p x → AllByRecursion (Fits vs (variables m)) (values (pairs x (port_list m)))
values-fit vs m p x c =
    subst (AllByRecursion (Fits vs (variables m))) (sym (values-are x (port_list m)))
    (all-weaker (FitsPort vs m) (Fits vs (variables m)) (port_values x (port_list m)) (fits vs m)
    (ports-fit vs m (has-ports m c.declared).directed p x c.connected (all-sound vs (connection_values x) c.sound)))
