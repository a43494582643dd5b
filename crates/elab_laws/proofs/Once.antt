-- Where no name stands twice, no port is connected twice.
use Rattle.std.specs.Prelude.{◌≡◌, ℕ, List, [], ◌∷◌, ◌++◌, Bool, true, false, Option, Some, None, map, find, filter_map, zip, refl, cond, if◌then◌else◌, bytes_eq}
use Rattle.std.specs.List.{AllByRecursion, cons_option}
use Rattle.std.specs.Option.{option_and_then}
use Rattle.std.proofs.Common.{sym, ◌∙◌, ap, subst}
use Rattle.std.proofs.lemmas.Slice.Eq.{bytes_eq-Decides}
use Rattle.elab_laws.proofs.Lists.{all-weaker, Pairwise, pairwise-map_back}
use Rattle.elab_laws.proofs.Apart.{bytes-either}
use Rattle.elab_laws.proofs.Firsts.{or-neither}
use Rattle.elab_laws.proofs.PartsApart.{AreOnce}
use Rattle.elab_model.specs.Connections.{in_order, connection_at, port_values, with_port}
use Rattle.elab_model.specs.Faults.{places_again}
use Rattle.elab_model.specs.Hierarchy.{Step}
use Rattle.elab_model.specs.Names.{is_among}
use Rattle.elab_model.specs.Ports.{port_list}
use Rattle.sg_text.specs.declared.places.Place.{Place}
use Rattle.vl_tree.specs.Tree.{Named, Expression, NamedConnection, by_order, by_name}

abbrev Differ : Named → Named → Type 0
Differ a b = bytes_eq a.text b.text ≡ false

-- what no name repeats
pub record NoneTwice (seen : List (List ℕ)) (ns : List Named) : Type 0 where
  pub apart : Pairwise Differ ns
  pub new : AllByRecursion (λ n. is_among n.text seen ≡ false) ns

append-empty : {A : Type 0} (xs ys : List A) → xs ++ ys ≡ [] → (xs ≡ []) × (ys ≡ [])
append-empty [] ys h = (refl, h)
append-empty (x ∷ xs) ys h = cc

none-then : (b : Bool) (p : Place) → (if b then p ∷ [] else []) ≡ [] → b ≡ false
none-then true p h = cc
none-then false p h = refl

pub none-twice : (seen : List (List ℕ)) (ns : List Named) → places_again seen ns ≡ [] → NoneTwice seen ns
none-twice seen [] h = record { apart = tt; new = tt }
none-twice seen (n ∷ ns) h =
    let e = append-empty (if is_among n.text seen then n.place ∷ [] else []) (places_again (n.text ∷ seen) ns) h in
    let r = none-twice (n.text ∷ seen) ns e.1 in
    record {
      apart = (all-weaker (λ m. is_among m.text (n.text ∷ seen) ≡ false) (Differ n) ns (λ m k. bytes-either n.text m.text ∙ (or-neither (bytes_eq m.text n.text) (is_among m.text seen) k).0) r.new, r.apart);
      new = (
        none-then (is_among n.text seen) n.place e.0,
        all-weaker (λ m. is_among m.text (n.text ∷ seen) ≡ false) (λ m. is_among m.text seen ≡ false) ns (λ m k. (or-neither (bytes_eq m.text n.text) (is_among m.text seen) k).1) r.new,
      );
    }

-- over what a filter_map keeps
pub all-kept : {A B : Type 0} (P : B → Type 0) (h : A → Option B) (xs : List A) → AllByRecursion (λ x. (y : B) → h x ≡ Some y → P y) xs → AllByRecursion P (filter_map h xs)
all-kept P h [] k = tt
all-kept {A} {B} P h (x ∷ xs) k = by (h x) refl (all-kept P h xs k.1)
  where
    by : (o : Option B) → h x ≡ o → AllByRecursion P (filter_map h xs) → AllByRecursion P (cons_option o (filter_map h xs))
    by None e r = r
    by (Some y) e r = (k.0 y e, r)

pairwise-kept : {A B : Type 0} (R : B → B → Type 0) (K : A → A → Type 0) (h : A → Option B) → ((x y : A) → K x y → (a b : B) → h x ≡ Some a → h y ≡ Some b → R a b)
    → (xs : List A) → Pairwise K xs → Pairwise R (filter_map h xs)
pairwise-kept R K h f [] k = tt
pairwise-kept {A} {B} R K h f (x ∷ xs) k = by (h x) refl (pairwise-kept R K h f xs k.1)
  where
    by : (o : Option B) → h x ≡ o → Pairwise R (filter_map h xs) → Pairwise R (cons_option o (filter_map h xs))
    by None e r = r
    by (Some a) e r = (all-kept (R a) h xs (all-weaker (K x) (λ y. (b : B) → h y ≡ Some b → R a b) xs (λ y k b g. f x y k a b e g) k.0), r)

port_and-is : (n : List ℕ) (o : Option Expression) (y : List ℕ × Expression) → with_port n o ≡ Some y → (y.0 ≡ n) × (o ≡ Some y.1)
port_and-is n None y e = cc
port_and-is n (Some x) y e = let g : (n, x) ≡ y = cc in (sym (ap (λ p. p.0) g), ap (λ p. Some p.1) g)

bytes-same : (n : List ℕ) → bytes_eq n n ≡ true
bytes-same n = (bytes_eq-Decides n n).1 refl

-- ---- by name

abbrev DifferPort : NamedConnection → NamedConnection → Type 0
DifferPort c d = bytes_eq c.port.text d.port.text ≡ false

find-own : (cs : List NamedConnection) → Pairwise DifferPort cs → AllByRecursion (λ c. find (λ d. bytes_eq c.port.text d.port.text) cs ≡ Some c) cs
find-own [] h = tt
find-own (c ∷ cs) h = (
  rw (bytes-same c.port.text) refl,
  both cs (λ d. find (λ e. bytes_eq d.port.text e.port.text) cs) h.0 (find-own cs h.1),
)
  where
    both : (ds : List NamedConnection) (f : NamedConnection → Option NamedConnection) → AllByRecursion (DifferPort c) ds → AllByRecursion (λ d. f d ≡ Some d) ds
        → AllByRecursion (λ d. cond (bytes_eq d.port.text c.port.text) (Some c) (f d) ≡ Some d) ds
    both [] f a b = tt
    both (d ∷ ds) f a b = (rw (bytes-either d.port.text c.port.text ∙ a.0) b.0, both ds f a.1 b.1)

pub once-by_name : (c : Step) (cs : List NamedConnection) → c.connections ≡ by_name cs → places_again [] (map (λ c. c.port) cs) ≡ [] → AreOnce c
once-by_name c cs e h =
    let n = none-twice [] (map (λ c. c.port) cs) h in
    let k : Pairwise DifferPort cs = pairwise-map_back Differ (λ c. c.port) cs n.apart in
    record {
      names = subst (λ x. Pairwise (λ x y. bytes_eq x.0 y.0 ≡ false) (port_values x (port_list c.definition))) (sym e)
          (pairwise-kept (λ x y. bytes_eq x.0 y.0 ≡ false) DifferPort (λ c. with_port c.port.text c.value)
          (λ x y d a b f g. rw ((port_and-is x.port.text x.value a f).0, (port_and-is y.port.text y.value b g).0) d) cs k);
      first = subst (λ x. AllByRecursion (λ e. connection_at x (port_list c.definition) e.0 ≡ Some e.1) (port_values x (port_list c.definition))) (sym e)
          (all-kept (λ y. connection_at (by_name cs) (port_list c.definition) y.0 ≡ Some y.1) (λ c. with_port c.port.text c.value) cs
          (all-weaker (λ d. find (λ e. bytes_eq d.port.text e.port.text) cs ≡ Some d) (λ d. (y : List ℕ × Expression) → with_port d.port.text d.value ≡ Some y → connection_at (by_name cs) (port_list c.definition) y.0 ≡ Some y.1) cs
          (λ d f y g. let p = port_and-is d.port.text d.value y g in
          ap (λ n. option_and_then (λ c. c.value) (find (λ e. bytes_eq n e.port.text) cs)) p.0 ∙ ap (option_and_then (λ c. c.value)) f ∙ p.1) (find-own cs k)));
    }

-- ---- by order

abbrev DifferPair : Named × Option Expression → Named × Option Expression → Type 0
DifferPair x y = Differ x.0 y.0

all-zip : (P : Named → Type 0) (ps : List Named) (es : List (Option Expression)) → AllByRecursion P ps → AllByRecursion (λ x. P x.0) (zip ps es)
all-zip P [] es h = tt
all-zip P (p ∷ ps) [] h = tt
all-zip P (p ∷ ps) (e ∷ es) h = (h.0, all-zip P ps es h.1)

zip-apart : (ps : List Named) (es : List (Option Expression)) → Pairwise Differ ps → Pairwise DifferPair (zip ps es)
zip-apart [] es h = tt
zip-apart (p ∷ ps) [] h = tt
zip-apart (p ∷ ps) (e ∷ es) h = (all-zip (Differ p) ps es h.0, zip-apart ps es h.1)

order-own : (ps : List Named) (es : List (Option Expression)) → Pairwise Differ ps → AllByRecursion (λ x. in_order x.0.text ps es ≡ x.1) (zip ps es)
order-own [] es h = tt
order-own (p ∷ ps) [] h = tt
order-own (p ∷ ps) (e ∷ es) h = (rw (bytes-same p.text) refl, both (zip ps es) (λ x. in_order x.0.text ps es) (all-zip (Differ p) ps es h.0) (order-own ps es h.1))
  where
    both : (xs : List (Named × Option Expression)) (f : Named × Option Expression → Option Expression) → AllByRecursion (λ x. Differ p x.0) xs → AllByRecursion (λ x. f x ≡ x.1) xs
        → AllByRecursion (λ x. (if bytes_eq x.0.text p.text then e else f x) ≡ x.1) xs
    both [] f a b = tt
    both (x ∷ xs) f a b = (rw (bytes-either x.0.text p.text ∙ a.0) b.0, both xs f a.1 b.1)

pub once-by_order : (c : Step) (es : List (Option Expression)) → c.connections ≡ by_order es → places_again [] (port_list c.definition) ≡ [] → AreOnce c
once-by_order c es e h =
    let n = none-twice [] (port_list c.definition) h in
    let k : Pairwise Differ (port_list c.definition) = n.apart in
    let ps = (port_list c.definition) in
    record {
      names = subst (λ x. Pairwise (λ x y. bytes_eq x.0 y.0 ≡ false) (port_values x ps)) (sym e)
          (pairwise-kept (λ x y. bytes_eq x.0 y.0 ≡ false) DifferPair (λ p. with_port p.0.text p.1)
          (λ x y d a b f g. rw ((port_and-is x.0.text x.1 a f).0, (port_and-is y.0.text y.1 b g).0) d) (zip ps es) (zip-apart ps es k));
      first = subst (λ x. AllByRecursion (λ e. connection_at x ps e.0 ≡ Some e.1) (port_values x ps)) (sym e)
          (all-kept (λ y. connection_at (by_order es) ps y.0 ≡ Some y.1) (λ p. with_port p.0.text p.1) (zip ps es)
          (all-weaker (λ x. in_order x.0.text ps es ≡ x.1) (λ x. (y : List ℕ × Expression) → with_port x.0.text x.1 ≡ Some y → connection_at (by_order es) ps y.0 ≡ Some y.1) (zip ps es)
          (λ x f y g. let p = port_and-is x.0.text x.1 y g in ap (λ n. in_order n ps es) p.0 ∙ f ∙ p.1) (order-own ps es k)));
    }
