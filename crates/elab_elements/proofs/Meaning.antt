-- Elements in plain words stand for the components of the definitions.
use Rattle.std.specs.Prelude.{◌≡◌, ℕ, ◌<◌, List, [], ◌∷◌, ◌++◌, map, length, refl}
use Rattle.std.specs.List.{AllByRecursion}
use Rattle.std.proofs.Common.{sym, ◌∙◌, ap, subst}
use Rattle.std.proofs.lemmas.List.{map-append, length-map, get_or-map}
use Rattle.sg_circuit.specs.Circuit.{Element}
use Rattle.sg_circuit.specs.declared.elements.ElementKind.{ElementKind}
use Rattle.sg_circuit.specs.declared.elements.UdpUse.{UdpUse}
use Rattle.sg_delay.specs.declared.gates.GateDelays.{GateDelays}
use Rattle.sg_text.specs.declared.places.Place.{Place}
use Rattle.vl_tree.specs.Tree.{Source}
use Rattle.elab_model.specs.Numbered.{element_of}
use Rattle.elab_model.specs.Elements.{Component}
use Rattle.elab_model.specs.Hierarchy.{Instance}
use Rattle.elab_model.specs.Names.{Variable}
use Rattle.elab_model.specs.Nets.{OwnNet}
use Rattle.elab_laws.specs.Handing.{all_bits, number_at}
use Rattle.elab_laws.proofs.Lists.{all-append, all-map, all-map_back}
use Rattle.elab_bits.specs.Seen.{bit_at}
use Rattle.elab_nets.specs.Numbers.{HasNumbers}
use Rattle.elab_elements.specs.Adding.{Adds, HasDriven, driven_at}
use Rattle.elab_elements.specs.Seen.{kind_in, element_in, NamesPlaces}
use Rattle.elab_elements.specs.declared.placing.Placing.{Placing}
use Rattle.elab_elements.specs.Puts.{Wired, wired, Put, put, Puts}
use Rattle.elab_elements.specs.Words.{net_in}
use Rattle.elab_elements.proofs.Putting.{elements_in, places_in}

abbrev pub wired_in : List GateDelays → List UdpUse → Wired → Element
wired_in delays udps w = record { scope = w.scope; inputs = w.inputs; output = w.output; kind = kind_in delays udps w.kind }

pub map-map : {A B C : Type 0} (g : B → C) (f : A → B) (xs : List A) → map g (map f xs) ≡ map (λ x. g (f x)) xs
map-map g f [] = refl
map-map g f (x ∷ xs) = ap (λ ys. g (f x) ∷ ys) (map-map g f xs)

pub record Means (delays : List GateDelays) (udps : List UdpUse) (all : List OwnNet) (ps : List Put) (cs : List Component) : Type 0 where
  pub elements : map (λ p. wired_in delays udps p.1) ps ≡ map (element_of all) cs
  pub places : map (λ p. p.0) ps ≡ map (λ c. c.place) cs
  pub named : AllByRecursion (λ p. NamesPlaces delays udps p.1.kind) ps

pub means-nil : (delays : List GateDelays) (udps : List UdpUse) (all : List OwnNet) → Means delays udps all [] []
means-nil delays udps all = record { elements = refl; places = refl; named = tt }

pub means-one : (delays : List GateDelays) (udps : List UdpUse) (all : List OwnNet) (scope : ℕ) (place : Place) (inputs : List ℕ) (output : ℕ) (k : ElementKind) (c : Component)
    → scope ≡ c.scope → place ≡ c.place → inputs ≡ (element_of all c).inputs → output ≡ (element_of all c).output → kind_in delays udps k ≡ c.kind → NamesPlaces delays udps k
    → Means delays udps all (put scope place inputs output k ∷ []) (c ∷ [])
means-one delays udps all scope place inputs output k c a b d e f n =
    record {
      elements = (λ i. record { scope = a i; inputs = d i; output = e i; kind = f i } ∷ []);
      places = ap (λ x. x ∷ []) b;
      named = (n, tt);
    }

pub means-append : (delays : List GateDelays) (udps : List UdpUse) (all : List OwnNet) (ps qs : List Put) (cs ds : List Component)
    → Means delays udps all ps cs → Means delays udps all qs ds → Means delays udps all (ps ++ qs) (cs ++ ds)
means-append delays udps all ps qs cs ds h k =
    let f : Put → Element = λ p. wired_in delays udps p.1 in
    let g = element_of all in
    record {
      elements = map-append f ps qs ∙ ap (λ xs. xs ++ map f qs) h.elements ∙ ap (λ xs. map g cs ++ xs) k.elements ∙ sym (map-append g cs ds);
      places = map-append (λ p. p.0) ps qs ∙ ap (λ xs. xs ++ places_in qs) h.places ∙ ap (λ xs. map (λ c. c.place) cs ++ xs) k.places ∙ sym (map-append (λ c. c.place) cs ds);
      named = all-append (λ p. NamesPlaces delays udps p.1.kind) ps qs h.named k.named;
    }

pub means-same : (delays : List GateDelays) (udps : List UdpUse) (all : List OwnNet) (ps qs : List Put) (cs ds : List Component) → ps ≡ qs → cs ≡ ds → Means delays udps all ps cs
    → Means delays udps all qs ds
means-same delays udps all ps qs cs ds e f h = subst (λ x. Means delays udps all x ds) e (subst (λ y. Means delays udps all ps y) f h)

-- so many puts as components, where the places are the same
pub same-count : (ps : List Put) (cs : List Component) → map (λ p. p.0) ps ≡ map (λ c. c.place) cs → length ps ≡ length cs
same-count ps cs e = sym (length-map ps (λ p. p.0)) ∙ ap length e ∙ length-map cs (λ c. c.place)

pub adds : (delays : List GateDelays) (udps : List UdpUse) (all : List OwnNet) (old new : Placing) (ps : List Put) (cs : List Component) → Means delays udps all ps cs → Puts old new ps
    → Adds delays udps all old new cs
adds delays udps all old new ps cs m h =
    let f = wired_in delays udps in
    record {
      elements = sym (map-map f wired new.elements.items) ∙ ap (map f) h.elements ∙ map-append f (map wired old.elements.items) (elements_in ps)
          ∙ ap (λ xs. xs ++ map f (elements_in ps)) (map-map f wired old.elements.items)
          ∙ ap (λ xs. map (element_in delays udps) old.elements.items ++ xs) (map-map f (λ p. p.1) ps ∙ m.elements);
      places = h.places ∙ ap (λ xs. old.places.items ++ xs) m.places;
      named = λ before. all-map_back (λ w. NamesPlaces delays udps w.kind) wired new.elements.items
          (subst (λ ws. AllByRecursion (λ w. NamesPlaces delays udps w.kind) ws) (sym h.elements)
          (all-append (λ w. NamesPlaces delays udps w.kind) (map wired old.elements.items) (elements_in ps)
          (all-map (λ w. NamesPlaces delays udps w.kind) wired old.elements.items before)
          (all-map (λ w. NamesPlaces delays udps w.kind) (λ p. p.1) ps m.named)));
    }

-- the number at a place of an instance's row
pub number-is : (all : List OwnNet) (source : Source) (s : Instance) (vs : List Variable) (row : List ℕ) (i : ℕ) → HasNumbers all source s vs row → i < length (all_bits vs)
    → net_in row i ≡ number_at all source s (bit_at vs i)
number-is all source s vs row i h lt = ap (λ ns. net_in ns i) h.numbers ∙ get_or-map (number_at all source s) (all_bits vs) i _ 0 lt

-- and at a place of the row of what is driven inside
pub driven-number : (all : List OwnNet) (source : Source) (s : Instance) (vs : List Variable) (inside : List ℕ) (i : ℕ) → HasDriven all source s vs inside → i < length (all_bits vs)
    → net_in inside i ≡ driven_at all source s (bit_at vs i)
driven-number all source s vs inside i h lt = ap (λ ns. net_in ns i) h.numbers ∙ get_or-map (driven_at all source s) (all_bits vs) i _ 0 lt
