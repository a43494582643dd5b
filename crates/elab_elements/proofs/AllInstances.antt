-- The elements of all instances, one after another.
use Rattle.std.specs.Prelude.{◌≡◌, ℕ, ◌+◌, ◌<◌, ◌≤◌, ◌^◌, List, [], ◌∷◌, ◌++◌, map, flat_map, take, drop, length}
use Rattle.std.specs.List.{AllByRecursion}
use Rattle.std.proofs.Common.{sym, ◌∙◌, ap, arith, subst, length-append, get_or}
use Rattle.std.proofs.lemmas.Grind.{flat_map-append}
use Rattle.std.proofs.lemmas.List.{append-nil, map-append, length-map, take_more, take_all, take-append-drop}
use Rattle.std.proofs.lemmas.Option.{slice_get-get_or}
use Rattle.sg_circuit.specs.declared.elements.UdpUse.{UdpUse}
use Rattle.sg_delay.specs.declared.corners.Corner.{Corner}
use Rattle.sg_delay.specs.declared.gates.GateDelays.{GateDelays}
use Rattle.sg_text.specs.declared.refusals.Refused.{Refused}
use Rattle.sg_text.specs.declared.refusals.Refused.TheVariants as refused
use Rattle.vl_tree.specs.Tree.{Module, Source}
use Rattle.elab_model.specs.declared.kinds.ElabKind.{ElabKind}
use Rattle.elab_model.specs.Numbered.{element_of}
use Rattle.elab_model.specs.Delays.{tick_of}
use Rattle.elab_model.specs.Drivers.{elements}
use Rattle.elab_model.specs.Elements.{Component, elements_of}
use Rattle.elab_model.specs.Hierarchy.{instances, top_instance}
use Rattle.elab_model.specs.Nets.{OwnNet, nets}
use Rattle.elab_numbering.specs.Refusals.{RefusesCount}
use Rattle.elab_hierarchy.specs.declared.instances.Placed.{Placed}
use Rattle.elab_nets.specs.Library.{Library}
use Rattle.elab_nets.specs.declared.rows.Rows.{Rows}
use Rattle.elab_elements.specs.declared.placing.Placing.{Placing}
use Rattle.elab_elements.specs.Adding.{Adds}
use Rattle.elab_elements.specs.Seen.{element_in, NamesPlaces, AreElements}
use Rattle.elab_elements.specs.Standing.{AreRead, IsAt}
use Rattle.elab_elements.proofs.StandingAt.{placed-count}

-- the lists are those of these components
pub record Holds (delays : List GateDelays) (udps : List UdpUse) (all : List OwnNet) (made : Placing) (cs : List Component) : Type 0 where
  pub elements : map (element_in delays udps) made.elements.items ≡ map (element_of all) cs
  pub places : made.places.items ≡ map (λ c. c.place) cs
  pub named : AllByRecursion (λ e. NamesPlaces delays udps e.kind) made.elements.items

holds-more : (delays : List GateDelays) (udps : List UdpUse) (all : List OwnNet) (made new : Placing) (cs ds : List Component) → Holds delays udps all made cs → Adds delays udps all made new ds → Holds delays udps all new (cs ++ ds)
holds-more delays udps all made new cs ds h k =
    record {
      elements = k.elements ∙ ap (λ xs. xs ++ map (element_of all) ds) h.elements ∙ sym (map-append (element_of all) cs ds);
      places = k.places ∙ ap (λ xs. xs ++ map (λ c. c.place) ds) h.places ∙ sym (map-append (λ c. c.place) cs ds);
      named = k.named h.named;
    }

abbrev pub so_far : Source → Module → Corner → ℕ → List Component
so_far source top corner n = flat_map (elements_of source corner (tick_of source top)) (take n (instances source top))

pub holds-none : (delays : List GateDelays) (udps : List UdpUse) (source : Source) (top : Module) (corner : Corner) (made : Placing) → made.elements.items ≡ [] → made.places.items ≡ []
    → Holds delays udps (nets source top) made (so_far source top corner 0)
holds-none delays udps source top corner made e f =
    record {
      elements = ap (map (element_in delays udps)) e;
      places = f;
      named = subst (AllByRecursion (λ e. NamesPlaces delays udps e.kind)) (sym e) tt;
    }

-- ---- one instance more

pub at-next : (source : Source) (top : Module) (corner : Corner) (ps : List Placed) (ready : Library) (rows : Rows) (i : ℕ) → AreRead source top corner ps ready rows → i < length ps
    → IsAt source top corner ps ready rows i (get_or (instances source top) i (top_instance top))
at-next source top corner ps ready rows i h lt =
    let count = placed-count source ps (instances source top) h.are_placed in
    record { read = h; there = slice_get-get_or (instances source top) i (top_instance top) (omega arith) }

next-is : (source : Source) (top : Module) (corner : Corner) (i : ℕ) → i < length (instances source top)
    → so_far source top corner (i + 1) ≡ so_far source top corner i ++ elements_of source corner (tick_of source top) (get_or (instances source top) i (top_instance top))
next-is source top corner i lt =
    let f = elements_of source corner (tick_of source top) in
    let s = get_or (instances source top) i (top_instance top) in
    ap (flat_map f) (take_more (instances source top) i (top_instance top) lt) ∙ flat_map-append f (take i (instances source top)) (s ∷ []) ∙ ap (λ xs. so_far source top corner i ++ xs) (append-nil (f s))

pub one-more : (delays : List GateDelays) (udps : List UdpUse) (source : Source) (top : Module) (corner : Corner) (ps : List Placed) (ready : Library) (rows : Rows) (i : ℕ) (made new : Placing)
    → AreRead source top corner ps ready rows → i < length ps → Holds delays udps (nets source top) made (so_far source top corner i)
    → Adds delays udps (nets source top) made new (elements_of source corner (tick_of source top) (get_or (instances source top) i (top_instance top)))
    → Holds delays udps (nets source top) new (so_far source top corner (i + 1))
one-more delays udps source top corner ps ready rows i made new h lt k a =
    let count = placed-count source ps (instances source top) h.are_placed in
    let below : i < length (instances source top) = omega arith in
    subst (Holds delays udps (nets source top) new) (sym (next-is source top corner i below)) (holds-more delays udps (nets source top) made new (so_far source top corner i) _ k a)

pub all-hold : (delays : List GateDelays) (udps : List UdpUse) (source : Source) (top : Module) (corner : Corner) (ps : List Placed) (ready : Library) (rows : Rows) (i : ℕ) (made : Placing)
    → AreRead source top corner ps ready rows → length ps ≤ i → length made.elements.items ≤ 2 ^ 22 → Holds delays udps (nets source top) made (so_far source top corner i) → AreElements source top corner delays udps made
all-hold delays udps source top corner ps ready rows i made h le few k =
    let count = placed-count source ps (instances source top) h.are_placed in
    let whole : so_far source top corner i ≡ elements source top corner = ap (flat_map (elements_of source corner (tick_of source top))) (take_all i (instances source top) (omega arith)) in
    record {
      elements = k.elements ∙ ap (map (element_of (nets source top))) whole;
      places = k.places ∙ ap (map (λ c. c.place)) whole;
      named = k.named;
      few = few;
    }

-- ---- too many

refuses-more : (n m : ℕ) (r : Refused ElabKind) → n ≤ m → RefusesCount n r → RefusesCount m r
refuses-more n m (refused.Fault k p) le h = (h.0, h.1, (let lt = h.2 in omega arith))
refuses-more n m refused.NoMemory le h = tt

pub one-refused : (delays : List GateDelays) (udps : List UdpUse) (source : Source) (top : Module) (corner : Corner) (ps : List Placed) (ready : Library) (rows : Rows) (i : ℕ) (made : Placing) (r : Refused ElabKind)
    → AreRead source top corner ps ready rows → i < length ps → Holds delays udps (nets source top) made (so_far source top corner i)
    → RefusesCount (length made.elements.items + length (elements_of source corner (tick_of source top) (get_or (instances source top) i (top_instance top)))) r
    → RefusesCount (length (elements source top corner)) r
one-refused delays udps source top corner ps ready rows i made r h lt k refused =
    let f = elements_of source corner (tick_of source top) in
    let s = get_or (instances source top) i (top_instance top) in
    let count = placed-count source ps (instances source top) h.are_placed in
    let below : i < length (instances source top) = omega arith in
    let there : length made.elements.items ≡ length (so_far source top corner i) =
    sym (length-map made.elements.items (element_in delays udps)) ∙ ap length k.elements ∙ length-map (so_far source top corner i) (element_of (nets source top)) in
    let front : length (so_far source top corner (i + 1)) ≡ length (so_far source top corner i) + length (f s) = ap length (next-is source top corner i below) ∙ length-append (so_far source top corner i) (f s) in
    let whole : length (elements source top corner) ≡ length (so_far source top corner (i + 1)) + length (flat_map f (drop (i + 1) (instances source top))) =
    ap (λ ss. length (flat_map f ss)) (sym (take-append-drop (i + 1) (instances source top))) ∙ ap length (flat_map-append f (take (i + 1) (instances source top)) (drop (i + 1) (instances source top)))
    ∙ length-append (so_far source top corner (i + 1)) (flat_map f (drop (i + 1) (instances source top))) in
    refuses-more _ _ r (omega arith) refused
