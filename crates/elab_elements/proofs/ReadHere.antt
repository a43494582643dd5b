-- What is read of an instance at its place.
use Rattle.std.specs.Prelude.{◌≡◌, ℕ, zero, suc, ◌+◌, ◌-◌, flat_map, ◌<◌, ◌≤◌, List, [], ◌∷◌, false, ◌&&◌, not, Option, Some, None, map, take, drop, length, slice_get, refl, if◌then◌else◌, sum_by, ◌==◌}
use Rattle.std.proofs.Common.{sym, ◌∙◌, ap, arith, subst}
use Rattle.std.proofs.lemmas.Bool.Decides.{nat_tests}
use Rattle.std.proofs.lemmas.List.{length-map}
use Rattle.std.proofs.lemmas.List.Sums.{sum_by-cons}
use Rattle.std.proofs.lemmas.Option.{slice_get_within}
use Rattle.sg_delay.specs.declared.corners.Corner.{Corner}
use Rattle.vl_tree.specs.Tree.{Module, Source}
use Rattle.elab_model.specs.Hierarchy.{Step, Instance, Child, instances, children_in, size, is_empty, is_leaf, has_no_child}
use Rattle.elab_model.specs.Names.{Variable, variables}
use Rattle.elab_model.specs.Elements.{variable_legs, legs}
use Rattle.elab_model.specs.Ends.{path_ends, inner_spot}
use Rattle.elab_model.specs.Nets.{OwnNet, nets, number_of}
use Rattle.elab_ends.specs.Ends.{AreEnds}
use Rattle.elab_ends.specs.Seen.{bit_seen}
use Rattle.elab_ends.specs.declared.ends.PathEnds.{PathEnds}
use Rattle.sg_circuit.specs.declared.elements.UdpUse.{UdpUse}
use Rattle.sg_delay.specs.declared.gates.GateDelays.{GateDelays}
use Rattle.elab_model.specs.Scopes.{parent_of}
use Rattle.elab_laws.specs.Handing.{all_bits, number_at}
use Rattle.elab_hierarchy.specs.declared.instances.Placed.{Placed}
use Rattle.elab_hierarchy.specs.Placing.{IsPlaced}
use Rattle.elab_model.specs.Ports.{port_list}
use Rattle.elab_ports.specs.Bound.{AreConnected, AreOf}
use Rattle.elab_ports.specs.Constants.{constants_in, view_constant}
use Rattle.elab_ports.specs.declared.constants.PortConstant as code_constant
use Rattle.vl_tree.specs.Seen.{view_name, view_connections}
use Rattle.vl_tree.specs.declared.names.Name.{Name}
use Rattle.vl_tree.specs.declared.items.Instance as code_text
use Rattle.elab_nets.specs.Library.{Library}
use Rattle.elab_nets.specs.Ready as code_ready
use Rattle.elab_nets.specs.Ready.TheVariants as ready
use Rattle.elab_nets.specs.Prepared.{Prepared}
use Rattle.elab_nets.specs.ReadyOfModules.{IsPrepared}
use Rattle.elab_nets.specs.declared.rows.Rows.{Rows}
use Rattle.elab_hierarchy.proofs.FaultlessTree.{no-children_at_limit}
use Rattle.elab_nets.specs.Outside.{outer_number}
use Rattle.elab_nets.specs.Rows.{part_of, HasRow}
use Rattle.elab_elements.specs.declared.placing.Placing.{Placing}
use Rattle.elab_elements.specs.Adding.{Adds, IsHere, HasOutside}
use Rattle.elab_elements.specs.Standing.{IsAt, IsInside}
use Rattle.elab_elements.specs.Words.{is_alone}
use Rattle.elab_elements.proofs.Meaning.{adds, means-nil}
use Rattle.elab_elements.proofs.Putting.{puts-none}
use Rattle.elab_elements.proofs.StandingAt.{at-place, at-split, instance-number, placed-at, placed-count, instance-ready}

-- ---- the instance, and its module

abbrev placed_or : Placed → Option Placed → Placed
placed_or d None = d
placed_or d (Some p) = p

pub within : (source : Source) (top : Module) (corner : Corner) (ps : List Placed) (ready : Library) (rows : Rows) (i : ℕ) (s : Instance) → IsAt source top corner ps ready rows i s → i < length ps
within source top corner ps ready rows i s h = subst (λ n. i < n) (sym (placed-count source ps (instances source top) h.read.are_placed)) (slice_get_within (instances source top) i s h.there)

pub placed-is : (source : Source) (top : Module) (corner : Corner) (ps : List Placed) (ready : Library) (rows : Rows) (i : ℕ) (s : Instance) (p : Placed) → IsAt source top corner ps ready rows i s → slice_get ps i ≡ Some p
    → IsPlaced source p s
placed-is source top corner ps ready rows i s p h e =
    let k = placed-at source ps (instances source top) i s h.read.are_placed h.there in
    let same : k.0 ≡ p = ap (placed_or p) (sym k.1 ∙ e) in
    subst (λ x. IsPlaced source x s) same k.2

pub ready-is : (source : Source) (top : Module) (corner : Corner) (ps : List Placed) (library : Library) (rows : Rows) (i : ℕ) (s : Instance) (p : Placed) → IsAt source top corner ps library rows i s
    → slice_get ps i ≡ Some p → (q : Prepared) × (slice_get library.parts.items p.definition ≡ Some (Some (ready.Module q)))
ready-is source top corner ps library rows i s p h e =
    let k = instance-ready source corner top library s p h.read.is_ready (at-place (instances source top) i s h.there) (placed-is source top corner ps library rows i s p h e) in
    (k.0, k.1)

abbrev module_or : Prepared → Option (Option code_ready.Ready) → Prepared
module_or d (Some (Some (ready.Module q))) = q
module_or d (Some (Some (ready.Primitive k))) = d
module_or d (Some None) = d
module_or d None = d

pub prepared-is : (source : Source) (top : Module) (corner : Corner) (ps : List Placed) (library : Library) (rows : Rows) (i : ℕ) (s : Instance) (p : Placed) (q : Prepared)
    → IsAt source top corner ps library rows i s → slice_get ps i ≡ Some p → slice_get library.parts.items p.definition ≡ Some (Some (ready.Module q)) → IsPrepared q s.step.definition
prepared-is source top corner ps library rows i s p q h e g =
    let k = instance-ready source corner top library s p h.read.is_ready (at-place (instances source top) i s h.there) (placed-is source top corner ps library rows i s p h e) in
    let same : k.0 ≡ q = ap (module_or q) (sym k.1 ∙ g) in
    subst (λ x. IsPrepared x s.step.definition) same k.2

-- ---- its rows

pub row-is : (source : Source) (top : Module) (corner : Corner) (ps : List Placed) (ready : Library) (rows : Rows) (i : ℕ) (s : Instance) → IsAt source top corner ps ready rows i s
    → (before : List Instance) × (length before ≡ i) × HasRow source top rows before s
row-is source top corner ps ready rows i s h =
    let r = at-split (instances source top) i s h.there in
    (take i (instances source top), r.1, h.read.have_rows.each (take i (instances source top)) (drop (suc i) (instances source top)) s r.0)

pub inner-within : (source : Source) (top : Module) (corner : Corner) (ps : List Placed) (ready : Library) (rows : Rows) (i : ℕ) (s : Instance) (q : Prepared) (width : ℕ) → IsAt source top corner ps ready rows i s
    → IsPrepared q s.step.definition → width ≡ length (all_bits q.table)
    → (start : ℕ) × ((slice_get rows.starts.items i ≡ Some start) × (start + width ≤ length rows.inner.items))
inner-within source top corner ps ready rows i s q width h k w =
    let r = row-is source top corner ps ready rows i s h in
    let same : width ≡ length (all_bits (variables s.step.definition)) = w ∙ ap (λ vs. length (all_bits vs)) k.table in
    (r.2.start, (subst (λ j. slice_get rows.starts.items j ≡ Some r.2.start) r.1 r.2.starts, subst (λ n. r.2.start + n ≤ length rows.inner.items) (sym same) r.2.inner_within))

pub outer-within : (source : Source) (top : Module) (corner : Corner) (ps : List Placed) (ready : Library) (rows : Rows) (i : ℕ) (s : Instance) (q : Prepared) (width : ℕ) → IsAt source top corner ps ready rows i s
    → IsPrepared q s.step.definition → width ≡ length (all_bits q.table)
    → (start : ℕ) × ((slice_get rows.outer_starts.items i ≡ Some start) × (start + width ≤ length rows.outer.items))
outer-within source top corner ps ready rows i s q width h k w =
    let r = row-is source top corner ps ready rows i s h in
    let same : width ≡ length (all_bits (variables s.step.definition)) = w ∙ ap (λ vs. length (all_bits vs)) k.table in
    (r.2.outside, (subst (λ j. slice_get rows.outer_starts.items j ≡ Some r.2.outside) r.1 r.2.outer_starts, subst (λ n. r.2.outside + n ≤ length rows.outer.items) (sym same) r.2.outer_within))

pub here-is : (source : Source) (top : Module) (corner : Corner) (ps : List Placed) (ready : Library) (rows : Rows) (i : ℕ) (s : Instance) (q : Prepared) (width : ℕ) (row : List ℕ) → IsAt source top corner ps ready rows i s
    → IsPrepared q s.step.definition → width ≡ length (all_bits q.table) → ((start : ℕ) → slice_get rows.starts.items i ≡ Some start → row ≡ part_of rows.inner.items start width)
    → IsHere (nets source top) source s i q.table row
here-is source top corner ps ready rows i s q width row h k w f =
    let r = row-is source top corner ps ready rows i s h in
    let same : width ≡ length (all_bits (variables s.step.definition)) = w ∙ ap (λ vs. length (all_bits vs)) k.table in
    record {
      number = instance-number source top s i h.there;
      numbers = record {
        table = k.table;
        numbers = f r.2.start (subst (λ j. slice_get rows.starts.items j ≡ Some r.2.start) r.1 r.2.starts) ∙ ap (part_of rows.inner.items r.2.start) same ∙ r.2.inner
            ∙ ap (λ vs. map (number_at (nets source top) source s) (all_bits vs)) (sym k.table);
      };
    }

pub outside-is : (source : Source) (top : Module) (corner : Corner) (ps : List Placed) (ready : Library) (rows : Rows) (i : ℕ) (s : Instance) (q : Prepared) (width : ℕ) (row : List (Option ℕ))
    → IsAt source top corner ps ready rows i s → IsPrepared q s.step.definition → width ≡ length (all_bits q.table)
    → ((start : ℕ) → slice_get rows.outer_starts.items i ≡ Some start → row ≡ part_of rows.outer.items start width) → HasOutside (nets source top) source s q.table row
outside-is source top corner ps ready rows i s q width row h k w f =
    let r = row-is source top corner ps ready rows i s h in
    let same : width ≡ length (all_bits (variables s.step.definition)) = w ∙ ap (λ vs. length (all_bits vs)) k.table in
    record {
      numbers = f r.2.outside (subst (λ j. slice_get rows.outer_starts.items j ≡ Some r.2.outside) r.1 r.2.outer_starts) ∙ ap (part_of rows.outer.items r.2.outside) same ∙ r.2.outer
          ∙ ap (λ vs. map (outer_number (nets source top) source s.step s.above) (all_bits vs)) (sym k.table);
    }

-- by its own number
pub here-own : (all : List OwnNet) (source : Source) (s : Instance) (i : ℕ) (vs : List Variable) (row : List ℕ) → IsHere all source s i vs row → IsHere all source s s.step.number vs row
here-own all source s i vs row h = record { number = refl; numbers = h.numbers }

pub row-count : {A B : Type 0} (f : A → B) (row : List B) (bs : List A) → row ≡ map f bs → length row ≡ length bs
row-count f row bs e = ap length e ∙ length-map bs f

-- ---- leaves

size-some : (source : Source) (n : ℕ) (m : Module) → 1 ≤ size source n m
size-some source zero m = omega arith
size-some source (suc n) m = omega arith

not-one : (k : ℕ) → 1 ≤ k → (suc k == 1) ≡ false
not-one k le = grind (arith, nat_tests)

-- where the last level has none, an instance of size one is alone, and no other
alone-by : (source : Source) (n : ℕ) (m : Module) → (n ≡ 0 → children_in source m ≡ []) → is_empty (children_in source m) ≡ (size source n m == 1)
alone-by source zero m h = ap is_empty (h refl)
alone-by source (suc n) m h = by (children_in source m)
  where
    by : (cs : List Child) → is_empty cs ≡ (suc (sum_by (λ c. size source n c.definition) cs) == 1)
    by [] = refl
    by (c ∷ cs) =
        let e = sum_by-cons (λ c. size source n c.definition) c cs in
        let some = size-some source n c.definition in
        let more : (suc (sum_by (λ c. size source n c.definition) (c ∷ cs)) == 1) ≡ false = not-one (sum_by (λ c. size source n c.definition) (c ∷ cs)) (omega (arith, e, some)) in
        sym more

pub alone-is : (source : Source) (top : Module) (corner : Corner) (ps : List Placed) (ready : Library) (rows : Rows) (i : ℕ) (s : Instance) (p : Placed) → IsAt source top corner ps ready rows i s → slice_get ps i ≡ Some p
    → has_no_child source s.step ≡ (size source s.step.levels s.step.definition == 1)
alone-is source top corner ps ready rows i s p h e = alone-by source s.step.levels s.step.definition (no-children_at_limit source top s h.read.shallow (at-place (instances source top) i s h.there))

pub end-is : (source : Source) (top : Module) (corner : Corner) (ps : List Placed) (ready : Library) (rows : Rows) (i : ℕ) (s : Instance) (p : Placed) → IsAt source top corner ps ready rows i s → slice_get ps i ≡ Some p
    → (p.end ≡ i + size source s.step.levels s.step.definition) × (1 ≤ size source s.step.levels s.step.definition)
end-is source top corner ps ready rows i s p h e = (
  (placed-is source top corner ps ready rows i s p h e).end ∙ ap (λ n. n + size source s.step.levels s.step.definition) (instance-number source top s i h.there),
  size-some source s.step.levels s.step.definition,
)

-- ---- constants at ports

pub constants-are : (s c : Instance) (scope : ℕ) (vs : List Variable) (text : code_text.Instance) (q : Prepared) (ps : List Name) (ks slice : List code_constant.PortConstant) → IsInside s c scope vs text
    → IsPrepared q c.step.definition → ps ≡ q.ports.items → slice ≡ ks
    → ((m : Module) → AreOf m q.table (map view_name ps) → AreConnected vs m text.place (view_connections text.connections)
    → map (view_constant q.table) ks ≡ constants_in vs (view_connections text.connections) (map view_name ps))
    → map (view_constant q.table) slice ≡ constants_in (variables s.step.definition) c.step.connections (port_list c.step.definition)
constants-are s c scope vs text q ps ks slice h k e g f =
    let ports : map view_name ps ≡ port_list c.step.definition = ap (map view_name) e ∙ k.ports in
    ap (map (view_constant q.table)) g ∙ f c.step.definition (record { table = k.table; list = ports }) h.connected ∙ (λ i. constants_in (h.table i) (sym h.connections i) (ports i))

alone-same : (above : List Step) (o : Option ℕ) (end i size : ℕ) → o ≡ parent_of above → end ≡ i + size → (not (is_empty above) && (size == 1)) ≡ is_alone o end i
alone-same [] o end i size e f = ap (λ o. is_alone o end i) (sym e)
alone-same (p ∷ above) o end i size e f = let n : size ≡ end - i = omega arith in ap (λ k. k == 1) n ∙ ap (λ o. is_alone o end i) (sym e)

pub leaf-is : (source : Source) (top : Module) (corner : Corner) (ps : List Placed) (ready : Library) (rows : Rows) (i : ℕ) (s : Instance) (p : Placed) → IsAt source top corner ps ready rows i s → slice_get ps i ≡ Some p
    → is_leaf source s ≡ is_alone p.parent p.end i
leaf-is source top corner ps ready rows i s p h e =
    ap (λ b. not (is_empty s.above) && b) (alone-is source top corner ps ready rows i s p h e)
    ∙ alone-same s.above p.parent p.end i (size source s.step.levels s.step.definition) (placed-is source top corner ps ready rows i s p h e).parent (end-is source top corner ps ready rows i s p h e).0

pub one-is : (source : Source) (top : Module) (corner : Corner) (ps : List Placed) (ready : Library) (rows : Rows) (i : ℕ) (s : Instance) (p : Placed) → IsAt source top corner ps ready rows i s → slice_get ps i ≡ Some p
    → has_no_child source s.step ≡ (p.end - i == 1)
one-is source top corner ps ready rows i s p h e =
    let k = end-is source top corner ps ready rows i s p h e in
    let n : size source s.step.levels s.step.definition ≡ p.end - i = omega (arith, k.0) in
    alone-is source top corner ps ready rows i s p h e ∙ ap (λ k. k == 1) n

-- no Legs are added where it is no leaf
pub no-legs : (delays : List GateDelays) (udps : List UdpUse) (all : List OwnNet) (source : Source) (s : Instance) (old : Placing) → is_leaf source s ≡ false → Adds delays udps all old old (legs source s)
no-legs delays udps all source s old e =
    let none : [] ≡ legs source s = ap (λ b. if b then flat_map (variable_legs source s) (variables s.step.definition) else []) (sym e) in
    subst (Adds delays udps all old old) none (adds delays udps all old old [] [] (means-nil delays udps all) (puts-none old))

-- ---- the inner nets of its ends

pub ends-within : (source : Source) (top : Module) (rows : Rows) (before : List Instance) (s : Instance) (i : ℕ) (e : PathEnds) (count : ℕ) → length before ≡ i → HasRow source top rows before s
    → AreEnds s.step.definition e
    → count ≡ length e.bits.items → (start : ℕ) × ((slice_get rows.end_starts.items i ≡ Some start) × (start + count ≤ length rows.ends.items))
ends-within source top rows before s i e count at r are n =
    let same : count ≡ length (path_ends s.step.definition) = n ∙ sym (length-map e.bits.items (bit_seen (variables s.step.definition))) ∙ ap length are.bits in
    (r.end, (subst (λ j. slice_get rows.end_starts.items j ≡ Some r.end) at r.end_starts, subst (λ n. r.end + n ≤ length rows.ends.items) (sym same) r.ends_within))

pub ends-here : (source : Source) (top : Module) (rows : Rows) (before : List Instance) (s : Instance) (i : ℕ) (e : PathEnds) (count : ℕ) (ends : List ℕ) → length before ≡ i → HasRow source top rows before s
    → AreEnds s.step.definition e → count ≡ length e.bits.items → ((start : ℕ) → slice_get rows.end_starts.items i ≡ Some start → ends ≡ part_of rows.ends.items start count)
    → ends ≡ map (λ b. number_of (nets source top) (inner_spot s b)) (path_ends s.step.definition)
ends-here source top rows before s i e count ends at r are n f =
    let same : count ≡ length (path_ends s.step.definition) = n ∙ sym (length-map e.bits.items (bit_seen (variables s.step.definition))) ∙ ap length are.bits in
    f r.end (subst (λ j. slice_get rows.end_starts.items j ≡ Some r.end) at r.end_starts) ∙ ap (part_of rows.ends.items r.end) same ∙ r.ends
