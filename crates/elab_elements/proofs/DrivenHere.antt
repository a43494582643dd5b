-- The row of what is driven inside an instance is that of the definition.
use Rattle.std.specs.Prelude.{◌≡◌, ℕ, ◌<◌, List, [], ◌∷◌, All, Some, map, length, slice_get, zip, refl}
use Rattle.std.specs.List.{AllByRecursion}
use Rattle.std.proofs.Common.{sym, ◌∙◌, ap, arith, subst}
use Rattle.std.proofs.lemmas.List.{length-map}
use Rattle.std.proofs.lemmas.List.Elements.{recursion_from_All}
use Rattle.sg_circuit.specs.Closed.{width_of}
use Rattle.sg_delay.specs.declared.corners.Corner.{Corner}
use Rattle.vl_tree.specs.Tree.{Module, Source}
use Rattle.elab_model.specs.Bits.{positions}
use Rattle.elab_model.specs.Ends.{path_ends, inner_spot}
use Rattle.elab_model.specs.Hierarchy.{Instance, instances}
use Rattle.elab_model.specs.Homes.{home_of}
use Rattle.elab_model.specs.Names.{Variable, variables}
use Rattle.elab_model.specs.Nets.{OwnNet, nets, number_of}
use Rattle.elab_model.specs.Terms.{NetBit}
use Rattle.elab_laws.specs.Handing.{variable_bits, all_bits, number_at}
use Rattle.elab_laws.specs.Laws.{AreSound}
use Rattle.elab_laws.specs.NumberLaws.{end_numbers, driven_number}
use Rattle.elab_laws.proofs.DrivenNumbers.{driven-is_numbered}
use Rattle.elab_laws.proofs.Lists.{In, all-from, all-in, all-flat_in, all-map, all-range, all-weaker}
use Rattle.elab_hierarchy.specs.declared.instances.Placed.{Placed}
use Rattle.elab_nets.specs.Library.{Library}
use Rattle.elab_nets.specs.Prepared.{Prepared}
use Rattle.elab_nets.specs.ReadyOfModules.{IsPrepared}
use Rattle.elab_ends.specs.Ends.{AreEnds}
use Rattle.elab_ends.specs.Seen.{bit_seen, bits_seen}
use Rattle.elab_ends.specs.declared.ends.PathEnds.{PathEnds}
use Rattle.elab_nets.specs.Numbers.{HasNumbers}
use Rattle.elab_nets.specs.Rows.{part_of}
use Rattle.elab_nets.specs.declared.rows.Rows.{Rows}
use Rattle.elab_elements.specs.Adding.{HasDriven, driven_at}
use Rattle.elab_elements.specs.Standing.{IsAt}
use Rattle.elab_elements.specs.Words.{net_in, ends_in}
use Rattle.elab_elements.proofs.Meaning.{map-map, number-is}
use Rattle.elab_elements.proofs.ReadHere.{row-is, here-is, row-count, ends-here}
use Rattle.elab_elements.proofs.StandingAt.{at-place}

map-same : {A B : Type 0} (f g : A → B) (xs : List A) → AllByRecursion (λ x. f x ≡ g x) xs → map f xs ≡ map g xs
map-same f g [] h = refl
map-same f g (x ∷ xs) h = λ i. h.0 i ∷ map-same f g xs h.1 i

-- by the law, bit by bit
pub driven-numbers : (source : Source) (top : Module) (corner : Corner) (s : Instance) → AreSound source top corner → In s (instances source top)
    → map (driven_at (nets source top) source s) (all_bits (variables s.step.definition))
    ≡ map (driven_number (end_numbers (nets source top) source s)) (map (number_at (nets source top) source s) (all_bits (variables s.step.definition)))
driven-numbers source top corner s sound there =
    let all = nets source top in
    let vs = variables s.step.definition in
    let f : ℕ → ℕ = driven_number (end_numbers all source s) in
    map-same (driven_at all source s) (λ b. f (number_at all source s b)) (all_bits vs)
    (all-flat_in (λ b. driven_at all source s b ≡ f (number_at all source s b)) variable_bits vs
    (all-from (λ v. AllByRecursion (λ b. driven_at all source s b ≡ f (number_at all source s b)) (variable_bits v)) vs
    (λ v known. all-map (λ b. driven_at all source s b ≡ f (number_at all source s b)) (λ p. (v, p)) (positions v.range)
    (all-from (λ p. driven_at all source s (v, p) ≡ f (number_at all source s (v, p))) (positions v.range)
    (λ p h. driven-is_numbered source top corner s v p sound there known (all-in (λ p. p < width_of v.range) p (positions v.range) (all-range (width_of v.range) 0 (width_of v.range) (omega arith)) h))))))
    ∙ sym (map-map f (number_at all source s) (all_bits vs))

-- the bits with paths, by the numbers of their nets
zip-maps : {A : Type 0} (f g : A → ℕ) (xs : List A) → zip (map f xs) (map g xs) ≡ map (λ x. (f x, g x)) xs
zip-maps f g [] = refl
zip-maps f g (x ∷ xs) = ap (λ ys. (f x, g x) ∷ ys) (zip-maps f g xs)

pub ends-are : (all : List OwnNet) (source : Source) (s : Instance) (vs : List Variable) (row ends : List ℕ) (e : PathEnds) → AreEnds s.step.definition e → HasNumbers all source s vs row
    → ends ≡ map (λ b. number_of all (inner_spot s b)) (path_ends s.step.definition) → ends_in row e.bits.items ends ≡ end_numbers all source s
ends-are all source s vs row ends e are h is =
    let home : NetBit → ℕ = λ b. number_of all (home_of source s b.name b.position) in
    let inside : NetBit → ℕ = λ b. number_of all (inner_spot s b) in
    let ws = variables s.step.definition in
    let own : HasNumbers all source s ws row = subst (λ us. HasNumbers all source s us row) h.table h in
    let nets : map (net_in row) e.bits.items ≡ map home (path_ends s.step.definition) =
    map-same (net_in row) (λ i. home (bit_seen ws i)) e.bits.items
    (all-weaker (λ i. i < length (all_bits ws)) (λ i. net_in row i ≡ home (bit_seen ws i)) e.bits.items (λ i lt. number-is all source s ws row i own lt)
    (recursion_from_All (λ i. i < length (all_bits ws)) e.bits.items are.in_row))
    ∙ sym (map-map home (bit_seen ws) e.bits.items) ∙ ap (map home) are.bits in
    (λ i. zip (nets i) (is i)) ∙ zip-maps home inside (path_ends s.step.definition)

-- the row that is made of it
pub driven-is : (source : Source) (top : Module) (corner : Corner) (s : Instance) (vs : List Variable) (row ends inside : List ℕ) (e : PathEnds) → AreSound source top corner → In s (instances source top)
    → AreEnds s.step.definition e → HasNumbers (nets source top) source s vs row → ends ≡ map (λ b. number_of (nets source top) (inner_spot s b)) (path_ends s.step.definition)
    → inside ≡ map (driven_number (ends_in row e.bits.items ends)) row → HasDriven (nets source top) source s vs inside
driven-is source top corner s vs row ends inside e sound there are h is made =
    let all = nets source top in
    record {
      numbers = made ∙ (λ i. map (driven_number (ends-are all source s vs row ends e are h is i)) row) ∙ ap (map (driven_number (end_numbers all source s))) h.numbers
          ∙ ap (λ us. map (driven_number (end_numbers all source s)) (map (number_at all source s) (all_bits us))) h.table
          ∙ sym (driven-numbers source top corner s sound there) ∙ ap (λ us. map (driven_at all source s) (all_bits us)) (sym h.table);
    }

-- and where there is no such bit, the row itself
pub driven-none : (source : Source) (top : Module) (corner : Corner) (s : Instance) (vs : List Variable) (row : List ℕ) (e : PathEnds) → AreSound source top corner → In s (instances source top)
    → AreEnds s.step.definition e → HasNumbers (nets source top) source s vs row → length e.bits.items ≡ 0 → HasDriven (nets source top) source s vs row
driven-none source top corner s vs row e sound there are h empty =
    let all = nets source top in
    let none : path_ends s.step.definition ≡ [] = sym are.bits ∙ ap (bits_seen (variables s.step.definition)) (no-bit e.bits.items empty) in
    driven-is source top corner s vs row [] row e sound there are h (ap (map (λ b. number_of all (inner_spot s b))) (sym none))
    (sym ((λ i. map (driven_number (ends_in row (no-bit e.bits.items empty i) [])) row) ∙ same row))
  where
    no-bit : (is : List ℕ) → length is ≡ 0 → is ≡ []
    no-bit [] e = refl
    no-bit (i ∷ is) e = absurd (omega arith)

    same : (ns : List ℕ) → map (driven_number []) ns ≡ ns
    same [] = refl
    same (n ∷ ns) = ap (λ ms. n ∷ ms) (same ns)

-- ---- of an instance at its place

pub drives-own : (source : Source) (top : Module) (corner : Corner) (ps : List Placed) (library : Library) (rows : Rows) (i : ℕ) (s : Instance) (q : Prepared) (width : ℕ) (row : List ℕ)
    → IsAt source top corner ps library rows i s → IsPrepared q s.step.definition → width ≡ length (all_bits q.table)
    → ((start : ℕ) → slice_get rows.starts.items i ≡ Some start → row ≡ part_of rows.inner.items start width)
    → length q.ends.bits.items ≡ 0 → HasDriven (nets source top) source s q.table row
drives-own source top corner ps library rows i s q width row h k w f empty =
    driven-none source top corner s q.table row q.ends h.read.is_ready.sound (at-place (instances source top) i s h.there) k.ends
    (here-is source top corner ps library rows i s q width row h k w f).numbers empty

pub drives-made : (source : Source) (top : Module) (corner : Corner) (ps : List Placed) (library : Library) (rows : Rows) (i : ℕ) (s : Instance) (q : Prepared) (width count : ℕ) (row ends inside : List ℕ)
    → IsAt source top corner ps library rows i s → IsPrepared q s.step.definition → width ≡ length (all_bits q.table)
    → ((start : ℕ) → slice_get rows.starts.items i ≡ Some start → row ≡ part_of rows.inner.items start width)
    → count ≡ length q.ends.bits.items → ((start : ℕ) → slice_get rows.end_starts.items i ≡ Some start → ends ≡ part_of rows.ends.items start count)
    → inside ≡ map (driven_number (ends_in row q.ends.bits.items ends)) row → HasDriven (nets source top) source s q.table inside
drives-made source top corner ps library rows i s q width count row ends inside h k w f n g made =
    let r = row-is source top corner ps library rows i s h in
    driven-is source top corner s q.table row ends inside q.ends h.read.is_ready.sound (at-place (instances source top) i s h.there) k.ends
    (here-is source top corner ps library rows i s q width row h k w f).numbers
    (ends-here source top rows r.0 s i q.ends count ends r.1 r.2 k.ends n g) made

-- the ends stand in the row, and are as many as their inner nets
pub ends-in_row : (source : Source) (top : Module) (corner : Corner) (ps : List Placed) (library : Library) (rows : Rows) (i : ℕ) (s : Instance) (q : Prepared) (width : ℕ) (row bits : List ℕ)
    → IsAt source top corner ps library rows i s → IsPrepared q s.step.definition → width ≡ length (all_bits q.table)
    → ((start : ℕ) → slice_get rows.starts.items i ≡ Some start → row ≡ part_of rows.inner.items start width)
    → bits ≡ q.ends.bits.items → All (λ i. i < length row) bits
ends-in_row source top corner ps library rows i s q width row bits h k w f e =
    let here = here-is source top corner ps library rows i s q width row h k w f in
    let n : length row ≡ length (all_bits (variables s.step.definition)) = row-count _ row (all_bits q.table) here.numbers.numbers ∙ ap (λ vs. length (all_bits vs)) k.table in
    subst (All (λ i. i < length row)) (sym e) (subst (λ n. All (λ i. i < n) q.ends.bits.items) (sym n) k.ends.in_row)

pub ends-count : (source : Source) (top : Module) (corner : Corner) (ps : List Placed) (library : Library) (rows : Rows) (i : ℕ) (s : Instance) (q : Prepared) (count : ℕ) (bits ends : List ℕ)
    → IsAt source top corner ps library rows i s → IsPrepared q s.step.definition → bits ≡ q.ends.bits.items → count ≡ length q.ends.bits.items
    → ((start : ℕ) → slice_get rows.end_starts.items i ≡ Some start → ends ≡ part_of rows.ends.items start count) → length bits ≡ length ends
ends-count source top corner ps library rows i s q count bits ends h k e n g =
    let r = row-is source top corner ps library rows i s h in
    let f : NetBit → ℕ = λ b. number_of (nets source top) (inner_spot s b) in
    ap length e ∙ sym (length-map q.ends.bits.items (bit_seen (variables s.step.definition))) ∙ ap length k.ends.bits ∙ sym (length-map (path_ends s.step.definition) f)
    ∙ ap length (sym (ends-here source top rows r.0 s i q.ends count ends r.1 r.2 k.ends n g))
