-- The Paths of a member.
use Rattle.std.specs.Prelude.{◌≡◌, ℕ, ◌+◌, ◌-◌, ◌<◌, ◌≤◌, List, [], ◌∷◌, Some, flat_map, length, map, slice_index_or, take, drop, zip, refl}
use Rattle.std.specs.List.{All, AllByRecursion}
use Rattle.std.proofs.Common.{sym, ◌∙◌, ap, arith, subst}
use Rattle.std.proofs.lemmas.List.{take-map, drop-map, length-map}
use Rattle.std.proofs.lemmas.List.Elements.{recursion_from_All, All-take, All-drop}
use Rattle.std.proofs.lemmas.Option.{slice_get_within, slice_get-get_or}
use Rattle.sg_circuit.specs.declared.elements.ElementKind.TheVariants as kind
use Rattle.sg_circuit.specs.declared.elements.UdpUse.{UdpUse}
use Rattle.sg_delay.specs.declared.gates.GateDelays.{GateDelays}
use Rattle.sg_delay.specs.declared.limits.PulseStyle.TheVariants.{OnEvent}
use Rattle.sg_text.specs.declared.places.Place.{Place}
use Rattle.vl_tree.specs.Tree.{Module, Source}
use Rattle.elab_model.specs.Elements.{path_at}
use Rattle.elab_model.specs.Ends.{first_ends, path_ends, inner_spot}
use Rattle.elab_model.specs.Hierarchy.{Instance}
use Rattle.elab_model.specs.Members.{Member, members}
use Rattle.elab_model.specs.Names.{Variable, variables}
use Rattle.elab_model.specs.Nets.{OwnNet, nets, number_of}
use Rattle.elab_model.specs.Terms.{NetBit}
use Rattle.elab_laws.specs.Handing.{all_bits, number_at}
use Rattle.elab_ends.proofs.Spans.{is-within, is-part as part-is}
use Rattle.elab_ends.specs.Seen.{bit_seen, bits_seen}
use Rattle.elab_nets.specs.ReadyOfModules.{IsPrepared}
use Rattle.elab_nets.specs.Prepared.{Prepared}
use Rattle.elab_nets.specs.declared.rows.Rows.{Rows}
use Rattle.elab_elements.specs.Adding.{IsHere}
use Rattle.elab_elements.specs.Standing.{HasPaths}
use Rattle.elab_elements.specs.Words.{net_in, path_puts}
use Rattle.elab_elements.proofs.Meaning.{Means, means-nil, means-one, means-append, number-is, same-count}

-- each Path leads from its inner net to the net of its bit
pub paths-mean : (delays : List GateDelays) (udps : List UdpUse) (all : List OwnNet) (source : Source) (s : Instance) (scope : ℕ) (place : Place) (vs : List Variable) (row bits ends : List ℕ) (bs : List NetBit)
    → IsHere all source s scope vs row → AllByRecursion (λ i. i < length (all_bits vs)) bits → bits_seen vs bits ≡ bs → ends ≡ map (λ b. number_of all (inner_spot s b)) bs
    → Means delays udps all (flat_map (path_puts scope place row) (zip bits ends)) (map (path_at source s place) bs)
paths-mean delays udps all source s scope place vs row bits ends bs h below seen is =
    subst (λ cs. Means delays udps all (flat_map (path_puts scope place row) (zip bits ends)) (map (path_at source s place) cs)) seen
    (subst (λ ns. Means delays udps all (flat_map (path_puts scope place row) (zip bits ns)) (map (path_at source s place) (bits_seen vs bits)))
    (sym (is ∙ ap (map (λ b. number_of all (inner_spot s b))) (sym seen))) (by bits below))
  where
    by : (is : List ℕ) → AllByRecursion (λ i. i < length (all_bits vs)) is
        → Means delays udps all (flat_map (path_puts scope place row) (zip is (map (λ b. number_of all (inner_spot s b)) (bits_seen vs is)))) (map (path_at source s place) (bits_seen vs is))
    by [] l = means-nil delays udps all
    by (i ∷ is) l =
        let b = bit_seen vs i in
        means-append delays udps all (path_puts scope place row (i, number_of all (inner_spot s b)))
        (flat_map (path_puts scope place row) (zip is (map (λ b. number_of all (inner_spot s b)) (bits_seen vs is)))) (path_at source s place b ∷ []) (map (path_at source s place) (bits_seen vs is))
        (means-one delays udps all scope place (number_of all (inner_spot s b) ∷ []) (net_in row i) (kind.Path (record { start = 0; end = 0 }) OnEvent) (path_at source s place b)
        (sym h.number) refl refl (number-is all source s vs row i h.numbers l.0) refl tt)
        (by is l.1)

-- ---- those of a member among those of its module

pub starts-within : (source : Source) (top : Module) (rows : Rows) (number : ℕ) (prepared : Prepared) (row : List ℕ) (k : ℕ) (x : Member) (s : Instance) → HasPaths source top rows number prepared row k x s
    → k + 1 < length prepared.ends.starts.items
starts-within source top rows number prepared row k x s h =
    let below = slice_get_within (members s.step.definition) k x h.member in
    let count = h.is_prepared.ends.counted in
    omega arith

-- where they stand
pub record IsPartAt (row : List ℕ) (prepared : Prepared) (k : ℕ) (x : Member) (s : Instance) (start end : ℕ) : Type 0 where
  pub order : start ≤ end
  pub bits_within : end ≤ length prepared.ends.bits.items
  pub bits : bits_seen (variables s.step.definition) (take (end - start) (drop start prepared.ends.bits.items)) ≡ first_ends s.step.definition (k, x)
  pub in_row : All (λ i. i < length row) (take (end - start) (drop start prepared.ends.bits.items))

pub is-part : (source : Source) (top : Module) (rows : Rows) (number : ℕ) (prepared : Prepared) (row : List ℕ) (k : ℕ) (x : Member) (s : Instance) (start end : ℕ)
    → HasPaths source top rows number prepared row k x s
    → start ≡ slice_index_or prepared.ends.starts.items k start → end ≡ slice_index_or prepared.ends.starts.items (k + 1) end → IsPartAt row prepared k x s start end
is-part source top rows number prepared row k x s start end h a b =
    let m = s.step.definition in
    let e = h.is_prepared.ends in
    let more = starts-within source top rows number prepared row k x s h in
    let starts = prepared.ends.starts.items in
    let bits = prepared.ends.bits.items in
    let first = slice_get-get_or starts k start (omega (arith, more)) ∙ ap Some (sym a) in
    let last = slice_get-get_or starts (k + 1) end more ∙ ap Some (sym b) in
    let within = is-within (first_ends m) (members m) (bit_seen (variables m)) bits starts e.bits e.starts k x h.member start end first last in
    let width : length row ≡ length (all_bits (variables m)) = ap length h.here.numbers.numbers ∙ length-map (all_bits prepared.table) (number_at (nets source top) source s)
    ∙ ap (λ vs. length (all_bits vs)) h.is_prepared.table in
    record {
      order = within.0;
      bits_within = within.1;
      bits = part-is (first_ends m) (members m) (bit_seen (variables m)) bits starts e.bits e.starts k x h.member start end (take (end - start) (drop start bits)) first last refl;
      in_row = subst (λ n. All (λ i. i < n) (take (end - start) (drop start bits))) (sym width)
          (All-take (λ i. i < length (all_bits (variables m))) (end - start) (drop start bits) (All-drop (λ i. i < length (all_bits (variables m))) start bits e.in_row));
    }

pub ends-part : (all : List OwnNet) (prepared : Prepared) (row ends : List ℕ) (k : ℕ) (x : Member) (s : Instance) (start end : ℕ) → IsPrepared prepared s.step.definition
    → IsPartAt row prepared k x s start end → ends ≡ map (λ b. number_of all (inner_spot s b)) (path_ends s.step.definition)
    → (take (end - start) (drop start ends) ≡ map (λ b. number_of all (inner_spot s b)) (first_ends s.step.definition (k, x))) × (end ≤ length ends)
ends-part all prepared row ends k x s start end ready h e =
    let f : NetBit → ℕ = λ b. number_of all (inner_spot s b) in
    let g = bit_seen (variables s.step.definition) in
    let bits = prepared.ends.bits.items in
    let same : ends ≡ map f (map g bits) = e ∙ ap (map f) (sym ready.ends.bits) in
    let n : length ends ≡ length bits = ap length same ∙ length-map (map g bits) f ∙ length-map bits g in
    let within = h.bits_within in (
      ap (λ ns. take (end - start) (drop start ns)) same ∙ ap (take (end - start)) (drop-map f start (map g bits)) ∙ take-map f (end - start) (drop start (map g bits))
          ∙ ap (map f) (ap (take (end - start)) (drop-map g start bits) ∙ take-map g (end - start) (drop start bits) ∙ h.bits),
      omega (arith, n, within),
    )

-- the Paths of a member
pub member-paths : (delays : List GateDelays) (udps : List UdpUse) (source : Source) (top : Module) (rows : Rows) (number : ℕ) (prepared : Prepared) (row bits ends whole : List ℕ) (place : Place) (k : ℕ)
    (x : Member) (s : Instance)
    (start end : ℕ) → HasPaths source top rows number prepared row k x s → start ≡ slice_index_or prepared.ends.starts.items k start → end ≡ slice_index_or prepared.ends.starts.items (k + 1) end
    → bits ≡ take (end - start) (drop start prepared.ends.bits.items) → ends ≡ take (end - start) (drop start whole)
    → whole ≡ map (λ b. number_of (nets source top) (inner_spot s b)) (path_ends s.step.definition)
    → Means delays udps (nets source top) (flat_map (path_puts number place row) (zip bits ends)) (map (path_at source s place) (first_ends s.step.definition (k, x)))
member-paths delays udps source top rows number prepared row bits ends whole place k x s start end h a b bits_are ends_are w =
    let p = is-part source top rows number prepared row k x s start end h a b in
    let q = ends-part (nets source top) prepared row whole k x s start end h.is_prepared p w in
    let width : length row ≡ length (all_bits prepared.table) = ap length h.here.numbers.numbers ∙ length-map (all_bits prepared.table) (number_at (nets source top) source s) in
    paths-mean delays udps (nets source top) source s number place prepared.table row bits ends (first_ends s.step.definition (k, x)) h.here
    (subst (AllByRecursion (λ i. i < length (all_bits prepared.table))) (sym bits_are)
    (recursion_from_All (λ i. i < length (all_bits prepared.table)) (take (end - start) (drop start prepared.ends.bits.items))
    (subst (λ n. All (λ i. i < n) (take (end - start) (drop start prepared.ends.bits.items))) width p.in_row)))
    (ap (bits_seen prepared.table) bits_are ∙ ap (λ vs. bits_seen vs (take (end - start) (drop start prepared.ends.bits.items))) h.is_prepared.table ∙ p.bits) (ends_are ∙ q.0)

pub paths-within : (source : Source) (top : Module) (rows : Rows) (number : ℕ) (prepared : Prepared) (row bits ends whole : List ℕ) (place : Place) (k : ℕ) (x : Member) (s : Instance) (start end : ℕ)
    → HasPaths source top rows number prepared row k x s → start ≡ slice_index_or prepared.ends.starts.items k start → end ≡ slice_index_or prepared.ends.starts.items (k + 1) end
    → bits ≡ take (end - start) (drop start prepared.ends.bits.items) → ends ≡ take (end - start) (drop start whole)
    → whole ≡ map (λ b. number_of (nets source top) (inner_spot s b)) (path_ends s.step.definition)
    → length (flat_map (path_puts number place row) (zip bits ends)) ≤ length (map (path_at source s place) (first_ends s.step.definition (k, x)))
paths-within source top rows number prepared row bits ends whole place k x s start end h a b bits_are ends_are w =
    let m = member-paths [] [] source top rows number prepared row bits ends whole place k x s start end h a b bits_are ends_are w in
    let e = same-count _ _ m.places in
    omega (arith, e)
