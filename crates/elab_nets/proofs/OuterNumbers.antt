-- The numbers of what lies outside the bits of an instance, by places of its row.
use Rattle.std.specs.Prelude.{◌≡◌, ◌⊎◌, ℕ, ◌+◌, ◌<◌, List, ◌∷◌, Bool, true, false, All, IfSome, Option, Some, None, option_map, map, length, slice_get, refl, if◌then◌else◌}
use Rattle.std.specs.List.{range_with_len}
use Rattle.std.specs.Option.{unwrap_or}
use Rattle.std.proofs.Common.{sym, ◌∙◌, ap, arith, inl, inr, subst}
use Rattle.std.proofs.lemmas.List.Elements.{recursion_from_All}
use Rattle.std.proofs.lemmas.List.FromFn.{length-map-range_with_len, get_or-map-range_with_len}
use Rattle.std.proofs.lemmas.Option.{slice_get-map, slice_get_within, get_or_from_slice_get}
use Rattle.std.proofs.lemmas.Simd.{map-map}
use Rattle.vl_tree.specs.Tree.{Source}
use Rattle.elab_model.specs.Bits.{Bit, net, constant}
use Rattle.elab_model.specs.Connections.{bound_to}
use Rattle.elab_model.specs.Elements.{bound_above, leg_source}
use Rattle.elab_model.specs.Hierarchy.{Step, Instance}
use Rattle.elab_model.specs.Homes.{outside, has_leg, home}
use Rattle.elab_model.specs.Names.{Variable, variables}
use Rattle.elab_model.specs.Nets.{OwnNet, is_unbound, number_of}
use Rattle.elab_laws.specs.Handing.{all_bits, given_by, number_at}
use Rattle.elab_laws.proofs.Lists.{In, all-get}
use Rattle.elab_bits.specs.Seen.{bit_at, view_bit, IsInRow}
use Rattle.elab_bits.specs.declared.bits.Bit as code_bit
use Rattle.elab_bits.specs.declared.bits.Bit.TheVariants as bit
use Rattle.elab_nets.specs.Inputs.{bound_at, number_in, is_nothing}
use Rattle.elab_nets.specs.Outside.{outer_number}
use Rattle.elab_nets.specs.Written.{AreRightOrAmong}
use Rattle.elab_nets.proofs.Filters.{by-places}
use Rattle.elab_nets.proofs.BitPlaces.{blank, bit-there}

-- ---- the number outside a bit, by what it is bound to

abbrev pub IsNoNet : Option Bit → Type 0
IsNoNet None = Unit {0}
IsNoNet (Some (constant at v)) = Unit {0}
IsNoNet (Some (net m q)) = ⊥

-- where a Leg stands at it and no net of the parent is bound to it, a new net's
pub outer-new : (all : List OwnNet) (source : Source) (t parent : Step) (over : List Step) (b : Variable × ℕ) (o : Option Bit) → has_leg source t b.0.name ≡ true
    → bound_to t parent b.0.name b.1 ≡ o → IsNoNet o
    → outer_number all source t (parent ∷ over) b ≡ Some (number_of all (outside parent.number t.member b.0.name b.1))
outer-new all source t parent over b o leg bound none =
    ap (λ l. if l then Some (number_of all (leg_source source t (parent ∷ over) b.0.name b.1 (bound_to t parent b.0.name b.1))) else given_by (λ m q. number_of all (home source parent over m q)) (bound_to t parent b.0.name b.1)) leg
    ∙ ap (λ o. Some (number_of all (leg_source source t (parent ∷ over) b.0.name b.1 o))) bound ∙ by o none
  where
    by : (o : Option Bit) → IsNoNet o → Some (number_of all (leg_source source t (parent ∷ over) b.0.name b.1 o)) ≡ Some (number_of all (outside parent.number t.member b.0.name b.1))
    by None n = refl
    by (Some (constant at v)) n = refl
    by (Some (net m q)) n = absurd n

-- where a net of the parent is bound to it, that one's
outer-net : (all : List OwnNet) (source : Source) (t parent : Step) (over : List Step) (b : Variable × ℕ) (m : List ℕ) (q : ℕ) → bound_to t parent b.0.name b.1 ≡ Some (net m q)
    → outer_number all source t (parent ∷ over) b ≡ Some (number_of all (home source parent over m q))
outer-net all source t parent over b m q bound =
    ap (λ o. if has_leg source t b.0.name then Some (number_of all (leg_source source t (parent ∷ over) b.0.name b.1 o)) else given_by (λ m q. number_of all (home source parent over m q)) o) bound
    ∙ by (has_leg source t b.0.name)
  where
    by : (l : Bool) → (if l then Some (number_of all (home source parent over m q)) else Some (number_of all (home source parent over m q))) ≡ Some (number_of all (home source parent over m q))
    by true = refl
    by false = refl

-- and else none
outer-none : (all : List OwnNet) (source : Source) (t parent : Step) (over : List Step) (b : Variable × ℕ) (o : Option Bit) → has_leg source t b.0.name ≡ false
    → bound_to t parent b.0.name b.1 ≡ o → IsNoNet o
    → outer_number all source t (parent ∷ over) b ≡ None
outer-none all source t parent over b o leg bound none =
    ap (λ l. if l then Some (number_of all (leg_source source t (parent ∷ over) b.0.name b.1 (bound_to t parent b.0.name b.1))) else given_by (λ m q. number_of all (home source parent over m q)) (bound_to t parent b.0.name b.1)) leg
    ∙ ap (given_by (λ m q. number_of all (home source parent over m q))) bound ∙ by o none
  where
    by : (o : Option Bit) → IsNoNet o → given_by (λ m q. number_of all (home source parent over m q)) o ≡ None
    by None n = refl
    by (Some (constant at v)) n = refl
    by (Some (net m q)) n = absurd n

-- ---- what the code's bits say

pub record HasBound (s c : Instance) (bits : List (Option code_bit.Bit)) : Type 0 where
  pub above : c.above ≡ s.step ∷ s.above
  pub seen : map (option_map (view_bit (variables s.step.definition))) bits ≡ map (λ b. bound_to c.step s.step b.0.name b.1) (all_bits (variables c.step.definition))
  pub within : All (λ b. IfSome b (IsInRow (variables s.step.definition))) bits

pub seen-at : (s c : Instance) (bits : List (Option code_bit.Bit)) → HasBound s c bits → (i : ℕ) → i < length (all_bits (variables c.step.definition))
    → option_map (view_bit (variables s.step.definition)) (bound_at bits i) ≡ bound_to c.step s.step (bit_at (variables c.step.definition) i).0.name (bit_at (variables c.step.definition) i).1
seen-at s c bits h i lt =
    let vs = variables c.step.definition in
    let f = option_map (view_bit (variables s.step.definition)) in
    let g : Variable × ℕ → Option Bit = λ (b : Variable × ℕ). bound_to c.step s.step b.0.name b.1 in
    one (slice_get bits i) (g (bit_at vs i)) (sym (slice_get-map f bits i) ∙ ap (λ xs. slice_get xs i) h.seen ∙ slice_get-map g (all_bits vs) i ∙ ap (option_map g) (bit-there vs i lt))
  where
    one : (o : Option (Option code_bit.Bit)) (y : Option Bit) → option_map (option_map (view_bit (variables s.step.definition))) o ≡ Some y
        → option_map (view_bit (variables s.step.definition)) (unwrap_or o None) ≡ y
    one None y e = cc
    one (Some o) y e = cc

pub says-unbound : (s c : Instance) (bits : List (Option code_bit.Bit)) → HasBound s c bits → (i : ℕ) → i < length (all_bits (variables c.step.definition))
    → is_unbound (bound_above c.step c.above (bit_at (variables c.step.definition) i).0.name (bit_at (variables c.step.definition) i).1) ≡ is_nothing (bound_at bits i)
says-unbound s c bits h i lt =
    let b = bit_at (variables c.step.definition) i in
    ap (λ a. is_unbound (bound_above c.step a b.0.name b.1)) h.above ∙ ap is_unbound (sym (seen-at s c bits h i lt)) ∙ by (bound_at bits i)
  where
    by : (o : Option code_bit.Bit) → is_unbound (option_map (view_bit (variables s.step.definition)) o) ≡ is_nothing o
    by None = refl
    by (Some b) = refl

-- a bit that is bound stands in the parent's row
net-within : (vs : List Variable) (bits : List (Option code_bit.Bit)) (i k : ℕ) → All (λ b. IfSome b (IsInRow vs)) bits → bound_at bits i ≡ Some (bit.Net k) → k < length (all_bits vs)
net-within vs bits i k h e = by (slice_get bits i) refl e
  where
    by : (o : Option (Option code_bit.Bit)) → slice_get bits i ≡ o → unwrap_or o None ≡ Some (bit.Net k) → k < length (all_bits vs)
    by None at is = cc
    by (Some o) at is = all-get (λ b. IfSome b (IsInRow vs)) bits i (Some (bit.Net k)) (recursion_from_All (λ b. IfSome b (IsInRow vs)) bits h) (at ∙ ap (λ o. Some o) is)

-- ---- all bits

-- the number that is meant at a place
abbrev pub meant_at : List OwnNet → Source → Instance → ℕ → Option ℕ
meant_at all source c i = outer_number all source c.step c.above (bit_at (variables c.step.definition) i)

-- the numbers of the parent's nets that the bits are bound to
abbrev pub bound_row : List ℕ → List (Option code_bit.Bit) → ℕ → List (Option ℕ)
bound_row row bits n = map (λ i. number_in row (bound_at bits i)) (range_with_len 0 n)

-- these are all the bits at which a Leg stands and to which no net is bound
abbrev pub Covers : Source → Instance → Instance → List ℕ → Type 0
Covers source s c places = (i : ℕ) → i < length (all_bits (variables c.step.definition)) → has_leg source c.step (bit_at (variables c.step.definition) i).0.name ≡ true
    → IsNoNet (bound_to c.step s.step (bit_at (variables c.step.definition) i).0.name (bit_at (variables c.step.definition) i).1) → In i places

one-bit : (all : List OwnNet) (source : Source) (s c : Instance) (bits : List (Option code_bit.Bit)) (places : List ℕ) → HasBound s c bits → Covers source s c places
    → (i : ℕ) → i < length (all_bits (variables c.step.definition))
    → (number_in (map (number_at all source s) (all_bits (variables s.step.definition))) (bound_at bits i) ≡ meant_at all source c i) ⊎ In i places
one-bit all source s c bits places h covers i lt = by (bound_at bits i) refl (seen-at s c bits h i lt)
  where
    vs : List Variable
    vs = variables s.step.definition

    b : Variable × ℕ
    b = bit_at (variables c.step.definition) i

    below : meant_at all source c i ≡ outer_number all source c.step (s.step ∷ s.above) b
    below = ap (λ a. outer_number all source c.step a b) h.above

    nothing : (o : Option Bit) → o ≡ bound_to c.step s.step b.0.name b.1 → IsNoNet o → (None ≡ meant_at all source c i) ⊎ In i places
    nothing o e none =
        elim (has_leg source c.step b.0.name) as (λ l. has_leg source c.step b.0.name ≡ l → (None ≡ meant_at all source c i) ⊎ In i places) [
          | true ↦ (λ leg. inr (covers i lt leg (subst IsNoNet e none)))
          | false ↦ (λ leg. inl (sym (below ∙ outer-none all source c.step s.step s.above b o leg (sym e) none)))
        ] refl

    by : (o : Option code_bit.Bit) → bound_at bits i ≡ o → option_map (view_bit vs) o ≡ bound_to c.step s.step b.0.name b.1
        → (number_in (map (number_at all source s) (all_bits vs)) o ≡ meant_at all source c i) ⊎ In i places
    by None is e = nothing None e tt
    by (Some (bit.Constant at v)) is e = nothing (Some (constant at v)) e tt
    by (Some (bit.Net k)) is e =
        let within = net-within vs bits i k h.within is in
        let there : slice_get (map (number_at all source s) (all_bits vs)) k ≡ Some (number_at all source s (bit_at vs k)) =
        slice_get-map (number_at all source s) (all_bits vs) k ∙ ap (option_map (number_at all source s)) (bit-there vs k within) in
        inl (there ∙ sym (below ∙ outer-net all source c.step s.step s.above b (bit_at vs k).0.name (bit_at vs k).1 (sym e)))

pub right-or-among : (all : List OwnNet) (source : Source) (s c : Instance) (bits : List (Option code_bit.Bit)) (places : List ℕ) → HasBound s c bits → Covers source s c places
    → AreRightOrAmong (meant_at all source c) places (bound_row (map (number_at all source s) (all_bits (variables s.step.definition))) bits (length (all_bits (variables c.step.definition))))
right-or-among all source s c bits places h covers i o e =
    let n = length (all_bits (variables c.step.definition)) in
    let row = map (number_at all source s) (all_bits (variables s.step.definition)) in
    let f : ℕ → Option ℕ = λ (i : ℕ). number_in row (bound_at bits i) in
    let z : 0 + i ≡ i = omega arith in
    let lt : i < n = subst (λ k. i < k) (length-map-range_with_len f 0 n) (slice_get_within (bound_row row bits n) i o e) in
    let is : o ≡ f i = sym (get_or_from_slice_get (bound_row row bits n) i o o e) ∙ get_or-map-range_with_len f 0 n i i o lt z in
    subst (λ x. (x ≡ meant_at all source c i) ⊎ In i places) (sym is) (one-bit all source s c bits places h covers i lt)

-- what is meant at all places is the row of the outside
pub meant-row : (all : List OwnNet) (source : Source) (c : Instance)
    → map (meant_at all source c) (range_with_len 0 (length (all_bits (variables c.step.definition)))) ≡ map (outer_number all source c.step c.above) (all_bits (variables c.step.definition))
meant-row all source c =
    let vs = variables c.step.definition in
    let f = outer_number all source c.step c.above in
    sym (ap (map f) (by-places (all_bits vs) blank) ∙ map-map f (bit_at vs) (range_with_len 0 (length (all_bits vs))))
