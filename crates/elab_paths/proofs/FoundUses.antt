-- The uses of a circuit: what is driven inside is another net in each, so that each Path finds its own.
use Rattle.std.specs.Prelude.{◌≡◌, ℕ, ℤ, List, [], ◌∷◌, ◌++◌, Bool, true, false, ◌&&◌, ◌||◌, ◌==◌, Some, None, bytes_eq, cond, find, flat_map, map, refl}
use Rattle.std.specs.List.{AllByRecursion, list_any, range_with_len}
use Rattle.std.proofs.Common.{sym, ◌∙◌, ap, subst}
use Rattle.sg_delay.specs.declared.corners.Corner.{Corner}
use Rattle.vl_tree.specs.Tree.{Source}
use Rattle.elab_model.specs.Elements.{Component}
use Rattle.elab_model.specs.Ends.{path_ends, inner_spot}
use Rattle.elab_model.specs.Hierarchy.{Instance}
use Rattle.elab_model.specs.Homes.{Spot, bit, outside, terminal, inner, late, is_same_spot}
use Rattle.elab_model.specs.Nets.{OwnNet}
use Rattle.elab_model.specs.Terms.{is_same_bit}
use Rattle.specify_model.specs.Faults.{specify_faults}
use Rattle.specify_model.specs.Outputs.{path_outputs}
use Rattle.circuit_model.specs.PathUses.{PathUse, path_use, path_uses_of, reads}
use Rattle.elab_laws.proofs.Ends.{AreOtherBits, path_ends-apart}
use Rattle.elab_laws.proofs.Lists.{Pairwise, all-anyway, all-flat, all-map, all-weaker, pairwise-flat, pairwise-map, pairwise-map_back, pairwise-weaker, range-apart}
use Rattle.elab_paths.proofs.PathEnds.{flat-same, map-flat, mapped-twice, outputs-are_ends}
use Rattle.elab_paths.proofs.InnerReaders.{IsNoInner, IsPlain, IsPathFrom}

-- ---- what is driven inside, of all instances

abbrev pub inner_spots : Instance → List Spot
inner_spots s = map (inner_spot s) (path_ends s.step.definition)

abbrev pub IsInnerOf : ℕ → Spot → Type 0
IsInnerOf k (bit s n p) = ⊥
IsInnerOf k (outside s m n p) = ⊥
IsInnerOf k (terminal s m i) = ⊥
IsInnerOf k (inner s n p) = s ≡ k
IsInnerOf k (late s n p) = ⊥

abbrev pub AreOtherSpots : Spot → Spot → Type 0
AreOtherSpots a b = is_same_spot a b ≡ false

inner-own : (s : Instance) → AllByRecursion (IsInnerOf s.step.number) (inner_spots s)
inner-own s = all-map (IsInnerOf s.step.number) (inner_spot s) (path_ends s.step.definition) (all-anyway (λ b. IsInnerOf s.step.number (inner_spot s b)) (path_ends s.step.definition) (λ b. refl))

and-false : (x y : Bool) → y ≡ false → (x && y) ≡ false
and-false true y e = e
and-false false y e = refl

own-apart : (s : Instance) → Pairwise AreOtherSpots (inner_spots s)
own-apart s =
    pairwise-map AreOtherSpots (inner_spot s) (path_ends s.step.definition)
    (pairwise-weaker AreOtherBits (λ b c. AreOtherSpots (inner_spot s b) (inner_spot s c)) (path_ends s.step.definition)
    (λ b c e. and-false (s.step.number == s.step.number) (is_same_bit b c) e) (path_ends-apart s.step.definition))

other-instance : (k l : ℕ) → (k == l) ≡ false → (a b : Spot) → IsInnerOf k a → IsInnerOf l b → AreOtherSpots a b
other-instance k l e (inner s n p) (inner t m q) h g =
    ap (λ x. (x == t) && (bytes_eq n m && p == q)) h ∙ ap (λ y. (k == y) && (bytes_eq n m && p == q)) g ∙ ap (λ t. t && (bytes_eq n m && p == q)) e
other-instance k l e (inner s n p) (bit t m q) h g = absurd g
other-instance k l e (inner s n p) (outside t j m q) h g = absurd g
other-instance k l e (inner s n p) (terminal t j i) h g = absurd g
other-instance k l e (inner s n p) (late t m q) h g = absurd g
other-instance k l e (bit s n p) b h g = absurd h
other-instance k l e (outside s j n p) b h g = absurd h
other-instance k l e (terminal s j i) b h g = absurd h
other-instance k l e (late s n p) b h g = absurd h

pub inners-apart : (ss : List Instance) (n : ℕ) → map (λ s. s.step.number) ss ≡ range_with_len 0 n → Pairwise AreOtherSpots (flat_map inner_spots ss)
inners-apart ss n h =
    pairwise-flat AreOtherSpots (λ s t. (s.step.number == t.step.number) ≡ false) (λ s. IsInnerOf s.step.number) inner_spots ss inner-own
    (λ s t e. other-instance s.step.number t.step.number e) (all-anyway (λ s. Pairwise AreOtherSpots (inner_spots s)) ss own-apart)
    (pairwise-map_back (λ k l. (k == l) ≡ false) (λ s. s.step.number) ss (subst (Pairwise (λ k l. (k == l) ≡ false)) (sym h) (range-apart 0 n)))

-- ---- uses

-- where no block has a fault, these are the inner nets of the uses
pub uses-inner : (all : List OwnNet) (source : Source) (corner : Corner) (tick : ℤ) (ss : List Instance) → AllByRecursion (λ s. specify_faults corner tick s.step.definition ≡ []) ss
    → map (λ u. u.inner) (flat_map (path_uses_of all source corner tick) ss) ≡ flat_map inner_spots ss
uses-inner all source corner tick ss h =
    map-flat (λ u. u.inner) (path_uses_of all source corner tick) ss
    ∙ flat-same (λ s. map (λ u. u.inner) (path_uses_of all source corner tick s)) inner_spots ss
    (all-weaker (λ s. specify_faults corner tick s.step.definition ≡ []) (λ s. map (λ u. u.inner) (path_uses_of all source corner tick s) ≡ inner_spots s) ss own h)
  where
    own : (s : Instance) → specify_faults corner tick s.step.definition ≡ [] → map (λ u. u.inner) (path_uses_of all source corner tick s) ≡ inner_spots s
    own s e =
        let outputs = path_outputs corner tick s.step.definition in
        mapped-twice (path_use all source s) (λ u. u.inner) outputs ∙ sym (mapped-twice (λ o. o.output) (inner_spot s) outputs) ∙ ap (map (inner_spot s)) (outputs-are_ends corner tick s.step.definition e)

-- ---- what finds its use

abbrev pub HasInner : PathUse → Type 0
HasInner u = (k : ℕ) × IsInnerOf k u.inner

pub have-inner : (ss : List Instance) → AllByRecursion (λ spot. (k : ℕ) × IsInnerOf k spot) (flat_map inner_spots ss)
have-inner ss =
    all-flat (λ spot. (k : ℕ) × IsInnerOf k spot) inner_spots ss (λ s. all-weaker (IsInnerOf s.step.number) (λ spot. (k : ℕ) × IsInnerOf k spot) (inner_spots s) (λ spot e. (s.step.number, e)) (inner-own s))

outer-other : (k : ℕ) (a b : Spot) → IsInnerOf k a → IsNoInner b → is_same_spot a b ≡ false
outer-other k (inner s n p) (bit t m q) h g = refl
outer-other k (inner s n p) (outside t j m q) h g = refl
outer-other k (inner s n p) (terminal t j i) h g = refl
outer-other k (inner s n p) (late t m q) h g = refl
outer-other k (inner s n p) (inner t m q) h g = absurd g
outer-other k (bit s n p) b h g = absurd h
outer-other k (outside s j n p) b h g = absurd h
outer-other k (terminal s j i) b h g = absurd h
outer-other k (late s n p) b h g = absurd h

none-read : (k : ℕ) (spot : Spot) → IsInnerOf k spot → (inputs : List Spot) → AllByRecursion IsNoInner inputs → list_any (is_same_spot spot) inputs ≡ false
none-read k spot own [] h = refl
none-read k spot own (x ∷ inputs) h = ap (λ b. b || list_any (is_same_spot spot) inputs) (outer-other k spot x own h.0) ∙ none-read k spot own inputs h.1

-- a plain element finds none
pub plain-finds : (c : Component) (us : List PathUse) → IsPlain c → AllByRecursion HasInner us → find (reads c) us ≡ None
plain-finds c [] plain h = refl
plain-finds c (u ∷ us) plain h = ap (λ b. cond b (Some u) (find (reads c) us)) (none-read h.0.0 u.inner h.0.1 c.inputs plain.inputs) ∙ plain-finds c us plain h.1

-- and a Path the one whose inner net it reads
abbrev pub AreOtherUses : PathUse → PathUse → Type 0
AreOtherUses u v = AreOtherSpots u.inner v.inner

reads-one : (c : Component) (v u : PathUse) → IsPathFrom v.inner c → reads c u ≡ is_same_spot u.inner v.inner
reads-one c v u h = ap (list_any (is_same_spot u.inner)) h.inputs ∙ or-nothing (is_same_spot u.inner v.inner)
  where
    or-nothing : (b : Bool) → (b || false) ≡ b
    or-nothing true = refl
    or-nothing false = refl

pub path-finds : (c : Component) (before : List PathUse) (u : PathUse) (after : List PathUse) → IsPathFrom u.inner c → is_same_spot u.inner u.inner ≡ true
    → Pairwise AreOtherUses (before ++ u ∷ after) → find (reads c) (before ++ u ∷ after) ≡ Some u
path-finds c [] u after h same apart = ap (λ b. cond b (Some u) (find (reads c) after)) (reads-one c u u h ∙ same)
path-finds c (v ∷ before) u after h same apart =
    ap (λ b. cond b (Some v) (find (reads c) (before ++ u ∷ after))) (reads-one c u v h ∙ middle before apart.0) ∙ path-finds c before u after h same apart.1
  where
    middle : (xs : List PathUse) → AllByRecursion (AreOtherUses v) (xs ++ u ∷ after) → AreOtherUses v u
    middle [] k = k.0
    middle (x ∷ xs) k = middle xs k.1
