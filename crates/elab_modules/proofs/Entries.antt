-- The table of delays as it grows.
use Rattle.std.specs.Prelude.{◌≡◌, ℕ, ◌+◌, ◌<◌, ◌≤◌, List, [], ◌∷◌, ◌++◌, flat_map, length, map, take, slice_index_or, refl, ℤ}
use Rattle.std.specs.List.{AllByRecursion}
use Rattle.std.proofs.Common.{sym, ◌∙◌, ap, arith, subst, append_assoc, length-append}
use Rattle.std.proofs.lemmas.List.{append-nil, map-append, get_or_append_left, length-map, take_more, take_all}
use Rattle.std.proofs.lemmas.List.Folds.{flat_map-map}
use Rattle.sg_circuit.specs.Seen.{gate_delays_seen, delays_at}
use Rattle.sg_delay.specs.declared.corners.Corner.{Corner}
use Rattle.sg_delay.specs.declared.gates.GateDelays.{GateDelays}
use Rattle.vl_tree.specs.Tree.{Module}
use Rattle.elab_model.specs.Members.{Member, members}
use Rattle.elab_laws.proofs.Lists.{all-append}
use Rattle.elab_variables.specs.Seen.{view_member}
use Rattle.elab_variables.specs.declared.member_list.Member as code_member
use Rattle.elab_modules.specs.declared.prepared.Prepared.{Prepared}
use Rattle.elab_modules.specs.Ready.{IsPrepared, HasDelays, member_delays}
use Rattle.elab_modules.specs.Telling.{GrowsBy, StandsFor}

pub grows-none : (table : List GateDelays) → GrowsBy table table
grows-none table = ([], sym (append-nil table))

pub grows-one : (old new : List GateDelays) (d : GateDelays) → new ≡ old ++ d ∷ [] → GrowsBy old new
grows-one old new d e = (d ∷ [], e)

pub grows-then : (a b c : List GateDelays) → GrowsBy a b → GrowsBy b c → GrowsBy a c
grows-then a b c (xs, e) (ys, f) = (xs ++ ys, f ∙ ap (λ t. t ++ ys) e ∙ append_assoc a xs ys)

last-at : (xs : List (List ℕ)) (x d : List ℕ) → slice_index_or (xs ++ x ∷ []) (length xs) d ≡ x
last-at [] x d = refl
last-at (y ∷ xs) x d = last-at xs x d

pub entry-last : (old new : List GateDelays) (d : GateDelays) (i : ℕ) → new ≡ old ++ d ∷ [] → i ≡ length old → StandsFor new i (gate_delays_seen d)
entry-last old new d i e at =
    let seen : List GateDelays → List (List ℕ) = map (λ d. gate_delays_seen d) in
    let n : length new ≡ length old + 1 = ap length e ∙ length-append old (d ∷ []) in
    let k : i ≡ length (seen old) = at ∙ sym (length-map old (λ d. gate_delays_seen d)) in (
      omega arith,
      ap (λ j. slice_index_or (seen new) j []) k ∙ ap (λ t. slice_index_or (seen t) (length (seen old)) []) e
          ∙ ap (λ t. slice_index_or t (length (seen old)) []) (map-append (λ d. gate_delays_seen d) old (d ∷ [])) ∙ last-at (seen old) (gate_delays_seen d) [],
    )

pub entry-kept : (old new : List GateDelays) (i : ℕ) → GrowsBy old new → i < length old → (i < length new) × (delays_at new i ≡ delays_at old i)
entry-kept old new i (more, e) lt =
    let seen : List GateDelays → List (List ℕ) = map (λ d. gate_delays_seen d) in
    let n : length new ≡ length old + length more = ap length e ∙ length-append old more in
    let k : length (seen old) ≡ length old = length-map old (λ d. gate_delays_seen d) in
    let below : i < length (seen old) = omega arith in (
      omega arith,
      ap (λ t. slice_index_or (seen t) i []) e ∙ ap (λ t. slice_index_or t i []) (map-append (λ d. gate_delays_seen d) old more) ∙ get_or_append_left (seen old) (seen more) [] i below,
    )

-- ---- the delays of members, one after another

pub record AreDelays (corner : Corner) (tick : ℤ) (m : Module) (ms : List Member) (table : List GateDelays) (places : List ℕ) : Type 0 where
  pub delays : map (delays_at table) places ≡ map (member_delays corner tick m) ms
  pub below : AllByRecursion (λ i. i < length table) places

-- so do many
pub all-kept : (old new : List GateDelays) (places : List ℕ) → GrowsBy old new → AllByRecursion (λ i. i < length old) places
    → (map (delays_at new) places ≡ map (delays_at old) places) × AllByRecursion (λ i. i < length new) places
all-kept old new [] g h = (refl, tt)
all-kept old new (i ∷ places) g h =
    let rest = all-kept old new places g h.1 in
    let here = entry-kept old new i g h.0 in
    (ap (λ ds. ds ∷ map (delays_at new) places) here.1 ∙ ap (λ dss. delays_at old i ∷ dss) rest.0, (here.0, rest.1))

pub delays-next : (corner : Corner) (tick : ℤ) (m : Module) (ms : List Member) (x : Member) (old new : List GateDelays) (places : List ℕ) (i : ℕ) → GrowsBy old new
    → StandsFor new i (member_delays corner tick m x) → AreDelays corner tick m ms old places → AreDelays corner tick m (ms ++ x ∷ []) new (places ++ i ∷ [])
delays-next corner tick m ms x old new places i g s h =
    let kept = all-kept old new places g h.below in
    record {
      delays = map-append (delays_at new) places (i ∷ []) ∙ ap (λ ds. map (delays_at new) places ++ ds ∷ []) s.1 ∙ ap (λ dss. dss ++ member_delays corner tick m x ∷ []) (kept.0 ∙ h.delays)
          ∙ sym (map-append (member_delays corner tick m) ms (x ∷ []));
      below = all-append (λ j. j < length new) places (i ∷ []) kept.1 (s.0, tt);
    }

-- one member more
pub one-more : (corner : Corner) (tick : ℤ) (m : Module) (xs : List code_member.Member) (k : ℕ) (x : code_member.Member) (old new : List GateDelays) (places : List ℕ) (i : ℕ) → k < length xs
    → x ≡ slice_index_or xs k x → GrowsBy old new → StandsFor new i (member_delays corner tick m (view_member x)) → AreDelays corner tick m (map view_member (take k xs)) old places
    → AreDelays corner tick m (map view_member (take (k + 1) xs)) new (places ++ i ∷ [])
one-more corner tick m xs k x old new places i lt at g s h =
    let more : map view_member (take (k + 1) xs) ≡ map view_member (take k xs) ++ view_member x ∷ [] = ap (map view_member) (take_more xs k x lt ∙ ap (λ y. take k xs ++ y ∷ []) (sym at))
    ∙ map-append view_member (take k xs) (x ∷ []) in
    subst (λ ms. AreDelays corner tick m ms new (places ++ i ∷ [])) (sym more) (delays-next corner tick m (map view_member (take k xs)) (view_member x) old new places i g s h)

pub none-yet : (corner : Corner) (tick : ℤ) (m : Module) (table : List GateDelays) → AreDelays corner tick m [] table []
none-yet corner tick m table = record { delays = refl; below = tt }

pub has-delays : (corner : Corner) (tick : ℤ) (m : Module) (p : Prepared) (xs : List code_member.Member) (k : ℕ) (table : List GateDelays) (places : List ℕ) → IsPrepared p m → xs ≡ p.members.items
    → length xs ≤ k
    → AreDelays corner tick m (map view_member (take k xs)) table places → HasDelays corner tick m table places
has-delays corner tick m p xs k table places ready same le h =
    let all : map view_member (take k xs) ≡ members m = ap (map view_member) (take_all k xs le ∙ same) ∙ ready.members in
    record { delays = h.delays ∙ ap (map (member_delays corner tick m)) all; below = h.below }

-- the faults of a module's members, as the code has them
pub members-faults : {A : Type 0} (f : Member → List A) (m : Module) (p : Prepared) (xs : List code_member.Member) → IsPrepared p m → xs ≡ p.members.items
    → flat_map (λ x. f (view_member x)) xs ≡ flat_map f (members m)
members-faults f m p xs ready same = sym (flat_map-map f view_member xs) ∙ ap (λ ys. flat_map f (map view_member ys)) same ∙ ap (flat_map f) ready.members
