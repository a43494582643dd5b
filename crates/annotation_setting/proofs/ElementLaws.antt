-- New timings of a table, at one place more.
use Rattle.std.specs.Prelude.{◌≡◌, ◌≢◌, ◌⊎◌, ℕ, zero, suc, ◌+◌, ◌-◌, ◌<◌, ◌≤◌, List, [], ◌∷◌, length, map, take, drop, is_some, Option, Some, None, slice_index_or, refl}
use Rattle.std.specs.Global.{Box}
use Rattle.std.specs.List.{filter, flat_map}
use Rattle.std.proofs.Common.{sym, ◌∙◌, ap, subst, arith, inl, inr, add-one}
use Rattle.std.proofs.lemmas.List.{length-append, length-map, get_or_default}
use Rattle.sg_circuit.specs.Paths as specify
use Rattle.sg_circuit.specs.TimingsSeen.{leg_timing_seen}
use Rattle.sg_circuit.specs.Circuit.{Circuit, Element, Kind, Gate, Udp, Pass, Leg, Path, Late}
use Rattle.sg_circuit.specs.declared.elements.LegTiming.{LegTiming}
use Rattle.circuit_open.specs.Open.{changed_at}
use Rattle.circuit_open.proofs.ChangeLaws.{both}
use Rattle.annotation_model.specs.Spots.{path_spot, spots_in, spots_of}
use Rattle.annotation_spots.specs.Rows.{spots_before, AreRows, IsIn}
use Rattle.annotation_spots.specs.declared.spots.Spot as code_spot
use Rattle.annotation_setting.specs.Timings.{at, count_of, new_elements, new_kind, new_or, new_paths, with_new, with_spot, with_timings}

abbrev Table : Type 0
Table = ℕ → Option (Box LegTiming)

abbrev with_new_kind : Table → ℕ → Element → Element
with_new_kind f k x = record x { kind = new_kind f k x.kind }

-- ---- what stays

length-paths : (f : Table) (k : ℕ) (ps : List specify.Path) → length (new_paths f k ps) ≡ length ps
length-paths f k [] = refl
length-paths f k (p ∷ ps) = ap suc (length-paths f (suc k) ps)

count-kept : (f : Table) (k s : ℕ) (is : List ℕ) (o : ℕ) (kind : Kind) → length (spots_in s is o (new_kind f k kind)) ≡ length (spots_in s is o kind)
count-kept f k s is o (Gate gate delays) = refl
count-kept f k s is o (Udp primitive first delays) = refl
count-kept f k s is o (Pass constant) = refl
count-kept f k s is o (Leg timings) = refl
count-kept f k s is o (Path ps style) = length-map (new_paths f k ps) (path_spot s o) ∙ (length-paths f k ps ∙ sym (length-map ps (path_spot s o)))
count-kept f k s is o (Late delay) = refl

length-new : (f : Table) (k : ℕ) (es : List Element) → length (new_elements f k es) ≡ length es
length-new f k [] = refl
length-new f k (e ∷ es) = ap suc (length-new f (k + length (spots_of e)) es)

count-at : (f : Table) (k : ℕ) (es : List Element) (e : ℕ) (d : Element) → length (spots_of (slice_index_or (new_elements f k es) e d)) ≡ length (spots_of (slice_index_or es e d))
count-at f k [] e d = refl
count-at f k (x ∷ xs) zero d = count-kept f k x.scope x.inputs x.output x.kind
count-at f k (x ∷ xs) (suc e) d = count-at f (k + length (spots_of x)) xs e d

pub in-new : (timings : List (Option (Box LegTiming))) (c : Circuit) (row : code_spot.Spot) → IsIn c row → IsIn (with_timings timings c) row
in-new timings c row h = record {
  element = subst (λ n. row.element < n) (sym (length-new (at timings) 0 c.elements)) h.element;
  path = subst (λ n. row.path < n) (sym (count-at (at timings) 0 c.elements row.element _)) h.path;
}

-- ---- tables that say the same

paths-same : (f g : Table) (k : ℕ) (ps : List specify.Path) → ((j : ℕ) → k ≤ j → j < k + length ps → f j ≡ g j) → new_paths f k ps ≡ new_paths g k ps
paths-same f g k [] e = refl
paths-same f g k (p ∷ ps) e =
    both (record p { timings = new_or p.timings (f k) }) (record p { timings = new_or p.timings (g k) }) (new_paths f (suc k) ps) (new_paths g (suc k) ps)
    (ap (λ (o : Option (Box LegTiming)). record p { timings = new_or p.timings o }) (e k (omega arith) (omega arith))) (paths-same f g (suc k) ps (λ j l m. e j (omega arith) (omega arith)))

kind-same : (f g : Table) (k s : ℕ) (is : List ℕ) (o : ℕ) (kind : Kind) → ((j : ℕ) → k ≤ j → j < k + length (spots_in s is o kind) → f j ≡ g j) → new_kind f k kind ≡ new_kind g k kind
kind-same f g k s is o (Gate gate delays) e = refl
kind-same f g k s is o (Udp primitive first delays) e = refl
kind-same f g k s is o (Pass constant) e = refl
kind-same f g k s is o (Leg timings) e = ap (λ (o : Option (Box LegTiming)). Leg (new_or timings o)) (e k (omega arith) (omega arith))
kind-same f g k s is o (Path ps style) e = ap (λ qs. Path qs style) (paths-same f g k ps (λ j l m. e j l (let n : length (map (path_spot s o) ps) ≡ length ps = length-map ps (path_spot s o) in omega arith)))
kind-same f g k s is o (Late delay) e = refl

elements-same : (f g : Table) (k : ℕ) (es : List Element) → ((j : ℕ) → k ≤ j → f j ≡ g j) → new_elements f k es ≡ new_elements g k es
elements-same f g k [] e = refl
elements-same f g k (x ∷ xs) e =
    both (with_new_kind f k x) (with_new_kind g k x) (new_elements f (k + length (spots_of x)) xs) (new_elements g (k + length (spots_of x)) xs)
    (ap (λ (q : Kind). record x { kind = q }) (kind-same f g k x.scope x.inputs x.output x.kind (λ j l m. e j l))) (elements-same f g (k + length (spots_of x)) xs (λ j l. e j (omega arith)))

-- ---- a table with nothing

paths-none : (k : ℕ) (ps : List specify.Path) → new_paths (λ j. None) k ps ≡ ps
paths-none k [] = refl
paths-none k (p ∷ ps) = ap (λ qs. p ∷ qs) (paths-none (suc k) ps)

kind-none : (k : ℕ) (kind : Kind) → new_kind (λ j. None) k kind ≡ kind
kind-none k (Gate gate delays) = refl
kind-none k (Udp primitive first delays) = refl
kind-none k (Pass constant) = refl
kind-none k (Leg timings) = refl
kind-none k (Path ps style) = ap (λ qs. Path qs style) (paths-none k ps)
kind-none k (Late delay) = refl

elements-none : (k : ℕ) (es : List Element) → new_elements (λ j. None) k es ≡ es
elements-none k [] = refl
elements-none k (x ∷ xs) =
    both (with_new_kind (λ j. None) k x) x (new_elements (λ j. None) (k + length (spots_of x)) xs) xs (ap (λ (q : Kind). record x { kind = q }) (kind-none k x.kind)) (elements-none (k + length (spots_of x)) xs)

pub with-none : (c : Circuit) → with_timings [] c ≡ c
with-none c = ap (λ es. record c { elements = es }) (elements-same (at []) (λ j. None) 0 c.elements (λ j l. refl) ∙ elements-none 0 c.elements)

-- ---- a table with one more

paths-more : (f g : Table) (new : Box LegTiming) (k p : ℕ) (ps : List specify.Path) → p < length ps → g (k + p) ≡ Some new → ((j : ℕ) → j ≢ k + p → f j ≡ g j)
    → changed_at (λ (q : specify.Path). record q { timings = leg_timing_seen new.value }) p (new_paths f k ps) ≡ new_paths g k ps
paths-more f g new k p [] l h e = absurd (omega arith)
paths-more f g new k zero (q ∷ qs) l h e =
    let here : g k ≡ Some new = subst (λ n. g n ≡ Some new) (let z : k + 0 ≡ k = omega arith in z) h in
    both (record q { timings = leg_timing_seen new.value }) (record q { timings = new_or q.timings (g k) }) (new_paths f (suc k) qs) (new_paths g (suc k) qs)
    (ap (λ (o : Option (Box LegTiming)). record q { timings = new_or q.timings o }) (sym here)) (paths-same f g (suc k) qs (λ j m n. e j (λ z. (let b : ⊥ = omega arith in b))))
paths-more f g new k (suc p) (q ∷ qs) l h e =
    let s : k + suc p ≡ suc k + p = omega arith in
    both (record q { timings = new_or q.timings (f k) }) (record q { timings = new_or q.timings (g k) })
    (changed_at (λ (x : specify.Path). record x { timings = leg_timing_seen new.value }) p (new_paths f (suc k) qs)) (new_paths g (suc k) qs)
    (ap (λ (o : Option (Box LegTiming)). record q { timings = new_or q.timings o }) (e k (λ z. (let b : ⊥ = omega arith in b))))
    (paths-more f g new (suc k) p qs (omega arith) (subst (λ n. g n ≡ Some new) s h) (λ j n. e j (λ z. n (z ∙ s))))

kind-more : (f g : Table) (new : Box LegTiming) (k p s : ℕ) (is : List ℕ) (o : ℕ) (kind : Kind) → p < length (spots_in s is o kind) → g (k + p) ≡ Some new → ((j : ℕ) → j ≢ k + p → f j ≡ g j)
    → with_spot p (leg_timing_seen new.value) (new_kind f k kind) ≡ new_kind g k kind
kind-more f g new k p s is o (Gate gate delays) l h e = absurd (omega arith)
kind-more f g new k p s is o (Udp primitive first delays) l h e = absurd (omega arith)
kind-more f g new k p s is o (Pass constant) l h e = absurd (omega arith)
kind-more f g new k zero s is o (Leg timings) l h e =
    let here : g k ≡ Some new = subst (λ n. g n ≡ Some new) (let z : k + 0 ≡ k = omega arith in z) h in
    ap (λ (x : Option (Box LegTiming)). Leg (new_or timings x)) (sym here)
kind-more f g new k (suc p) s is o (Leg timings) l h e = absurd (omega arith)
kind-more f g new k p s is o (Path ps style) l h e = ap (λ qs. Path qs style) (paths-more f g new k p ps (subst (λ n. p < n) (length-map ps (path_spot s o)) l) h e)
kind-more f g new k p s is o (Late delay) l h e = absurd (omega arith)

elements-more : (f g : Table) (new : Box LegTiming) (k e p : ℕ) (es : List Element) (d : Element) → e < length es → p < length (spots_of (slice_index_or es e d)) → g (k + (spots_before es e + p)) ≡ Some new
    → ((j : ℕ) → j ≢ k + (spots_before es e + p) → f j ≡ g j)
    → changed_at (λ (x : Element). record x { kind = with_spot p (leg_timing_seen new.value) x.kind }) e (new_elements f k es) ≡ new_elements g k es
elements-more f g new k e p [] d l m h same = absurd (omega arith)
elements-more f g new k zero p (x ∷ xs) d l m h same =
    let z : k + (0 + p) ≡ k + p = omega arith in
    both (record x { kind = with_spot p (leg_timing_seen new.value) (new_kind f k x.kind) }) (with_new_kind g k x) (new_elements f (k + length (spots_of x)) xs) (new_elements g (k + length (spots_of x)) xs)
    (ap (λ (q : Kind). record x { kind = q }) (kind-more f g new k p x.scope x.inputs x.output x.kind m (subst (λ n. g n ≡ Some new) z h) (λ j n. same j (λ w. n (w ∙ z)))))
    (elements-same f g (k + length (spots_of x)) xs (λ j n. same j (λ w. (let b : ⊥ = omega arith in b))))
elements-more f g new k (suc e) p (x ∷ xs) d l m h same =
    let n = length (spots_of x) in
    let joined : spots_before (x ∷ xs) (suc e) ≡ n + spots_before xs e = length-append (spots_of x) (flat_map spots_of (take e xs)) in
    let z : k + (spots_before (x ∷ xs) (suc e) + p) ≡ (k + n) + (spots_before xs e + p) = omega arith in
    both (with_new_kind f k x) (with_new_kind g k x)
    (changed_at (λ (y : Element). record y { kind = with_spot p (leg_timing_seen new.value) y.kind }) e (new_elements f (k + n) xs)) (new_elements g (k + n) xs)
    (ap (λ (q : Kind). record x { kind = q }) (kind-same f g k x.scope x.inputs x.output x.kind (λ j a b. same j (λ w. (let c : ⊥ = omega arith in c)))))
    (elements-more f g new (k + n) e p xs d (omega arith) m (subst (λ n. g n ≡ Some new) z h) (λ j a. same j (λ w. a (w ∙ z))))

take-other : (ts : List (Option (Box LegTiming))) (i j : ℕ) → j ≢ i → at (take i ts) j ≡ at (take (suc i) ts) j
take-other [] zero j n = refl
take-other [] (suc i) j n = refl
take-other (t ∷ ts) zero zero n = absurd (n refl)
take-other (t ∷ ts) zero (suc j) n = refl
take-other (t ∷ ts) (suc i) zero n = refl
take-other (t ∷ ts) (suc i) (suc j) n = take-other ts i j (λ e. n (ap suc e))

take-here : (ts : List (Option (Box LegTiming))) (i : ℕ) → at (take (suc i) ts) i ≡ at ts i
take-here [] i = refl
take-here (t ∷ ts) zero = refl
take-here (t ∷ ts) (suc i) = take-here ts i

take-past : (ts : List (Option (Box LegTiming))) (i : ℕ) → at (take i ts) i ≡ None
take-past [] zero = refl
take-past [] (suc i) = refl
take-past (t ∷ ts) zero = refl
take-past (t ∷ ts) (suc i) = take-past ts i

same-or-not : (a b : ℕ) → (a ≡ b) ⊎ (a ≢ b)
same-or-not a b = grind arith

-- the timing of one row more is set
pub set-more : (c : Circuit) (rows : List code_spot.Spot) (timings : List (Option (Box LegTiming))) (i : ℕ) (d : code_spot.Spot) (t : Option (Box LegTiming)) → AreRows c rows → i < length rows → t ≡ at timings i
    → with_new (slice_index_or rows i d) t (with_timings (take i timings) c) ≡ with_timings (take (i + 1) timings) c
set-more c rows timings i d t are l there = by t there ∙ ap (λ n. with_timings (take n timings) c) (sym (add-one i))
  where
    row : code_spot.Spot
    row = slice_index_or rows i d

    by : (t : Option (Box LegTiming)) → t ≡ at timings i → with_new row t (with_timings (take i timings) c) ≡ with_timings (take (suc i) timings) c
    by None e =
        let all : (j : ℕ) → at (take i timings) j ≡ at (take (suc i) timings) j =
        (λ j. elim (same-or-not j i) [
          | inl here ↦ subst (λ n. at (take i timings) n ≡ at (take (suc i) timings) n) (sym here) (take-past timings i ∙ (e ∙ sym (take-here timings i)))
          | inr other ↦ take-other timings i j other
        ]) in
        ap (λ es. record c { elements = es }) (elements-same (at (take i timings)) (at (take (suc i) timings)) 0 c.elements (λ j l. all j))
    by (Some new) e =
        let within : IsIn c row = are.within i d l in
        let z : i ≡ 0 + (spots_before c.elements row.element + row.path) = omega (arith, are.number i d l) in
        ap (λ es. record c { elements = es })
        (elements-more (at (take i timings)) (at (take (suc i) timings)) new 0 row.element row.path c.elements _ within.element within.path
        (subst (λ n. at (take (suc i) timings) n ≡ Some new) z (take-here timings i ∙ sym e)) (λ j n. take-other timings i j (λ w. n (w ∙ z))))

-- and what stands there stays a row
pub row-stays : (c now : Circuit) (rows : List code_spot.Spot) (timings : List (Option (Box LegTiming))) (i : ℕ) (d : code_spot.Spot) → now ≡ with_timings timings c → AreRows c rows → i < length rows → IsIn now (slice_index_or rows i d)
row-stays c now rows timings i d is are l = subst (λ n. IsIn n (slice_index_or rows i d)) (sym is) (in-new timings c (slice_index_or rows i d) (are.within i d l))

-- how many new ones are left
count-left : (ts : List (Option (Box LegTiming))) (i : ℕ) → i < length ts → length (filter (λ t. is_some t) (drop i ts)) ≡ count_of (at ts i) + length (filter (λ t. is_some t) (drop (suc i) ts))
count-left [] i l = absurd (omega arith)
count-left (None ∷ ts) zero l = omega arith
count-left (Some new ∷ ts) zero l = omega arith
count-left (t ∷ ts) (suc i) l = count-left ts i (omega arith)

pub room-left : (ts : List (Option (Box LegTiming))) (i : ℕ) (t : Option (Box LegTiming)) (room room' : ℕ) → i < length ts → t ≡ at ts i → room' ≡ room - count_of t → length (filter (λ t. is_some t) (drop i ts)) ≤ room
    → length (filter (λ t. is_some t) (drop (i + 1) ts)) ≤ room'
room-left ts i t room room' l e left h =
    let same : length (filter (λ t. is_some t) (drop (i + 1) ts)) ≡ length (filter (λ t. is_some t) (drop (suc i) ts)) = ap (λ n. length (filter (λ t. is_some t) (drop n ts))) (add-one i) in
    let count : count_of t ≡ count_of (at ts i) = ap count_of e in
    omega (arith, count-left ts i l)

pub at-default : (ts : List (Option (Box LegTiming))) (i : ℕ) (t : Option (Box LegTiming)) → i < length ts → t ≡ slice_index_or ts i t → t ≡ at ts i
at-default ts i t l e = e ∙ get_or_default ts i t None l
