-- How the scopes of a circuit are gone through.
use Rattle.std.proofs.Common.{◌≡◌, ◌∙◌, sym, ap, refl, subst, ℕ, zero, suc, ◌+◌, ◌-◌, ◌<◌, ◌≤◌, List, [], ◌∷◌, ◌++◌, length, drop, get_or, map, reverse, arith, append_assoc}
use Rattle.std.proofs.lemmas.Bool.Decides.{nat_tests}
use Rattle.std.proofs.lemmas.List.{append-nil, drop_more, reverse-append, map-append, get_or_default}
use Rattle.std.proofs.lemmas.List.Elements.{All-nil, All-cons, All-append, All-map, All-head, All-tail}
use Rattle.std.specs.Prelude.{◌==◌, true, false, if◌then◌else◌, All, Option, Some, None, IfSome, flat_map}
use Rattle.sg_circuit.specs.declared.building.Pin.{Pin}
use Rattle.sg_circuit.specs.Circuit.{Circuit, Scope}
use Rattle.sg_circuit.specs.Closed.{IsClosed}
use Rattle.sg_circuit.specs.FanOut.{readers_at}
use Rattle.sg_circuit.specs.Pins.{elements_on, HasPins}
use Rattle.sg_circuit.proofs.PinLaws.{picked-append}
use Rattle.wave_out.specs.declared.scopes.Visit.{Visit}
use Rattle.wave_out.specs.declared.scopes.Visit.TheVariants.{Enters, Leaves}
use Rattle.wave_out.specs.Scopes.{is_parent, children_from, children_of, visits_in, visits}
use Rattle.wave_out.proofs.ListLaws.{All-first, All-flat_map, All-last, All-reverse}
use Rattle.wave_out.specs.Walk.{pin_of, parent_pins, AreChildren, IsVisit, inner_of, whole_visit, left_visits, GoesOn}

-- the pins of scopes are their parents' children
with_pin : (net k : ℕ) (o : Option ℕ) (es : List ℕ) → elements_on net (pin_of k o) ++ es ≡ (if is_parent net o then (k ∷ es) else es)
with_pin net k None es = refl
with_pin net k (Some p) es = elim (p == net) as (λ b. (if b then (k ∷ []) else []) ++ es ≡ (if b then (k ∷ es) else es)) [ true ↦ refl | false ↦ refl ]

pub picked-parents : (net k : ℕ) (ss : List Scope) → elements_on net (parent_pins k ss) ≡ children_from net k ss
picked-parents net k [] = refl
picked-parents net k (s ∷ ss) =
    picked-append net (pin_of k s.parent) (parent_pins (suc k) ss)
    ∙ (ap (λ es. elements_on net (pin_of k s.parent) ++ es) (picked-parents net (suc k) ss)
    ∙ with_pin net k s.parent (children_from net (suc k) ss))

-- each pin is at one of so many scopes
pin_within : (n k : ℕ) (o : Option ℕ) → IfSome o (λ p. p < n) → All (λ (p : Pin). p.net < n) (pin_of k o)
pin_within n k None h = All-nil (λ (p : Pin). p.net < n)
pin_within n k (Some p) h = All-cons (λ (p : Pin). p.net < n) (record { net = p; element = k }) [] h (All-nil (λ (p : Pin). p.net < n))

parents_within : (n k : ℕ) (ss : List Scope) → ((i : ℕ) (d : Scope) → i < length ss → IfSome (get_or ss i d).parent (λ p. p < n)) → All (λ (p : Pin). p.net < n) (parent_pins k ss)
parents_within n k [] h = All-nil (λ (p : Pin). p.net < n)
parents_within n k (s ∷ ss) h =
    All-append (λ (p : Pin). p.net < n) (pin_of k s.parent) (parent_pins (suc k) ss) (pin_within n k s.parent (h 0 s (omega arith)))
    (parents_within n (suc k) ss (λ i d l. h (suc i) d (omega arith)))

if_some : (o : Option ℕ) (a b : ℕ) → a ≤ b → IfSome o (λ p. p < a) → IfSome o (λ p. p < b)
if_some None a b l h = h
if_some (Some p) a b l h = omega arith

-- the parent of each scope stands before it
parent_before : (c : Circuit) → IsClosed c → (i : ℕ) (d : Scope) → i < length c.scopes → IfSome (get_or c.scopes i d).parent (λ p. p < i)
parent_before c h i d l = subst (λ (s : Scope). IfSome s.parent (λ p. p < i)) (get_or_default c.scopes i _ d l) (h.parents i l)

pub pins_within : (c : Circuit) → IsClosed c → All (λ (p : Pin). p.net < length c.scopes) (parent_pins 0 c.scopes)
pins_within c h = parents_within (length c.scopes) 0 c.scopes (λ i d l. if_some (get_or c.scopes i d).parent i (length c.scopes) (omega arith) (parent_before c h i d l))

pub are_children : (c : Circuit) (pins : List Pin) (table : List (List ℕ)) → pins ≡ parent_pins 0 c.scopes → HasPins pins table → length table ≡ length c.scopes → AreChildren c table
are_children c pins table e h many = record {
  as_many = many;
  each = λ s l. h.each s (omega arith) ∙ (ap (elements_on s) e ∙ picked-parents s 0 c.scopes);
}

-- children stand behind their parent
abbrev IsBehind : ℕ → ℕ → ℕ → Type 0
IsBehind s n t = (s < t) × (t < n)

child_behind : (s k n : ℕ) (o : Option ℕ) (es : List ℕ) → k < n → IfSome o (λ p. p < k) → All (IsBehind s n) es → All (IsBehind s n) (if is_parent s o then (k ∷ es) else es)
child_behind s k n None es l h all = all
child_behind s k n (Some p) es l h all = (elim (p == s) as (λ b. (p == s) ≡ b → All (IsBehind s n) (if b then (k ∷ es) else es)) [
  | true ↦ λ e. All-cons (IsBehind s n) k es (grind (arith, nat_tests), l) all
  | false ↦ λ e. all
]) refl

children_behind : (s k n : ℕ) (ss : List Scope) → k + length ss ≤ n → ((i : ℕ) (d : Scope) → i < length ss → IfSome (get_or ss i d).parent (λ p. p < k + i)) → All (IsBehind s n) (children_from s k ss)
children_behind s k n [] l h = All-nil (IsBehind s n)
children_behind s k n (x ∷ xs) l h =
    child_behind s k n x.parent (children_from s (suc k) xs) (omega arith) (if_some x.parent (k + 0) k (omega arith) (h 0 x (omega arith)))
    (children_behind s (suc k) n xs (omega arith) (λ i d m. if_some (get_or xs i d).parent (k + suc i) (suc k + i) (omega arith) (h (suc i) d (omega arith))))

pub are_behind : (c : Circuit) → IsClosed c → (s : ℕ) → All (IsBehind s (length c.scopes)) (children_of c s)
are_behind c h s = children_behind s 0 (length c.scopes) c.scopes (omega arith) (λ i d l. if_some (get_or c.scopes i d).parent i (0 + i) (omega arith) (parent_before c h i d l))

-- the number of turns doesn't matter where they suffice
flat_map-same : {A B : Type 0} (f g : A → List B) (xs : List A) → All (λ x. f x ≡ g x) xs → flat_map f xs ≡ flat_map g xs
flat_map-same f g [] h = refl
flat_map-same f g (x ∷ xs) h = ap (λ ys. ys ++ flat_map f xs) (All-head (λ x. f x ≡ g x) x xs h) ∙ ap (λ ys. g x ++ ys) (flat_map-same f g xs (All-tail (λ x. f x ≡ g x) x xs h))

turns_free : (c : Circuit) → IsClosed c → (u v s : ℕ) → s < length c.scopes → length c.scopes - s ≤ u → length c.scopes - s ≤ v → visits_in u c s ≡ visits_in v c s
turns_free c h zero v s l a b = absurd (omega arith)
turns_free c h (suc u) zero s l a b = absurd (omega arith)
turns_free c h (suc u) (suc v) s l a b =
    ap (λ ys. Enters s ∷ (ys ++ Leaves ∷ []))
    (flat_map-same (visits_in u c) (visits_in v c) (children_of c s)
    (λ i d m. (let t = are_behind c h s i d m in turns_free c h u v (get_or (children_of c s) i d) t.1 (omega arith) (omega arith))))

-- what a scope's visit is
abbrev entry : Circuit → ℕ → List Visit
entry c t = whole_visit c (Enters t)

pub whole-enters : (c : Circuit) → IsClosed c → (s : ℕ) → s < length c.scopes → whole_visit c (Enters s) ≡ Enters s ∷ (flat_map (entry c) (children_of c s) ++ Leaves ∷ [])
whole-enters c h s l =
    let m : ℕ = length c.scopes - s - 1 in
    let e : length c.scopes - s ≡ suc m = omega arith in
    ap (λ u. visits_in u c s) e
    ∙ ap (λ ys. Enters s ∷ (ys ++ Leaves ∷ []))
    (flat_map-same (visits_in m c) (entry c) (children_of c s)
    (λ i d k. (let t = are_behind c h s i d k in turns_free c h m (length c.scopes - get_or (children_of c s) i d) (get_or (children_of c s) i d) t.1 (omega arith) (omega arith))))

-- what is left to visit, piece by piece
left-append : (c : Circuit) (xs ys : List Visit) → left_visits c (xs ++ ys) ≡ left_visits c ys ++ left_visits c xs
left-append c [] ys = sym (append-nil (left_visits c ys))
left-append c (x ∷ xs) ys = ap (λ t. t ++ whole_visit c x) (left-append c xs ys) ∙ append_assoc (left_visits c ys) (left_visits c xs) (whole_visit c x)

left-children : (c : Circuit) (ts : List ℕ) → left_visits c (map Enters (reverse ts)) ≡ flat_map (entry c) ts
left-children c [] = refl
left-children c (t ∷ ts) =
    ap (λ us. left_visits c (map Enters us)) (reverse-append (t ∷ []) ts)
    ∙ (ap (left_visits c) (map-append Enters (reverse ts) (t ∷ []))
    ∙ (left-append c (map Enters (reverse ts)) (Enters t ∷ [])
    ∙ ap (λ ys. entry c t ++ ys) (left-children c ts)))

pub left-next : (c : Circuit) (table : List (List ℕ)) (xs : List Visit) (v : Visit) → IsClosed c → AreChildren c table → IsVisit (length c.scopes) v
    → left_visits c (xs ++ v ∷ []) ≡ v ∷ left_visits c (xs ++ inner_of table v)
left-next c table xs Leaves h k l =
    left-append c xs (Leaves ∷ []) ∙ ap (λ ys. Leaves ∷ left_visits c ys) (sym (append-nil xs))
left-next c table xs (Enters s) h k l =
    let ts : List ℕ = readers_at table s in
    left-append c xs (Enters s ∷ [])
    ∙ (ap (λ ys. ys ++ left_visits c xs) (whole-enters c h s l)
    ∙ (ap (λ us. Enters s ∷ (flat_map (entry c) us ++ Leaves ∷ [] ++ left_visits c xs)) (sym (k.each s l))
    ∙ (ap (λ ys. Enters s ∷ (ys ++ Leaves ∷ [] ++ left_visits c xs)) (sym (left-children c ts))
    ∙ ap (λ ys. Enters s ∷ ys) (sym (left-append c xs (Leaves ∷ map Enters (reverse ts)))))))

-- only scopes are entered
inner-known : (c : Circuit) (table : List (List ℕ)) (v : Visit) → IsClosed c → AreChildren c table → IsVisit (length c.scopes) v → All (λ v. IsVisit (length c.scopes) v) (inner_of table v)
inner-known c table Leaves h k l = All-nil (λ v. IsVisit (length c.scopes) v)
inner-known c table (Enters s) h k l =
    All-cons (λ v. IsVisit (length c.scopes) v) Leaves (map Enters (reverse (readers_at table s))) tt
    (All-map (λ v. IsVisit (length c.scopes) v) Enters (reverse (readers_at table s))
    (All-reverse (λ t. t < length c.scopes) (readers_at table s) (subst (λ ts. All (λ t. t < length c.scopes) ts) (sym (k.each s l)) (λ i d m. (are_behind c h s i d m).1))))

visits_known : (c : Circuit) → IsClosed c → (turns s : ℕ) → s < length c.scopes → All (λ v. IsVisit (length c.scopes) v) (visits_in turns c s)
visits_known c h zero s l = All-nil (λ v. IsVisit (length c.scopes) v)
visits_known c h (suc turns) s l =
    All-cons (λ v. IsVisit (length c.scopes) v) (Enters s) (flat_map (visits_in turns c) (children_of c s) ++ Leaves ∷ []) l
    (All-append (λ v. IsVisit (length c.scopes) v) (flat_map (visits_in turns c) (children_of c s)) (Leaves ∷ [])
    (All-flat_map (λ v. IsVisit (length c.scopes) v) (visits_in turns c) (children_of c s) (λ i d m. visits_known c h turns (get_or (children_of c s) i d) (are_behind c h s i d m).1))
    (All-cons (λ v. IsVisit (length c.scopes) v) Leaves [] tt (All-nil (λ v. IsVisit (length c.scopes) v))))

pub are_visits : (c : Circuit) → IsClosed c → All (λ v. IsVisit (length c.scopes) v) (visits c)
are_visits c h = at (length c.scopes) refl
  where
    at : (n : ℕ) → length c.scopes ≡ n → All (λ v. IsVisit (length c.scopes) v) (visits c)
    at zero e = subst (λ n. All (λ v. IsVisit (length c.scopes) v) (visits_in n c 0)) (sym e) (All-nil (λ v. IsVisit (length c.scopes) v))
    at (suc n) e = visits_known c h (length c.scopes) 0 (omega arith)

-- the walk begins, goes on and ends
pub begins-none : (c : Circuit) (pending : List Visit) → length c.scopes ≡ 0 → pending ≡ [] → GoesOn c [] pending
begins-none c pending none e = record {
  known = subst (λ vs. All (λ v. IsVisit (length c.scopes) v) vs) (sym e) (All-nil (λ v. IsVisit (length c.scopes) v));
  is = ap (left_visits c) e ∙ ap (λ n. visits_in n c 0) (sym none);
}

pub begins-top : (c : Circuit) (pending : List Visit) → 0 < length c.scopes → pending ≡ Enters 0 ∷ [] → GoesOn c [] pending
begins-top c pending some e = record {
  known = subst (λ vs. All (λ v. IsVisit (length c.scopes) v) vs) (sym e) (All-cons (λ v. IsVisit (length c.scopes) v) (Enters 0) [] some (All-nil (λ v. IsVisit (length c.scopes) v)));
  is = ap (left_visits c) e ∙ ap (λ n. visits_in n c 0) (let k : length c.scopes - 0 ≡ length c.scopes = omega arith in k);
}

pub goes_on : (c : Circuit) (table : List (List ℕ)) (made made' pending rest pending' : List Visit) (v : Visit) → IsClosed c → AreChildren c table → GoesOn c made pending → pending ≡ rest ++ v ∷ []
    → made' ≡ made ++ v ∷ [] → pending' ≡ rest ++ inner_of table v → GoesOn c made' pending'
goes_on c table made made' pending rest pending' v h k g popped more inner =
    let known : All (λ v. IsVisit (length c.scopes) v) (rest ++ v ∷ []) = subst (λ vs. All (λ v. IsVisit (length c.scopes) v) vs) popped g.known in
    let one : IsVisit (length c.scopes) v = All-last (λ v. IsVisit (length c.scopes) v) rest v known in record {
      known = subst (λ vs. All (λ v. IsVisit (length c.scopes) v) vs) (sym inner)
          (All-append (λ v. IsVisit (length c.scopes) v) rest (inner_of table v) (All-first (λ v. IsVisit (length c.scopes) v) rest (v ∷ []) known) (inner-known c table v h k one));
      is = ap (λ t. t ++ left_visits c pending') more
          ∙ (append_assoc made (v ∷ []) (left_visits c pending')
          ∙ (ap (λ ys. made ++ v ∷ left_visits c ys) inner
          ∙ (ap (λ ys. made ++ ys) (sym (left-next c table rest v h k one))
          ∙ (ap (λ ys. made ++ left_visits c ys) (sym popped) ∙ g.is))));
    }

pub grows_less : (c : Circuit) (table : List (List ℕ)) (made pending rest pending' : List Visit) (v : Visit) → IsClosed c → AreChildren c table → GoesOn c made pending → pending ≡ rest ++ v ∷ []
    → pending' ≡ rest ++ inner_of table v → length (left_visits c pending') < length (left_visits c pending)
grows_less c table made pending rest pending' v h k g popped inner =
    let known : All (λ v. IsVisit (length c.scopes) v) (rest ++ v ∷ []) = subst (λ vs. All (λ v. IsVisit (length c.scopes) v) vs) popped g.known in
    let one : IsVisit (length c.scopes) v = All-last (λ v. IsVisit (length c.scopes) v) rest v known in
    let e : length (left_visits c pending) ≡ suc (length (left_visits c (rest ++ inner_of table v))) = ap (λ ys. length (left_visits c ys)) popped ∙ ap length (left-next c table rest v h k one) in
    let f : length (left_visits c pending') ≡ length (left_visits c (rest ++ inner_of table v)) = ap (λ ys. length (left_visits c ys)) inner in
    omega arith

-- the rest of the pins completes the list
pub pins_next : (pins more whole : List Pin) (ss : List Scope) (i : ℕ) (d : Scope) → i < length ss → more ≡ pins ++ pin_of i (get_or ss i d).parent
    → pins ++ parent_pins i (drop i ss) ≡ whole → more ++ parent_pins (i + 1) (drop (i + 1) ss) ≡ whole
pins_next pins more whole ss i d l step e =
    ap (λ ps. ps ++ parent_pins (i + 1) (drop (i + 1) ss)) step
    ∙ (append_assoc pins (pin_of i (get_or ss i d).parent) (parent_pins (i + 1) (drop (i + 1) ss))
    ∙ (ap (λ n. pins ++ (pin_of i (get_or ss i d).parent ++ parent_pins n (drop (i + 1) ss))) (let k : i + 1 ≡ suc i = omega arith in k)
    ∙ (ap (λ ys. pins ++ parent_pins i ys) (sym (drop_more ss i d l)) ∙ e)))
