-- One more of a list of drives.
use Rattle.std.specs.Prelude.{◌≡◌, ◌≢◌, ℕ, zero, suc, ◌+◌, ◌<◌, ◌≤◌, ◌==◌, List, [], ◌∷◌, ◌++◌, Bool, true, false, map, length, refl, if◌then◌else◌, slice_index_or, slice_set}
use Rattle.std.specs.List.{AllByRecursion}
use Rattle.std.proofs.Common.{sym, ◌∙◌, ap, arith, subst, take, drop, append_assoc, drop-cons}
use Rattle.std.proofs.lemmas.List.{take_more, take-append-drop, length-take-le, length-map, map-append}
use Rattle.std.proofs.lemmas.Bool.{eq-eqb, eqb-true}
use Rattle.sg_circuit.specs.declared.nets.Driver.{Driver}
use Rattle.sg_circuit.specs.declared.nets.Driver.TheVariants.{Nobody, Element, Notifier}
use Rattle.sg_circuit.specs.declared.elements.Element as circuit
use Rattle.elab_laws.proofs.Lists.{all-append, all-map, all-anyway}
use Rattle.elab_numbering.specs.Driving.{NumberedDrive, by_stimulus, by_checks, by_elements, drivers_at, first_or_nobody, IsOutside, HasFirst, StandsFor, IsTaken, IsSecond, DrivesRegs}
use Rattle.elab_numbering.proofs.DriveLemmas.{at-append, at-push, at-all, first-more, found-at}

-- ---- the stimulus

more-mapped : (f : ℕ → NumberedDrive) (ds : List NumberedDrive) (xs : List ℕ) (i : ℕ) → i < length xs
    → (ds ++ map f (take i xs)) ++ f (slice_index_or xs i 0) ∷ [] ≡ ds ++ map f (take (i + 1) xs)
more-mapped f ds xs i lt =
    append_assoc ds (map f (take i xs)) (f (slice_index_or xs i 0) ∷ [])
    ∙ ap (λ ys. ds ++ ys) (sym (map-append f (take i xs) (slice_index_or xs i 0 ∷ [])) ∙ ap (map f) (sym (take_more xs i 0 lt)))

pub input-next : (table : List Driver) (ds : List NumberedDrive) (xs : List ℕ) (i : ℕ) → i < length xs
    → StandsFor table ((ds ++ map by_stimulus (take i xs)) ++ by_stimulus (slice_index_or xs i 0) ∷ []) → StandsFor table (ds ++ map by_stimulus (take (i + 1) xs))
input-next table ds xs i lt h = subst (StandsFor table) (more-mapped by_stimulus ds xs i lt) h

-- ---- elements

elements-append : (i : ℕ) (xs ys : List ℕ) → by_elements i (xs ++ ys) ≡ by_elements i xs ++ by_elements (i + length xs) ys
elements-append i [] ys = let e : i + 0 ≡ i = omega arith in ap (λ j. by_elements j ys) (sym e)
elements-append i (x ∷ xs) ys =
    let e : (i + 1) + length xs ≡ i + suc (length xs) = omega arith in
    ap (λ ds. record { driver = Element i; net = x } ∷ ds) (elements-append (i + 1) xs ys ∙ ap (λ j. by_elements (i + 1) xs ++ by_elements j ys) e)

elements-more : (xs : List ℕ) (i : ℕ) → i ≤ length xs → (ys : List ℕ) → by_elements 0 (take i xs ++ ys) ≡ by_elements 0 (take i xs) ++ by_elements i ys
elements-more xs i le ys =
    let l : 0 + length (take i xs) ≡ i = (let z : 0 + length (take i xs) ≡ length (take i xs) = omega arith in z ∙ length-take-le i xs le) in
    elements-append 0 (take i xs) ys ∙ ap (λ j. by_elements 0 (take i xs) ++ by_elements j ys) l

pub output-next : (table : List Driver) (ds : List NumberedDrive) (xs : List ℕ) (i : ℕ) → i < length xs
    → StandsFor table ((ds ++ by_elements 0 (take i xs)) ++ record { driver = Element i; net = slice_index_or xs i 0 } ∷ []) → StandsFor table (ds ++ by_elements 0 (take (i + 1) xs))
output-next table ds xs i lt h =
    let le : i ≤ length xs = omega arith in
    subst (StandsFor table)
    (append_assoc ds (by_elements 0 (take i xs)) (record { driver = Element i; net = slice_index_or xs i 0 } ∷ [])
    ∙ ap (λ ys. ds ++ ys) (sym (elements-more xs i le (slice_index_or xs i 0 ∷ [])) ∙ ap (by_elements 0) (sym (take_more xs i 0 lt)))) h

pub second-is : (ds : List NumberedDrive) (xs : List ℕ) (i : ℕ) → i < length xs → IsTaken (slice_index_or xs i 0) (ds ++ by_elements 0 (take i xs)) → IsSecond ds xs i
second-is ds xs i lt h =
    let n = slice_index_or xs i 0 in
    let le : i ≤ length xs = omega arith in
    let whole : take i xs ++ n ∷ drop (suc i) xs ≡ xs = ap (λ ys. take i xs ++ ys) (sym (drop-cons xs i 0 lt)) ∙ take-append-drop i xs in
    let t : (n == n) ≡ true = eq-eqb n n refl in
    record {
      net = n;
      first = h.0;
      rest = drivers_at n (by_elements (i + 1) (drop (suc i) xs));
      drivers = ap (λ ys. drivers_at n (ds ++ by_elements 0 ys)) (sym whole)
          ∙ ap (λ ys. drivers_at n (ds ++ ys)) (elements-more xs i le (n ∷ drop (suc i) xs))
          ∙ ap (drivers_at n) (sym (append_assoc ds (by_elements 0 (take i xs)) (by_elements i (n ∷ drop (suc i) xs))))
          ∙ at-append n (ds ++ by_elements 0 (take i xs)) (by_elements i (n ∷ drop (suc i) xs))
          ∙ ap (λ ys. ys ++ drivers_at n (by_elements i (n ∷ drop (suc i) xs))) h.1
          ∙ ap (λ b. h.0 ∷ (if b then Element i ∷ drivers_at n (by_elements (i + 1) (drop (suc i) xs)) else drivers_at n (by_elements (i + 1) (drop (suc i) xs)))) t;
    }

-- the outputs of elements
outputs-at : (es : List circuit.Element) (i : ℕ) (e : circuit.Element) → i < length es → e ≡ slice_index_or es i e → e.output ≡ slice_index_or (map (λ e. e.output) es) i 0
outputs-at [] i e lt h = absurd (omega arith)
outputs-at (x ∷ es) zero e lt h = ap (λ e. e.output) h
outputs-at (x ∷ es) (suc i) e lt h = outputs-at es i e (omega arith) h

pub element-next : (table : List Driver) (ds : List NumberedDrive) (es : List circuit.Element) (i : ℕ) (e : circuit.Element) → i < length es → e ≡ slice_index_or es i e
    → StandsFor table ((ds ++ by_elements 0 (take i (map (λ e. e.output) es))) ++ record { driver = Element i; net = e.output } ∷ []) → StandsFor table (ds ++ by_elements 0 (take (i + 1) (map (λ e. e.output) es)))
element-next table ds es i e lt is h =
    output-next table ds (map (λ e. e.output) es) i (rw length-map lt)
    (subst (λ n. StandsFor table ((ds ++ by_elements 0 (take i (map (λ e. e.output) es))) ++ record { driver = Element i; net = n } ∷ [])) (outputs-at es i e lt is) h)

pub element-second : (ds : List NumberedDrive) (es : List circuit.Element) (i : ℕ) (e : circuit.Element) → i < length es → e ≡ slice_index_or es i e
    → IsTaken e.output (ds ++ by_elements 0 (take i (map (λ e. e.output) es))) → IsSecond ds (map (λ e. e.output) es) i
element-second ds es i e lt is h =
    second-is ds (map (λ e. e.output) es) i (rw length-map lt) (subst (λ n. IsTaken n (ds ++ by_elements 0 (take i (map (λ e. e.output) es)))) (outputs-at es i e lt is) h)

-- ---- timing checks

abbrev pub IsNotifier : Driver → Type 0
IsNotifier d = d ≡ Notifier

pub checks-at : (n : ℕ) (xs : List ℕ) → AllByRecursion IsNotifier (drivers_at n (map by_checks xs))
checks-at n xs = at-all IsNotifier n (map by_checks xs) (all-map (λ d. IsNotifier d.driver) by_checks xs (all-anyway (λ x. Notifier ≡ Notifier) xs (λ x. refl)))

outside-other : (d : Driver) → IsOutside d → d ≢ Notifier
outside-other d h e = subst IsOutside e h

outside-some : (d : Driver) → IsOutside d → d ≢ Nobody
outside-some d h e = subst IsOutside e h

-- what the first driver says, of outside drivers followed by checks
nobody-empty : (hs bs : List Driver) → AllByRecursion IsOutside hs → AllByRecursion IsNotifier bs → first_or_nobody (hs ++ bs) ≡ Nobody → (hs ≡ []) × (bs ≡ [])
nobody-empty [] [] h g e = (refl, refl)
nobody-empty [] (b ∷ bs) h g e = let x : Notifier ≡ Nobody = sym g.0 ∙ e in cc
nobody-empty (a ∷ hs) bs h g e = absurd (outside-some a h.0 e)

notifier-empty : (hs bs : List Driver) → AllByRecursion IsOutside hs → first_or_nobody (hs ++ bs) ≡ Notifier → hs ≡ []
notifier-empty [] bs h e = refl
notifier-empty (a ∷ hs) bs h e = absurd (outside-other a h.0 e)

outside-taken : (hs bs : List Driver) (o : Driver) → AllByRecursion IsNotifier bs → length hs ≤ 1 → IsOutside o → first_or_nobody (hs ++ bs) ≡ o → (d : Driver) × (hs ≡ d ∷ [])
outside-taken [] [] o g le out e = absurd (outside-some o out (sym e))
outside-taken [] (b ∷ bs) o g le out e = absurd (outside-other o out (sym e ∙ g.0))
outside-taken (a ∷ []) bs o g le out e = (a, refl)
outside-taken (a ∷ c ∷ hs) bs o g le out e = absurd (omega arith)

first-kept : (hs bs : List Driver) → first_or_nobody hs ≡ Notifier → first_or_nobody (hs ++ bs) ≡ Notifier
first-kept [] bs e = cc
first-kept (a ∷ hs) bs e = e

-- what stands at the net of a reg, split
found-split : (table : List Driver) (ds : List NumberedDrive) (xs : List ℕ) (n : ℕ) (o : Driver) → HasFirst table (ds ++ map by_checks xs) → n < length table → o ≡ slice_index_or table n o
    → first_or_nobody (drivers_at n ds ++ drivers_at n (map by_checks xs)) ≡ o
found-split table ds xs n o f lt e = ap first_or_nobody (sym (at-append n ds (map by_checks xs))) ∙ found-at table (ds ++ map by_checks xs) n o f lt e

all-more : (P : ℕ → Type 0) (xs : List ℕ) (i : ℕ) → i < length xs → AllByRecursion P (take i xs) → P (slice_index_or xs i 0) → AllByRecursion P (take (i + 1) xs)
all-more P xs i lt h p = subst (AllByRecursion P) (sym (take_more xs i 0 lt)) (all-append P (take i xs) (slice_index_or xs i 0 ∷ []) h (p, tt))

pub reg-free : (before table : List Driver) (ds : List NumberedDrive) (xs : List ℕ) (i : ℕ) (o : Driver) → i < length xs → slice_index_or xs i 0 < length table → o ≡ slice_index_or table (slice_index_or xs i 0) o → o ≡ Nobody
    → StandsFor before ds → DrivesRegs table ds (take i xs) → DrivesRegs (slice_set table (slice_index_or xs i 0) Notifier) ds (take (i + 1) xs)
reg-free before table ds xs i o lt within found none s r =
    let n = slice_index_or xs i 0 in
    let e = nobody-empty (drivers_at n ds) (drivers_at n (map by_checks (take i xs))) (at-all IsOutside n ds s.outside) (checks-at n (take i xs)) (found-split table ds (take i xs) n o r.first_is within found ∙ none) in
    let empty : drivers_at n (ds ++ map by_checks (take i xs)) ≡ [] = at-append n ds (map by_checks (take i xs)) ∙ ap (λ hs. hs ++ drivers_at n (map by_checks (take i xs))) e.0 ∙ e.1 in
    record {
      first_is = subst (HasFirst (slice_set table n Notifier)) (more-mapped by_checks ds xs i lt) (first-more table (ds ++ map by_checks (take i xs)) (by_checks n) within empty r.first_is);
      free = all-more (λ n. drivers_at n ds ≡ []) xs i lt r.free e.0;
    }

pub reg-again : (before table : List Driver) (ds : List NumberedDrive) (xs : List ℕ) (i : ℕ) (o : Driver) → i < length xs → slice_index_or xs i 0 < length table → o ≡ slice_index_or table (slice_index_or xs i 0) o → o ≡ Notifier
    → StandsFor before ds → DrivesRegs table ds (take i xs) → DrivesRegs table ds (take (i + 1) xs)
reg-again before table ds xs i o lt within found is s r =
    record {
      first_is = subst (HasFirst table) (more-mapped by_checks ds xs i lt) first;
      free = all-more (λ n. drivers_at n ds ≡ []) xs i lt r.free (notifier-empty (drivers_at n ds) (drivers_at n (map by_checks (take i xs))) (at-all IsOutside n ds s.outside) (found-split table ds (take i xs) n o r.first_is within found ∙ is));
    }
  where
    n : ℕ
    n = slice_index_or xs i 0

    first : HasFirst table ((ds ++ map by_checks (take i xs)) ++ by_checks (slice_index_or xs i 0) ∷ [])
    first k h = by (slice_index_or xs i 0 == k) refl
      where
        all : List NumberedDrive
        all = ds ++ map by_checks (take i xs)

        by : (b : Bool) → (slice_index_or xs i 0 == k) ≡ b → slice_index_or table k Nobody ≡ first_or_nobody (drivers_at k ((ds ++ map by_checks (take i xs)) ++ by_checks (slice_index_or xs i 0) ∷ []))
        by true e =
            let q : slice_index_or xs i 0 ≡ k = eqb-true (slice_index_or xs i 0) k e in
            let f : first_or_nobody (drivers_at k (ds ++ map by_checks (take i xs))) ≡ Notifier = ap (λ k. first_or_nobody (drivers_at k (ds ++ map by_checks (take i xs)))) (sym q) ∙ found-at table (ds ++ map by_checks (take i xs)) (slice_index_or xs i 0) o r.first_is within found ∙ is in
            r.first_is k h ∙ f ∙ sym (ap first_or_nobody (at-push k (ds ++ map by_checks (take i xs)) (by_checks (slice_index_or xs i 0))) ∙ first-kept (drivers_at k (ds ++ map by_checks (take i xs))) _ f)
        by false e =
            r.first_is k h ∙ sym (ap first_or_nobody (at-push k (ds ++ map by_checks (take i xs)) (by_checks (slice_index_or xs i 0)) ∙ ap (λ b. drivers_at k (ds ++ map by_checks (take i xs)) ++ (if b then Notifier ∷ [] else [])) e ∙ nil (drivers_at k (ds ++ map by_checks (take i xs)))))
          where
            nil : (ys : List Driver) → ys ++ [] ≡ ys
            nil [] = refl
            nil (y ∷ ys) = ap (λ zs. y ∷ zs) (nil ys)

pub reg-taken : (before table : List Driver) (ds : List NumberedDrive) (xs : List ℕ) (n : ℕ) (o : Driver) → n < length table → o ≡ slice_index_or table n o → IsOutside o
    → StandsFor before ds → DrivesRegs table ds xs → IsTaken n ds
reg-taken before table ds xs n o within found out s r =
    outside-taken (drivers_at n ds) (drivers_at n (map by_checks xs)) o (checks-at n xs) (s.alone n) out (found-split table ds xs n o r.first_is within found)
