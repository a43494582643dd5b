-- The notifiers that violations name.
use Rattle.std.specs.Prelude.{◌≡◌, ℕ, zero, suc, ◌+◌, ◌<◌, ◌≤◌, ◌==◌, Bool, true, false, ◌||◌, if◌then◌else◌, All, IfSome, List, [], ◌∷◌, ◌++◌, length, map, replicate, slice_index_or, take, Option, Some, None, refl}
use Rattle.std.specs.List.Sorted.{IsNonDecreasing}
use Rattle.std.proofs.Common.{sym, ◌∙◌, ap, subst, arith, inl, inr}
use Rattle.std.proofs.lemmas.Bool.{cases_eq}
use Rattle.std.proofs.lemmas.List.{map-append, take_more}
use Rattle.std.proofs.lemmas.List.Elements.{All-nil, All-cons, All-head, All-tail}
use Rattle.std.proofs.lemmas.Bool.Decides.{nat_tests}
use Rattle.sg_circuit.specs.Circuit.{Circuit}
use Rattle.sg_circuit.specs.Closed.{IsClosed, IsNotifier}
use Rattle.sg_circuit.specs.declared.checks.Check.{Check}
use Rattle.sg_model.specs.Machine.{Violation, IsNoOutput, AreOutputs}
use Rattle.sg_circuit.specs.FanOut.{has}
use Rattle.fan_round.specs.Lists.{occurrences}
use Rattle.fan_round.specs.Work.{mark_at, with_marks, AreMarked}
use Rattle.fan_round.proofs.ListLaws.{test_other, test_same}
use Rattle.fan_round.proofs.WorkIsExact.{mark_with}
use Rattle.time_checks.specs.declared.violations.Violation as code_violation
use Rattle.time_checks.specs.Seen.{violation_seen}
use Rattle.time_checks.proofs.TouchLaws.{RisesFrom, rises, below_none, marked-once, unlisted-unmarked, listed-within}
use Rattle.sim_times.specs.Checks.{AreFree}
use Rattle.sim_machine.specs.Notifiers.{notifier_at, is_net, is_named, numbers_from, notifiers_of}
use Rattle.sim_machine.specs.Simulated.{machine_of}
use Rattle.sim_rounds.proofs.MachineLaws.{notifier_is_no_output}

-- numbers from k on are not below k
numbers_above : (test : ℕ → Bool) (k n m : ℕ) → m < k → IsNoOutput m (numbers_from test k n)
numbers_above test k zero m l = tt
numbers_above test k (suc n) m l = at (test k) (numbers_above test (suc k) n m (omega arith))
  where
    at : (b : Bool) → IsNoOutput m (numbers_from test (suc k) n) → IsNoOutput m (if b then (k ∷ numbers_from test (suc k) n) else numbers_from test (suc k) n)
    at true rest = ((λ e. absurd (let q : k ≡ m = e in omega arith)), rest)
    at false rest = rest

-- and each stands there once
numbers_once : (test : ℕ → Bool) (k n : ℕ) → AreOutputs (numbers_from test k n)
numbers_once test k zero = tt
numbers_once test k (suc n) = at (test k) (numbers_once test (suc k) n)
  where
    at : (b : Bool) → AreOutputs (numbers_from test (suc k) n) → AreOutputs (if b then (k ∷ numbers_from test (suc k) n) else numbers_from test (suc k) n)
    at true rest = (numbers_above test (suc k) n k (omega arith), rest)
    at false rest = rest

-- what is so of each that passes
numbers_all : (P : ℕ → Type 0) (test : ℕ → Bool) (k n : ℕ) → ((m : ℕ) → test m ≡ true → P m) → All P (numbers_from test k n)
numbers_all P test k zero h = All-nil P
numbers_all P test k (suc n) h = at (test k) refl (numbers_all P test (suc k) n h)
  where
    at : (b : Bool) → test k ≡ b → All P (numbers_from test (suc k) n) → All P (if b then (k ∷ numbers_from test (suc k) n) else numbers_from test (suc k) n)
    at true e rest = All-cons P k (numbers_from test (suc k) n) (h k e) rest
    at false e rest = rest

-- what is so of the notifier of each check
notified : (P : ℕ → Type 0) (checks : List Check) (i : ℕ) → All (λ k. IfSome k.notifier P) checks → IfSome (notifier_at checks i) P
notified P [] i h = tt
notified P (c ∷ cs) zero h = All-head (λ k. IfSome k.notifier P) c cs h
notified P (c ∷ cs) (suc i) h = notified P cs i (All-tail (λ k. IfSome k.notifier P) c cs h)

is_that : (P : ℕ → Type 0) (o : Option ℕ) (m : ℕ) → IfSome o P → is_net m o ≡ true → P m
is_that P None m h e = absurd (let q : false ≡ true = e in cc)
is_that P (Some n) m h e = subst P (let q : n ≡ m = grind (arith, nat_tests, e) in q) h

pub named_notifier : (P : ℕ → Type 0) (checks : List Check) (found : List Violation) (m : ℕ) → All (λ k. IfSome k.notifier P) checks → is_named checks found m ≡ true → P m
named_notifier P checks [] m h e = absurd (let q : false ≡ true = e in cc)
named_notifier P checks (v ∷ vs) m h e = at (is_net m (notifier_at checks v.check)) refl e (λ f. named_notifier P checks vs m h f)
  where
    at : (b : Bool) → is_net m (notifier_at checks v.check) ≡ b → (b || is_named checks vs m) ≡ true → (is_named checks vs m ≡ true → P m) → P m
    at true f g rest = is_that P (notifier_at checks v.check) m (notified P checks v.check h) f
    at false f g rest = rest g

-- the notifiers of a circuit are nets that no element drives, each once
pub notifiers_free : (circuit : Circuit) → IsClosed circuit → (found : List Violation) → AreFree (machine_of circuit).outputs (length circuit.nets) (notifiers_of circuit.checks (length circuit.nets) found)
notifiers_free circuit closed found = record {
  within = numbers_all (λ n. n < length circuit.nets) (is_named circuit.checks found) 0 (length circuit.nets) (λ m e. (named_notifier (IsNotifier circuit) circuit.checks found m closed.notifiers e).within);
  undriven = numbers_all (λ n. IsNoOutput n (machine_of circuit).outputs) (is_named circuit.checks found) 0 (length circuit.nets)
      (λ m e. notifier_is_no_output circuit closed m (named_notifier (IsNotifier circuit) circuit.checks found m closed.notifiers e).driven);
  once = numbers_once (is_named circuit.checks found) 0 (length circuit.nets);
}

or_no : (b : Bool) → (b || false) ≡ b
or_no true = refl
or_no false = refl

or_assoc : (a b c : Bool) → (a || (b || c)) ≡ ((a || b) || c)
or_assoc true b c = refl
or_assoc false b c = refl

-- the notifier of a check is a net
pub notifier_within : (checks : List Check) (check n net : ℕ) → All (λ k. IfSome k.notifier (λ m. m < n)) checks → Some net ≡ notifier_at checks check → All (λ m. m < n) (net ∷ [])
notifier_within checks check n net h e = All-cons (λ m. m < n) net [] (subst (λ o. IfSome o (λ m. m < n)) (sym e) (notified (λ m. m < n) checks check h)) (All-nil (λ m. m < n))

-- one more violation
pub marks_notifier : (old new : List Bool) (net : ℕ) (notifier : Option ℕ) (m : ℕ) → m < length old → Some net ≡ notifier → new ≡ with_marks (net ∷ []) old → mark_at new m ≡ (mark_at old m || is_net m notifier)
marks_notifier old new net notifier m l e made =
    ap (λ ms. mark_at ms m) made ∙ (mark_with (net ∷ []) old m l ∙ ap (λ b. mark_at old m || b) (or_no (net == m) ∙ ap (is_net m) e))

pub marks_none : (marks : List Bool) (notifier : Option ℕ) (m : ℕ) → None ≡ notifier → mark_at marks m ≡ (mark_at marks m || is_net m notifier)
marks_none marks notifier m e = sym (or_no (mark_at marks m)) ∙ ap (λ o. mark_at marks m || is_net m o) e

named_append : (checks : List Check) (found : List Violation) (v : Violation) (net : ℕ) → is_named checks (found ++ v ∷ []) net ≡ (is_named checks found net || is_net net (notifier_at checks v.check))
named_append checks [] v net = or_no (is_net net (notifier_at checks v.check))
named_append checks (w ∷ ws) v net =
    ap (λ b. is_net net (notifier_at checks w.check) || b) (named_append checks ws v net) ∙ or_assoc (is_net net (notifier_at checks w.check)) (is_named checks ws net) (is_net net (notifier_at checks v.check))

pub named_more : (checks : List Check) (violations : List code_violation.Violation) (i : ℕ) (d : code_violation.Violation) (start mid new : List Bool) (net : ℕ) → i < length violations
    → mark_at mid net ≡ (mark_at start net || is_named checks (map (λ v. violation_seen v) (take i violations)) net)
    → mark_at new net ≡ (mark_at mid net || is_net net (notifier_at checks (slice_index_or violations i d).check))
    → mark_at new net ≡ (mark_at start net || is_named checks (map (λ v. violation_seen v) (take (i + 1) violations)) net)
named_more checks violations i d start mid new net l e f =
    let found : List Violation = map (λ v. violation_seen v) (take i violations) in
    let v : code_violation.Violation = slice_index_or violations i d in
    let seen : map (λ v. violation_seen v) (take (i + 1) violations) ≡ found ++ violation_seen v ∷ [] =
    ap (map (λ v. violation_seen v)) (take_more violations i d l) ∙ map-append (λ v. violation_seen v) (take i violations) (v ∷ []) in
    f ∙ (ap (λ b. b || is_net net (notifier_at checks v.check)) e
    ∙ (sym (or_assoc (mark_at start net) (is_named checks found net) (is_net net (notifier_at checks v.check)))
    ∙ ap (λ b. mark_at start net || b) (sym (named_append checks found (violation_seen v) net) ∙ ap (λ vs. is_named checks vs net) (sym seen))))

-- what is so of all nets is so of the notifiers
pub named_within : (checks : List Check) (nets : ℕ) (found : List Violation) (ns : List ℕ) → All (λ k. IfSome k.notifier (λ n. n < nets)) checks → ns ≡ notifiers_of checks nets found → All (λ n. n < nets) ns
named_within checks nets found ns h e =
    subst (λ xs. All (λ n. n < nets) xs) (sym e) (numbers_all (λ n. n < nets) (is_named checks found) 0 nets (λ m k. named_notifier (λ n. n < nets) checks found m h k))

-- a number that doesn't occur isn't there
none_occurs : (k : ℕ) (ks : List ℕ) → occurrences k ks ≡ 0 → has k ks ≡ false
none_occurs k [] e = refl
none_occurs k (x ∷ xs) e = at (x == k) refl (none_occurs k xs) e
  where
    at : (b : Bool) → (x == k) ≡ b → (occurrences k xs ≡ 0 → has k xs ≡ false) → (if b then 1 else 0) + occurrences k xs ≡ 0 → (b || has k xs) ≡ false
    at true f rest g = absurd (omega arith)
    at false f rest g = rest (omega arith)

-- numbers that rise are those of a test, where it tells which of them are listed
listed_numbers : (test : ℕ → Bool) (i n : ℕ) (ks : List ℕ) → RisesFrom i ks → All (λ k. k < i + n) ks → ((k : ℕ) → i ≤ k → k < i + n → test k ≡ has k ks) → ks ≡ numbers_from test i n
listed_numbers test i zero [] r a h = refl
listed_numbers test i zero (k ∷ ks) r a h = let l : k < i + 0 = a 0 0 (omega arith) in let m : i ≤ k = r.0 in absurd (omega arith)
listed_numbers test i (suc n) [] r a h =
    listed_numbers test (suc i) n [] tt (λ b d l. absurd (omega arith)) (λ k l m. h k (omega arith) (omega arith))
    ∙ sym (ap (λ b. if b then (i ∷ numbers_from test (suc i) n) else numbers_from test (suc i) n) (h i (omega arith) (omega arith)))
listed_numbers test i (suc n) (k ∷ ks) r a h =
    elim (cases_eq k i) [
      | inl same ↦
          (let here : test i ≡ true = h i (omega arith) (omega arith) ∙ ap (λ b. b || has i ks) (test_same k i same) in
          let rest : ks ≡ numbers_from test (suc i) n =
          listed_numbers test (suc i) n ks (subst (λ x. RisesFrom (suc x) ks) same r.1) (λ b d l. (let m = a (suc b) d (omega arith) in omega arith))
          (λ j l m. h j (omega arith) (omega arith) ∙ ap (λ b. b || has j ks) (test_other k j (omega arith))) in
          ap (λ x. x ∷ ks) same ∙ (ap (λ xs. i ∷ xs) rest ∙ sym (ap (λ b. if b then (i ∷ numbers_from test (suc i) n) else numbers_from test (suc i) n) here)))
      | inr other ↦
          (let least : i ≤ k = r.0 in
          let gone : test i ≡ false = h i (omega arith) (omega arith) ∙ (ap (λ b. b || has i ks) (test_other k i other) ∙ below_none (suc k) i ks r.1 (omega arith)) in
          listed_numbers test (suc i) n (k ∷ ks) (omega arith, r.1) (λ b d l. (let m = a b d l in omega arith)) (λ j l m. h j (omega arith) (omega arith))
          ∙ sym (ap (λ b. if b then (i ∷ numbers_from test (suc i) n) else numbers_from test (suc i) n) gone))
    ]

-- a number is listed where it is marked
pub listed_marked : (marks : List Bool) (ks : List ℕ) (k : ℕ) → AreMarked marks ks → mark_at marks k ≡ has k ks
listed_marked marks ks k are = at (has k ks) refl (mark_at marks k) refl
  where
    at : (b : Bool) → has k ks ≡ b → (c : Bool) → mark_at marks k ≡ c → c ≡ b
    at true e true f = refl
    at false e false f = refl
    at false e true f = let q : mark_at marks k ≡ false = unlisted-unmarked marks ks k are e in absurd (let z : true ≡ false = sym f ∙ q in cc)
    at true e false f =
        let none : occurrences k ks ≡ 0 = are.each.each k ∙ ap (λ b. if b then 1 else 0) f in
        absurd (let z : true ≡ false = sym e ∙ none_occurs k ks none in cc)

-- the marked nets in order are the notifiers
pub sorted_numbers : (checks : List Check) (found : List Violation) (old marks : List Bool) (ks : List ℕ) (n : ℕ) → old ≡ replicate n false → length marks ≡ n → AreMarked marks ks → IsNonDecreasing ks
    → ((net : ℕ) → net < n → mark_at marks net ≡ (mark_at old net || is_named checks found net)) → ks ≡ notifiers_of checks n found
sorted_numbers checks found old marks ks n none count are sorted h =
    let within : All (λ k. k < n) ks = listed-within marks ks ks n are count refl in
    listed_numbers (is_named checks found) 0 n ks (rises 0 ks (λ a d l. omega arith) sorted (marked-once marks ks are)) (λ a d l. (let m = within a d l in omega arith))
    (λ k l m. sym (ap (λ b. b || is_named checks found k) (ap (λ ms. mark_at ms k) none ∙ none_marked n k)) ∙ (sym (h k (omega arith)) ∙ listed_marked marks ks k are))
  where
    none_marked : (n k : ℕ) → mark_at (replicate n false) k ≡ false
    none_marked zero k = refl
    none_marked (suc n) zero = refl
    none_marked (suc n) (suc k) = none_marked n k
