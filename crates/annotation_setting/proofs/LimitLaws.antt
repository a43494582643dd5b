-- New limits of a timing check.
use Rattle.std.specs.Prelude.{◌≡◌, ℕ, zero, suc, ℤ, pos, ◌+◌, ◌*◌, ◌<◌, ◌≤◌, ◌^◌, unsigned_abs, Bool, true, false, All, List, [], ◌∷◌, length, map, take, slice_index_or, refl}
use Rattle.std.proofs.Common.{sym, ◌∙◌, ap, subst, arith, add-one, to_z, of_z, w64}
use Rattle.std.proofs.Math.Nat.{le-mul_of_pos_right}
use Rattle.std.proofs.lemmas.Int.{fits_signed_from_abs, to_z-of_z}
use Rattle.std.proofs.lemmas.List.{get_or_default, get_or-map, length-map}
use Rattle.std.proofs.lemmas.List.Elements.{All-more}
use Rattle.sg_circuit.specs.Circuit.{Circuit}
use Rattle.sg_circuit.specs.Closed.{limit_count}
use Rattle.sg_circuit.specs.Signals.{signals, takes_lates}
use Rattle.sg_circuit.specs.declared.checks.CheckKind.{CheckKind}
use Rattle.sg_circuit.specs.declared.checks.CheckKind.TheVariants as kinds
use Rattle.sg_circuit.specs.declared.checks.CheckTiming.{CheckTiming}
use Rattle.sg_circuit.specs.Seen.{circuit_seen}
use Rattle.sg_circuit.specs.declared.circuits.Parts.{Parts}
use Rattle.late_limits.proofs.AlikeLaws.{signals-alike, without_limits}
use Rattle.circuit_open.specs.Open.{Open, IsLight, changed_at, with_check_limit, with_limit}
use Rattle.circuit_open.proofs.ChangeLaws.{kept-at, length-changed}
use Rattle.annotation_model.specs.Finding.{no_check}
use Rattle.annotation_model.specs.Laws.{AreSmall}
use Rattle.annotation_model.specs.Spots.{weight_of}
use Rattle.annotation_setting.specs.Limits.{limited, set_limits, with_all_limits, with_limits, with_limits_at, AreSmallAt}
use Rattle.annotation_setting.proofs.SpotLaws.{changed-same}

-- both parts of a kind that takes limits below 0
two-of : (k : CheckKind) → takes_lates k ≡ true → 1 < limit_count k
two-of kinds.Setup e = cc
two-of kinds.Hold e = cc
two-of kinds.Recovery e = cc
two-of kinds.Removal e = cc
two-of kinds.Skew e = cc
two-of kinds.Setuphold e = omega arith
two-of kinds.Recrem e = omega arith
two-of kinds.Width e = cc
two-of kinds.Period e = cc

pub check-stays : (now c : Circuit) (check part : ℕ) (v : ℤ) → now ≡ with_check_limit check part v c → check < length c.check_timings → check < length now.check_timings
check-stays now c check part v e l = subst (λ n. check < n) (sym (ap (λ (d : Circuit). length d.check_timings) e ∙ length-changed (with_limit part v) check c.check_timings)) l

pub two-parts : (now c : Circuit) (check : ℕ) (v : ℤ) (x : CheckTiming) → now ≡ with_check_limit check 0 v c → check < length c.check_timings → x ≡ slice_index_or c.check_timings check x → takes_lates x.kind ≡ true
    → (t : CheckTiming) → 1 < limit_count (slice_index_or now.check_timings check t).kind
two-parts now c check v x e l is two t =
    let K = λ (y : CheckTiming). y.kind in
    let same : K (slice_index_or now.check_timings check t) ≡ x.kind =
    ap (λ (d : Circuit). K (slice_index_or d.check_timings check t)) e ∙ (kept-at K (with_limit 0 v) check c.check_timings (λ d m. refl) check t ∙ ap K (get_or_default c.check_timings check t x l ∙ sym is)) in
    subst (λ k. 1 < limit_count k) (sym same) (two-of x.kind two)

changed-twice : {A : Type 0} (f g : A → A) (k : ℕ) (xs : List A) → changed_at g k (changed_at f k xs) ≡ changed_at (λ x. g (f x)) k xs
changed-twice f g k [] = refl
changed-twice f g zero (x ∷ xs) = refl
changed-twice f g (suc k) (x ∷ xs) = ap (λ ys. x ∷ ys) (changed-twice f g k xs)

pub both-set : (c : Circuit) (check room : ℕ) (new : List ℤ) (v w : ℤ) (x : CheckTiming) (before after : Open) → check < length c.check_timings → x ≡ slice_index_or c.check_timings check x → takes_lates x.kind ≡ true
    → v ≡ slice_index_or new 0 (pos 0) → w ≡ slice_index_or new 1 (pos 0) → before ≡ record { circuit = with_check_limit check 0 v c; room = room } → after ≡ record { circuit = with_check_limit check 1 w before.circuit; room = before.room }
    → after ≡ record { circuit = with_limits_at check new c; room = room }
both-set c check room new v w x before after l is two first second was now =
    now
    ∙ (ap (λ (o : Open). record { circuit = with_check_limit check 1 w o.circuit; room = o.room }) was
    ∙ ap (λ ts. record { circuit = record c { check_timings = ts }; room = room })
    (changed-twice (with_limit 0 v) (with_limit 1 w) check c.check_timings
    ∙ changed-same (λ t. with_limit 1 w (with_limit 0 v t)) (with_limits new) check c.check_timings x
    (subst (λ y. with_limit 1 w (with_limit 0 v y) ≡ with_limits new y) is
    (ap (λ a. with_limit 1 w (with_limit 0 a x)) first ∙ (ap (λ b. with_limit 1 b (with_limit 0 (slice_index_or new 0 (pos 0)) x)) second ∙ ap (λ b. record x { limits = set_limits b new x.limits }) (sym two))))))

pub first-set : (c : Circuit) (check room : ℕ) (new : List ℤ) (v : ℤ) (x : CheckTiming) (after : Open) → check < length c.check_timings → x ≡ slice_index_or c.check_timings check x → takes_lates x.kind ≡ false
    → v ≡ slice_index_or new 0 (pos 0) → after ≡ record { circuit = with_check_limit check 0 v c; room = room } → after ≡ record { circuit = with_limits_at check new c; room = room }
first-set c check room new v x after l is one first now =
    now
    ∙ ap (λ ts. record { circuit = record c { check_timings = ts }; room = room })
    (changed-same (with_limit 0 v) (with_limits new) check c.check_timings x
    (subst (λ y. with_limit 0 v y ≡ with_limits new y) is (ap (λ a. with_limit 0 a x) first ∙ ap (λ b. record x { limits = set_limits b new x.limits }) (sym one))))

-- what stands in the code's table stands in the circuit's
pub here : (c : Circuit) (parts : Parts) (check : ℕ) (x : CheckTiming) → circuit_seen parts ≡ c → x ≡ slice_index_or parts.check_timings.items check x → x ≡ slice_index_or c.check_timings check x
here c parts check x e is = is ∙ ap (λ (d : Circuit). slice_index_or d.check_timings check x) e

-- ---- what a check's limits weigh

weight-positive : (c : Circuit) (signed : Bool) (scope : ℕ) → 0 < weight_of c signed scope
weight-positive c true scope = omega arith
weight-positive c false scope = omega arith

unweighed : (size weight limit : ℕ) → 0 < weight → size * weight < limit → size < limit
unweighed size weight limit l h = let more : size ≤ size * weight = le-mul_of_pos_right size l in omega arith

-- once at least
pub once : (c : Circuit) (check : ℕ) (limits : List ℤ) → AreSmallAt c check limits → All (λ l. unsigned_abs l < 2 ^ 60) limits
once c check limits small i d l =
    let k = no_check.check in
    let t = no_check.timing in
    let signed = takes_lates (slice_index_or c.check_timings check t).kind in
    let scope = (slice_index_or c.checks check k).scope in
    unweighed (unsigned_abs (slice_index_or limits i d)) (weight_of c signed scope) (2 ^ 60) (weight-positive c signed scope) (small k t i d l)

pub each-light : (c : Circuit) (check : ℕ) (limits : List ℤ) (part : ℕ) (value : ℤ) → AreSmallAt c check limits → part < length limits → value ≡ slice_index_or limits part (pos 0) → IsLight c check value
each-light c check limits part value small l is t k two =
    let scope = (slice_index_or c.checks check k).scope in
    subst (λ v. unsigned_abs v * weight_of c true scope < 2 ^ 60) (sym is)
    (subst (λ b. unsigned_abs (slice_index_or limits part (pos 0)) * weight_of c b scope < 2 ^ 60) two (small k t part (pos 0) l))

pub each-below : (c : Circuit) (check : ℕ) (limits : List ℤ) (part : ℕ) (value : ℤ) → AreSmallAt c check limits → part < length limits → value ≡ slice_index_or limits part (pos 0) → unsigned_abs value < 2 ^ 60
each-below c check limits part value small l is = subst (λ v. unsigned_abs v < 2 ^ 60) (sym is) (once c check limits small part (pos 0) l)

-- the same in circuits whose checks are alike but for limits
kind-alike : (ts us : List CheckTiming) (check : ℕ) (t u : CheckTiming) → map without_limits ts ≡ map without_limits us → check < length ts → (slice_index_or ts check t).kind ≡ (slice_index_or us check u).kind
kind-alike ts us check t u e l =
    let F = λ (x : CheckTiming). without_limits x in
    let m : check < length us = subst (λ n. check < n) (sym (length-map ts F) ∙ (ap length e ∙ length-map us F)) l in
    let at_ts : slice_index_or (map F ts) check t ≡ F (slice_index_or ts check t) = get_or-map F ts check t t l in
    let at_us : slice_index_or (map F us) check t ≡ F (slice_index_or us check u) = get_or-map F us check u t m in
    ap (λ (x : CheckTiming). x.kind) (sym at_ts ∙ (ap (λ xs. slice_index_or xs check t) e ∙ at_us))

pub small-alike : (c d : Circuit) (check : ℕ) (limits : List ℤ) → d.checks ≡ c.checks → map without_limits d.check_timings ≡ map without_limits c.check_timings → check < length d.check_timings → AreSmallAt c check limits
    → AreSmallAt d check limits
small-alike c d check limits checks alike l small k t =
    let scope = (slice_index_or c.checks check k).scope in
    let kind : (slice_index_or d.check_timings check t).kind ≡ (slice_index_or c.check_timings check t).kind = kind-alike d.check_timings c.check_timings check t t alike l in
    let same : signals d.checks d.check_timings scope ≡ signals c.checks c.check_timings scope =
    signals-alike d.checks d.check_timings c.check_timings scope alike ∙ ap (λ ks. signals ks c.check_timings scope) checks in
    subst (λ ks. AreSmall (weight_of d (takes_lates (slice_index_or d.check_timings check t).kind) (slice_index_or ks check k).scope) limits) (sym checks)
    (subst (λ q. AreSmall (weight_of d (takes_lates q) scope) limits) (sym kind)
    (weighs-same (takes_lates (slice_index_or c.check_timings check t).kind) scope same (small k t)))
  where
    weighs-same : (signed : Bool) (scope : ℕ) → signals d.checks d.check_timings scope ≡ signals c.checks c.check_timings scope → AreSmall (weight_of c signed scope) limits → AreSmall (weight_of d signed scope) limits
    weighs-same true scope same h = subst (λ ns. AreSmall (length ns + 1) limits) (sym same) h
    weighs-same false scope same h = h

alike-changed : (part : ℕ) (value : ℤ) (check : ℕ) (ts : List CheckTiming) → map without_limits (changed_at (with_limit part value) check ts) ≡ map without_limits ts
alike-changed part value check [] = refl
alike-changed part value zero (t ∷ ts) = refl
alike-changed part value (suc check) (t ∷ ts) = ap (λ xs. without_limits t ∷ xs) (alike-changed part value check ts)

pub small-stays : (now c : Circuit) (check part : ℕ) (v : ℤ) (limits : List ℤ) → now ≡ with_check_limit check part v c → check < length c.check_timings → AreSmallAt c check limits → AreSmallAt now check limits
small-stays now c check part v limits e l small =
    small-alike c now check limits (ap (λ (d : Circuit). d.checks) e) (ap (λ (d : Circuit). map without_limits d.check_timings) e ∙ alike-changed part v check c.check_timings) (check-stays now c check part v e l) small

-- a limit that is handed on
pub limit-read : (c : Circuit) (check : ℕ) (limits : List ℤ) (part : ℕ) → AreSmallAt c check limits → part < length limits → to_z w64 (of_z w64 (slice_index_or limits part (pos 0))) ≡ slice_index_or limits part (pos 0)
limit-read c check limits part small l =
    let z = slice_index_or limits part (pos 0) in
    let short : unsigned_abs z < 2 ^ 60 = once c check limits small part (pos 0) l in
    to_z-of_z w64 z (fits_signed_from_abs w64 z (omega arith))

-- limits that are set again stay
set-again : (two : Bool) (xs : List ℤ) → length xs ≡ 2 → set_limits two xs xs ≡ xs
set-again two [] n = absurd (omega arith)
set-again two (x ∷ []) n = absurd (omega arith)
set-again true (x ∷ y ∷ []) n = refl
set-again false (x ∷ y ∷ []) n = refl
set-again two (x ∷ y ∷ z ∷ zs) n = absurd (omega arith)

changed-none : {A : Type 0} (k : ℕ) (xs : List A) → changed_at (λ x. x) k xs ≡ xs
changed-none k [] = refl
changed-none zero (x ∷ xs) = refl
changed-none (suc k) (x ∷ xs) = ap (λ ys. x ∷ ys) (changed-none k xs)

pub none-set : (o : Open) (check : ℕ) (new : List ℤ) (x : CheckTiming) → x ≡ slice_index_or o.circuit.check_timings check x → x.limits ≡ new → length x.limits ≡ 2 → o ≡ record { circuit = with_limits_at check new o.circuit; room = o.room }
none-set o check new x is same two =
    sym (ap (λ ts. record { circuit = record o.circuit { check_timings = ts }; room = o.room })
    (changed-same (with_limits new) (λ t. t) check o.circuit.check_timings x (subst (λ y. with_limits new y ≡ y) is stays) ∙ changed-none check o.circuit.check_timings))
  where
    stays : with_limits new x ≡ x
    stays = subst (λ ls. with_limits ls x ≡ x) same (ap (λ (ls : List ℤ). record x { limits = ls }) (set-again (takes_lates x.kind) x.limits two))

-- ---- the checks one after another

length-limited : (ls : List (List ℤ)) (ts : List CheckTiming) → length (limited ls ts) ≡ length ts
length-limited [] ts = refl
length-limited (l ∷ ls) [] = refl
length-limited (l ∷ ls) (t ∷ ts) = ap suc (length-limited ls ts)

limited-past : (ls : List (List ℤ)) (ts : List CheckTiming) (k : ℕ) (d : CheckTiming) → slice_index_or (limited (take k ls) ts) k d ≡ slice_index_or ts k d
limited-past ls ts zero d = refl
limited-past [] ts (suc k) d = refl
limited-past (l ∷ ls) [] (suc k) d = refl
limited-past (l ∷ ls) (t ∷ ts) (suc k) d = limited-past ls ts k d

limited-more : (ls : List (List ℤ)) (ts : List CheckTiming) (k : ℕ) (d : List ℤ) → k < length ls → k < length ts → changed_at (with_limits (slice_index_or ls k d)) k (limited (take k ls) ts) ≡ limited (take (suc k) ls) ts
limited-more [] ts k d l m = absurd (omega arith)
limited-more (x ∷ xs) [] k d l m = absurd (omega arith)
limited-more (x ∷ xs) (t ∷ ts) zero d l m = refl
limited-more (x ∷ xs) (t ∷ ts) (suc k) d l m = ap (λ ys. with_limits x t ∷ ys) (limited-more xs ts k d (omega arith) (omega arith))

alike-limited : (ls : List (List ℤ)) (ts : List CheckTiming) → map without_limits (limited ls ts) ≡ map without_limits ts
alike-limited [] ts = refl
alike-limited (l ∷ ls) [] = refl
alike-limited (l ∷ ls) (t ∷ ts) = ap (λ xs. without_limits t ∷ xs) (alike-limited ls ts)

pub check-within : (now c : Circuit) (ls : List (List ℤ)) (k : ℕ) → now ≡ with_all_limits (take k ls) c → k < length ls → length ls ≡ length c.check_timings → k < length now.check_timings
check-within now c ls k is l m = subst (λ n. k < n) (sym (ap (λ (d : Circuit). length d.check_timings) is ∙ length-limited (take k ls) c.check_timings)) (omega arith)

pub small-within : (now c : Circuit) (ls : List (List ℤ)) (k : ℕ) (d : List ℤ) → now ≡ with_all_limits (take k ls) c → k < length ls → length ls ≡ length c.check_timings
    → ((check : ℕ) → check < length ls → AreSmallAt c check (slice_index_or ls check [])) → AreSmallAt now k (slice_index_or ls k d)
small-within now c ls k d is l m small =
    small-alike c now k (slice_index_or ls k d) (ap (λ (x : Circuit). x.checks) is) (ap (λ (x : Circuit). map without_limits x.check_timings) is ∙ alike-limited (take k ls) c.check_timings)
    (check-within now c ls k is l m) (subst (AreSmallAt c k) (get_or_default ls k [] d l) (small k l))

pub limits-more : (after now : Open) (c : Circuit) (ls : List (List ℤ)) (k : ℕ) (d : List ℤ) → now.circuit ≡ with_all_limits (take k ls) c → k < length ls → length ls ≡ length c.check_timings
    → after ≡ record { circuit = with_limits_at k (slice_index_or ls k d) now.circuit; room = now.room } → after.circuit ≡ with_all_limits (take (k + 1) ls) c
limits-more after now c ls k d is l m set =
    ap (λ (o : Open). o.circuit) set
    ∙ (ap (with_limits_at k (slice_index_or ls k d)) is
    ∙ (ap (λ ts. record c { check_timings = ts }) (limited-more ls c.check_timings k d l (omega arith)) ∙ ap (λ n. with_all_limits (take n ls) c) (sym (add-one k))))

pub two-more : (now c : Circuit) (ls : List (List ℤ)) (k : ℕ) → now ≡ with_all_limits (take k ls) c → k < length ls → length ls ≡ length c.check_timings → All (λ t. length t.limits ≡ 2) (take k c.check_timings)
    → ((d : CheckTiming) → length (slice_index_or now.check_timings k d).limits ≡ 2) → All (λ t. length t.limits ≡ 2) (take (k + 1) c.check_timings)
two-more now c ls k is l m before two =
    let P = λ (t : CheckTiming). length t.limits ≡ 2 in
    let d = no_check.timing in
    All-more P c.check_timings k d (omega arith) before (subst P (ap (λ (x : Circuit). slice_index_or x.check_timings k d) is ∙ limited-past ls c.check_timings k d) (two d))
