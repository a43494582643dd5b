-- The signals of a scope are no more than the bits of its module that have delayed copies, so its limits are short.
use Rattle.std.specs.Prelude.{◌≡◌, ℕ, ◌+◌, ◌*◌, ◌<◌, ◌≤◌, ◌^◌, ◌==◌, ◌&&◌, ◌||◌, unsigned_abs, ℤ, Bool, true, false, List, [], ◌∷◌, Option, Some, None, filter, flat_map, length, map, zip, refl, slice_get, if◌then◌else◌}
use Rattle.std.specs.List.{AllByRecursion, enumerate_from, list_any, IsDistinct}
use Rattle.std.proofs.Common.{sym, ◌∙◌, ap, arith, subst}
use Rattle.std.proofs.lemmas.Bool.{eq-eqb, eqb-true}
use Rattle.std.proofs.lemmas.Bool.Decides.{Decides-eqb}
use Rattle.std.proofs.lemmas.Cmp.{nat_eq_equiv}
use Rattle.std.proofs.lemmas.List.{length-map}
use Rattle.std.proofs.lemmas.Simd.{map-map}
use Rattle.std.proofs.lemmas.List.Elements.{All-from_recursion}
use Rattle.std.proofs.lemmas.Map.Made.{length-le_from_is_member}
use Rattle.std.proofs.lemmas.Nat.{mul-le}
use Rattle.sg_circuit.specs.FanOut.{has}
use Rattle.sg_circuit.specs.Signals.{takes_lates, is_window, windows, signal_nets, first_of_each, signals, IsShort, AreShort}
use Rattle.sg_circuit.specs.declared.checks.Check as code_check
use Rattle.sg_circuit.specs.declared.checks.CheckTiming as code_timing
use Rattle.vl_tree.specs.Tree.{Module, Source}
use Rattle.elab_model.specs.Ends.{first_bits}
use Rattle.elab_model.specs.Hierarchy.{Instance, instances}
use Rattle.elab_model.specs.Lates.{DelayedCopy, signal_count}
use Rattle.elab_model.specs.Nets.{nets}
use Rattle.elab_model.specs.Terms.{NetBit}
use Rattle.circuit_model.specs.CheckUses.{CheckUse as Check_use, check_of_use, timing_of_use, two_limits}
use Rattle.circuit_model.specs.PathUses.{bit_number}
use Rattle.elab_laws.specs.Words.{In}
use Rattle.elab_laws.proofs.Apart.{numbers-either}
use Rattle.elab_laws.proofs.Copies.{copy_of, all_copies}
use Rattle.elab_laws.proofs.Ends.{in-first_bits}
use Rattle.elab_laws.proofs.Firsts.{firsts, firsts-apart, in-firsts, in-told, told-in}
use Rattle.elab_laws.proofs.Lists.{Pairwise, all-flat_in, all-from, all-in, all-weaker, in-map, pairwise-weaker}
use Rattle.elab_laws.proofs.Numbers.{number}
use Rattle.elab_laws.proofs.Stated.{instances-have_places}
use Rattle.elab_closed.proofs.Places.{counted-at, in-place}
use Rattle.elab_closed.proofs.SoundChecks.{IsLight}

-- ---- lists of numbers

-- numbers of which none stands twice, all of them in a list, are no more than it has
within-list : (ns ks : List ℕ) → Pairwise (λ a b. (a == b) ≡ false) ns → AllByRecursion (λ n. In n ks) ns → length ns ≤ length ks
unfolding IsDistinct
within-list ns ks apart h =
    length-le_from_is_member nat_eq_equiv ns ks (distinct ns apart)
    (λ q m. told-in (λ a b. a == b) Decides-eqb q ks (all-in (λ n. In n ks) q ns h (in-told (λ a b. a == b) Decides-eqb q ns m)))
  where
    distinct : (ns : List ℕ) → Pairwise (λ a b. (a == b) ≡ false) ns → IsDistinct (λ a b. a == b) ns
    distinct [] h = tt
    distinct (n ∷ ns) h = (h.0, distinct ns h.1)

-- as `has` tells numbers apart
abbrev same_number : ℕ → ℕ → Bool
same_number a b = b == a

has-any : (n : ℕ) (ks : List ℕ) → has n ks ≡ list_any (same_number n) ks
has-any n [] = refl
has-any n (k ∷ ks) = ap (λ b. (k == n) || b) (has-any n ks)

numbers-told : (a b : ℕ) → ((b == a) ≡ true → a ≡ b) × (a ≡ b → (b == a) ≡ true)
numbers-told a b = (λ h. sym (eqb-true b a h), λ e. eq-eqb b a (sym e))

firsts-are : (seen ns : List ℕ) → first_of_each seen ns ≡ firsts same_number (λ n. n) seen ns
firsts-are seen [] = refl
firsts-are seen (n ∷ ns) =
    ap (λ b. if b then first_of_each seen ns else n ∷ first_of_each (n ∷ seen) ns) (has-any n seen)
    ∙ ap (λ ms. if list_any (same_number n) seen then ms else n ∷ first_of_each (n ∷ seen) ns) (firsts-are seen ns)
    ∙ ap (λ ms. if list_any (same_number n) seen then firsts same_number (λ n. n) seen ns else n ∷ ms) (firsts-are (n ∷ seen) ns)

-- each number once: no more than there are in a list that has them all
pub firsts-within : (ns ks : List ℕ) → AllByRecursion (λ n. In n ks) ns → length (first_of_each [] ns) ≤ length ks
firsts-within ns ks h =
    subst (λ ms. length ms ≤ length ks) (sym (firsts-are [] ns))
    (within-list once ks
    (pairwise-weaker (λ a b. (b == a) ≡ false) (λ a b. (a == b) ≡ false) once (λ a b e. numbers-either a b ∙ e) (firsts-apart same_number numbers-told (λ n. n) [] ns))
    (all-from (λ n. In n ks) once (λ n i. all-in (λ n. In n ks) n ns h (in-firsts same_number (λ n. n) n [] ns i))))
  where
    once : List ℕ
    once = firsts same_number (λ n. n) [] ns

-- ---- the windows of a scope

-- what holds of what a window looks for
abbrev OfWindow : (code_timing.CheckTiming → Type 0) → ℕ × code_timing.CheckTiming → Type 0
OfWindow P w = P w.1

windows-all : (P : code_timing.CheckTiming → Type 0) (scope a : ℕ) (us : List Check_use) → AllByRecursion (λ u. u.scope ≡ scope → takes_lates u.kind ≡ true → P (timing_of_use u)) us
    → AllByRecursion (OfWindow P) (map (λ w. (w.0, w.1.1)) (filter (is_window scope) (enumerate_from a (zip (map check_of_use us) (map timing_of_use us)))))
windows-all P scope a [] h = tt
windows-all P scope a (u ∷ us) h = by (u.scope == scope) refl (takes_lates u.kind) refl (windows-all P scope (a + 1) us h.1)
  where
    rest : List (ℕ × (code_check.Check × code_timing.CheckTiming))
    rest = filter (is_window scope) (enumerate_from (a + 1) (zip (map check_of_use us) (map timing_of_use us)))

    by : (b : Bool) → (u.scope == scope) ≡ b → (t : Bool) → takes_lates u.kind ≡ t → AllByRecursion (OfWindow P) (map (λ w. (w.0, w.1.1)) rest)
        → AllByRecursion (OfWindow P) (map (λ w. (w.0, w.1.1)) (if b && t then (a, (check_of_use u, timing_of_use u)) ∷ rest else rest))
    by true e true t k = (h.0 (eqb-true u.scope scope e) t, k)
    by true e false t k = k
    by false e t f k = k

-- a use of a check that sees delayed copies has its signals in the list of its scope, and its limits are light by the length of that
pub record Weighs (listed : ℕ → List ℕ) (u : Check_use) : Type 0 where
  pub nets : takes_lates u.kind ≡ true → AllByRecursion (λ n. In n (listed u.scope)) (signal_nets (timing_of_use u))
  pub limits : takes_lates u.kind ≡ true → AllByRecursion (IsLight (length (listed u.scope) + 1)) (two_limits u.limits)

pub scopes-short : (listed : ℕ → List ℕ) (us : List Check_use) → AllByRecursion (Weighs listed) us → (scope : ℕ) → AreShort (map check_of_use us) (map timing_of_use us) scope
scopes-short listed us h scope =
    let checks = map check_of_use us in
    let timings = map timing_of_use us in
    let ws = windows checks timings scope in
    let own = listed scope in
    let Nets : code_timing.CheckTiming → Type 0 = λ t. AllByRecursion (λ n. In n own) (signal_nets t) in
    let Light : code_timing.CheckTiming → Type 0 = λ t. AllByRecursion (IsLight (length own + 1)) t.limits in
    let there : AllByRecursion (OfWindow Nets) ws =
    windows-all Nets scope 0 us (all-weaker (Weighs listed) (λ u. u.scope ≡ scope → takes_lates u.kind ≡ true → Nets (timing_of_use u)) us
    (λ u k e t. subst (λ s. AllByRecursion (λ n. In n (listed s)) (signal_nets (timing_of_use u))) e (k.nets t)) h) in
    let light : AllByRecursion (OfWindow Light) ws =
    windows-all Light scope 0 us (all-weaker (Weighs listed) (λ u. u.scope ≡ scope → takes_lates u.kind ≡ true → Light (timing_of_use u)) us
    (λ u k e t. subst (λ s. AllByRecursion (IsLight (length (listed s) + 1)) (two_limits u.limits)) e (k.limits t)) h) in
    let few : length (signals checks timings scope) ≤ length own =
    firsts-within (flat_map (λ w. signal_nets w.1) ws) own (all-flat_in (λ n. In n own) (λ w. signal_nets w.1) ws there) in
    let count = length (signals checks timings scope) in
    All-from_recursion (OfWindow (IsShort count)) ws
    (all-weaker (OfWindow Light) (OfWindow (IsShort count)) ws
    (λ w k. All-from_recursion (λ l. unsigned_abs l * (count + 1) < 2 ^ 60) w.1.limits
    (all-weaker (IsLight (length own + 1)) (λ l. unsigned_abs l * (count + 1) < 2 ^ 60) w.1.limits (λ l e. lighter l count (length own) few e) k)) light)
  where
    lighter : (l : ℤ) (a b : ℕ) → a ≤ b → unsigned_abs l * (b + 1) < 2 ^ 60 → unsigned_abs l * (a + 1) < 2 ^ 60
    lighter l a b h k = let le : unsigned_abs l * (a + 1) ≤ unsigned_abs l * (b + 1) = mul-le (unsigned_abs l) (a + 1) (unsigned_abs l) (b + 1) (omega arith) (omega (arith, h)) in omega (arith, le, k)

-- ---- the signals of an instance

-- the bits of a module that have delayed copies, each once
abbrev copied_bits : Module → List NetBit
copied_bits m = first_bits [] (map (λ c. c.1.signal) (all_copies m))

abbrev nets_in : Source → Module → Option Instance → List ℕ
nets_in source top None = []
nets_in source top (Some s) = map (bit_number (nets source top) source s) (copied_bits s.step.definition)

abbrev pub nets_listed : Source → Module → ℕ → List ℕ
nets_listed source top scope = nets_in source top (slice_get (instances source top) scope)

listed-is : (source : Source) (top : Module) (s : Instance) → In s (instances source top) → nets_listed source top s.step.number ≡ map (bit_number (nets source top) source s) (copied_bits s.step.definition)
listed-is source top s there =
    let r = in-place s (instances source top) there in
    let e : number s ≡ r.0 = counted-at number (instances source top) r.0 s (instances-have_places source top) r.1 in
    ap (nets_listed source top) e ∙ ap (nets_in source top) r.1

pub listed-count : (source : Source) (top : Module) (s : Instance) → In s (instances source top) → length (nets_listed source top s.step.number) ≡ signal_count s.step.definition
listed-count source top s there = ap length (listed-is source top s there) ∙ length-map (copied_bits s.step.definition) (bit_number (nets source top) source s)

-- the net of what a copy copies is one of them
pub signal-listed : (source : Source) (top : Module) (s : Instance) (d : DelayedCopy) → In s (instances source top) → In d (map copy_of (all_copies s.step.definition))
    → In (bit_number (nets source top) source s d.signal) (nets_listed source top s.step.number)
signal-listed source top s d there h =
    let m = s.step.definition in
    let signals : In d.signal (map (λ c. c.1.signal) (all_copies m)) = subst (In d.signal) (map-map (λ (c : DelayedCopy). c.signal) copy_of (all_copies m)) (in-map (λ (c : DelayedCopy). c.signal) d (map copy_of (all_copies m)) h) in
    subst (In (bit_number (nets source top) source s d.signal)) (sym (listed-is source top s there))
    (in-map (bit_number (nets source top) source s) d.signal (copied_bits m) (in-first_bits d.signal [] (map (λ c. c.1.signal) (all_copies m)) signals refl))
