-- What is said of a text that was read, or wasn't.
use Rattle.std.proofs.Common.{◌≡◌, ℕ, ℤ, pos, negsuc, suc, ◌+◌, ◌/◌, ◌<◌, ◌≤◌, Bool, true, false, cond, List, [], ◌∷◌, ◌++◌, length, map, drop, get_or, take, refl, sym, ◌∙◌, ap, subst, arith}
use Rattle.std.specs.Prelude.{◌^◌, ◌≤ℤ◌, All, MatchResult, Result, Ok, Err, count_by, if◌then◌else◌}
use Rattle.std.specs.declared.option.Option.{Option}
use Rattle.std.specs.declared.option.Option.TheVariants.{Some, None}
use Rattle.std.specs.Bool.{OnFalse, OnTrue}
use Rattle.std.specs.Str.{bytes_eq}
use Rattle.std.proofs.lemmas.Bool.{both_ways}
use Rattle.std.proofs.lemmas.Int.{ints}
use Rattle.std.proofs.lemmas.Slice.Eq.{bytes_eq-Decides}
use Rattle.std.proofs.lemmas.List.{append-nil, append_assoc, length-append, length-map, take-append-drop}
use Rattle.std.proofs.lemmas.List.Elements.{All-cons, All-nil}
use Rattle.std.proofs.lemmas.List.Sums.{sum_by-cons}
use Rattle.sg_circuit.specs.Circuit.{Circuit, Element, net_at}
use Rattle.sg_circuit.specs.Closed.{IsClosed}
use Rattle.sg_circuit.specs.Seen.{circuit_seen, element_seen, kind_seen}
use Rattle.sg_circuit.specs.declared.circuits.Parts.{Parts}
use Rattle.sg_circuit.specs.declared.nets.Driver.{Driver}
use Rattle.sg_circuit.specs.declared.elements.Element as code_element
use Rattle.sg_circuit.specs.declared.elements.ElementKind.{ElementKind}
use Rattle.sg_circuit.specs.declared.elements.ElementKind.TheVariants as code_kind
use Rattle.sg_logic.specs.declared.values.Value.{Value}
use Rattle.sg_model.specs.Machine.{Stamp}
use Rattle.sg_model.specs.Round.{each_from}
use Rattle.sg_model.specs.Values.{value_at}
use Rattle.sg_text.specs.declared.refusals.Refused.{Refused}
use Rattle.sg_text.specs.declared.refusals.Refused.TheVariants as refused
use Rattle.time_checks.specs.Falling.{AreBy, IsBy}
use Rattle.time_checks.specs.declared.latest.Latest.{Latest}
use Rattle.sim_rounds.specs.Moments.{Fits, IsStampOf, Moment, Pending, computed_last, is_udp, stamp_at, udp_states}
use Rattle.sim_rounds.specs.MomentsSeen.{moment_seen}
use Rattle.sim_rounds.specs.declared.moments.Moment as code_moment
use Rattle.sim_save.specs.Faults.{AreChanges, AreNumbers, FaultStands, IsBodyOf, IsNoBody, IsOfCircuit, IsPower, IsTime, at_end, at_line, bad, count_udps, damaged, lines_in, most_bytes, other, past, syntax, too_large}
use Rattle.sim_save.specs.Lines.{body, joined, save_lines, save_text}
use Rattle.sim_save.specs.Reading.{GivesBack, IsDamaged, IsRead, IsRefused, IsTextOf, RefusalStands}
use Rattle.sim_save.specs.Refusing.{RefusesHalf, is_udp_kind}
use Rattle.sim_save.specs.Steps.{EndsEarly, Head, IsChange, IsLatest}
use Rattle.sim_save.specs.declared.kinds.SaveKind.{SaveKind}
use Rattle.sim_save.specs.declared.kinds.SaveKind.TheVariants as save
use Rattle.sim_save.proofs.CutLaws.{halves, no_text}
use Rattle.sim_save.proofs.MomentLaws.{changes_cons}
use Rattle.sim_save.proofs.OnceLaws.{of_circuit, read-is-faultless, read-once, udps_most}

-- ---- a half

pub left_within : (half : List ℕ) (left : ℕ) → EndsEarly Head half left → left ≤ length half
left_within half left e = let n = ap length e.is in let m = length-append (joined e.lines) e.rest in omega (arith, n, m, e.many)

-- an even text whose halves differ is twice nothing, and an odd one is
pub no_half : (bytes first second : List ℕ) → bytes ≡ first ++ second → length first ≡ length bytes / 2 → (first ≡ second → ⊥) → (half : List ℕ) → bytes ≡ half ++ half → ⊥
no_half bytes first second whole size differ half twice =
    let sizes = ap length twice in
    let both = length-append half half in
    let same : length first ≡ length half = omega (arith, sizes, both, size) in
    let parts = halves first second half half same (sym whole ∙ twice) in
    differ (parts.0 ∙ sym parts.1)

pub twice : (bytes first second : List ℕ) (n : ℕ) → first ≡ take n bytes → second ≡ drop n bytes → bytes_eq first second ≡ true → bytes ≡ first ++ first
twice bytes first second n f s same =
    let one : first ≡ second = (bytes_eq-Decides first second).0 same in
    sym (take-append-drop n bytes) ∙ (ap (λ t. t ++ drop n bytes) (sym f) ∙ ap (λ t. first ++ t) (sym s ∙ sym one))

pub not_twice : (bytes first second : List ℕ) (n : ℕ) → first ≡ take n bytes → second ≡ drop n bytes → length first ≡ length bytes / 2 → bytes_eq first second ≡ false → (half : List ℕ) → bytes ≡ half ++ half → ⊥
not_twice bytes first second n f s size differ =
    let whole : bytes ≡ first ++ second = sym (take-append-drop n bytes) ∙ (ap (λ t. t ++ drop n bytes) (sym f) ∙ ap (λ t. first ++ t) (sym s)) in
    no_half bytes first second whole size (λ e. both_ways (bytes_eq first second) differ ((bytes_eq-Decides first second).1 e))

-- ---- the numbers of a circuit

pub is_power : (z : ℤ) → negsuc 14 ≤ℤ z → z ≤ℤ pos 2 → IsPower z
is_power (pos n) low high = omega (arith, ints, high)
is_power (negsuc n) low high = omega (arith, ints, low)

udp_kind : (parts : Parts) (k : ElementKind) → is_udp (kind_seen parts k) ≡ is_udp_kind k
udp_kind parts (code_kind.Gate gate delays) = refl
udp_kind parts (code_kind.Udp udp delays) = refl
udp_kind parts (code_kind.Pass constant) = refl
udp_kind parts (code_kind.Leg timing) = refl
udp_kind parts (code_kind.Path paths style) = refl
udp_kind parts (code_kind.Late delay) = refl

one_udp : (test : Bool) (n m : ℕ) → n ≡ m → (if test then suc n else n) ≡ cond test 1 0 + m
one_udp true n m e = omega (arith, e)
one_udp false n m e = omega (arith, e)

pub udps_counted : (parts : Parts) (elements : List code_element.Element) → count_udps (map (element_seen parts) elements) ≡ count_by (λ e. is_udp_kind e.kind) elements
udps_counted parts [] = refl
udps_counted parts (e ∷ es) =
    let rest = map (element_seen parts) es in
    let test = is_udp_kind e.kind in
    ap (λ t. if t then suc (count_udps rest) else count_udps rest) (udp_kind parts e.kind)
    ∙ (one_udp test (count_udps rest) (count_by (λ d. is_udp_kind d.kind) es) (udps_counted parts es) ∙ sym (sum_by-cons (λ d. cond (is_udp_kind d.kind) 1 0) e es))

udps_of_parts : (parts : Parts) (es : List code_element.Element) → es ≡ parts.elements.items → count_by (λ e. is_udp_kind e.kind) es ≡ count_udps (circuit_seen parts).elements
udps_of_parts parts es e = ap (λ ds. count_by (λ d. is_udp_kind d.kind) ds) e ∙ sym (udps_counted parts parts.elements.items)

pub other_udps : (parts : Parts) (m : code_moment.Moment) (tick : ℤ) (elements n k : ℕ) (es : List code_element.Element) → n ≡ length m.udps.items → k ≡ count_by (λ e. is_udp_kind e.kind) es → es ≡ parts.elements.items → (n ≡ k → ⊥)
    → IsOfCircuit (circuit_seen parts) tick elements (moment_seen m) → ⊥
other_udps parts m tick elements n k es many count same differ h = differ (many ∙ (h.udps ∙ sym (count ∙ udps_of_parts parts es same)))

pub same_circuit : (parts : Parts) (m : code_moment.Moment) (tick : ℤ) (elements k : ℕ) (es : List code_element.Element) → tick ≡ parts.tick.power → elements ≡ length parts.elements.items → length m.nets.items ≡ length parts.nets.items → length m.udps.items ≡ k
    → k ≡ count_by (λ e. is_udp_kind e.kind) es → es ≡ parts.elements.items → length m.latest.items ≡ length parts.checks.items → IsOfCircuit (circuit_seen parts) tick elements (moment_seen m)
same_circuit parts m tick elements k es power many nets udps count same checks = record {
  tick = power;
  elements = many ∙ sym (length-map parts.elements.items (element_seen parts));
  nets = nets;
  udps = udps ∙ (count ∙ udps_of_parts parts es same);
  checks = checks;
}

-- ---- a text that is read

pub on_true : (b : Bool) (P : Type 0) → b ≡ true → OnTrue b P → P
on_true true P e h = h
on_true false P e h = absurd (cc)

pub on_false : (b : Bool) (P : Type 0) → b ≡ false → OnFalse b P → P
on_false true P e h = absurd (cc)
on_false false P e h = h

pub is_read : (bytes half : List ℕ) (circuit : Circuit) (end : ℕ) (tick : ℤ) (elements : ℕ) (m : Moment) → length bytes ≤ most_bytes → bytes ≡ half ++ half → IsBodyOf half tick elements m → IsOfCircuit circuit tick elements m → Fits circuit m → m.time < end
    → IsRead bytes circuit end m
is_read bytes half circuit end tick elements m small twice b same fit before =
    let one : half ≡ body circuit.tick (length circuit.elements) m = b.text ∙ (ap (λ t. body t elements m) same.tick ∙ ap (λ n. body circuit.tick n m) same.elements) in
    let numbers : AreNumbers circuit.tick (length circuit.elements) m = subst (λ n. AreNumbers circuit.tick n m) same.elements (subst (λ t. AreNumbers t elements m) same.tick b.numbers) in
    record { small = small; text = twice ∙ ap (λ h. h ++ h) one; fits = fit; before = before; numbers = numbers }

-- ---- a text that isn't read

pub stands : (bytes : List ℕ) (circuit : Circuit) (end : ℕ) (r : Refused SaveKind) (kind : SaveKind) (byte : ℕ) → r ≡ refused.Fault kind (record { file = 0; byte = byte }) → FaultStands bytes circuit end kind byte → RefusalStands bytes circuit end r
stands bytes circuit end r kind byte e h = subst (RefusalStands bytes circuit end) (sym e) (h, refl)

pub half_stands : (bytes half : List ℕ) (circuit : Circuit) (end : ℕ) (r : Refused SaveKind) → length bytes ≤ most_bytes → bytes ≡ half ++ half → RefusesHalf half r → RefusalStands bytes circuit end r
half_stands bytes half circuit end (refused.Fault kind place) small twice h =
    (subst (λ k. FaultStands bytes circuit end k place.byte) (sym h.0) (syntax small half twice place.byte h.2), h.1)
half_stands bytes half circuit end refused.NoMemory small twice h = tt

-- ---- the numbers of a moment that fits a circuit

changes_from : (vs : List Value) (ss : List (Option Stamp)) → length vs ≡ length ss → ((i : ℕ) → i < length vs → IsChange (value_at vs i) (stamp_at ss i)) → AreChanges vs ss
changes_from [] [] e h = tt
changes_from [] (s ∷ ss) e h = absurd (omega (arith, e))
changes_from (v ∷ vs) [] e h = absurd (omega (arith, e))
changes_from (v ∷ vs) (s ∷ ss) e h = changes_cons v vs s ss (h 0 (omega arith)) (changes_from vs ss (omega (arith, e)) (λ i l. h (suc i) (omega (arith, l))))

times_from : (time : ℕ) → time < 2 ^ 64 → (o : Option ℕ) → IsBy time o → IsTime o
times_from time l None h = tt
times_from time l (Some t) h = omega (arith, l, h)

latest_from : (time : ℕ) → time < 2 ^ 64 → (ls : List Latest) → AreBy time ls → All IsLatest ls
latest_from time l [] h = All-nil IsLatest
latest_from time l (k ∷ ks) h = All-cons IsLatest k ks (times_from time l k.refer h.0.0, times_from time l k.datum h.0.1) (latest_from time l ks h.1)

change_from : (time : ℕ) → time < 2 ^ 64 → (driver : Driver) (v : Value) (s : Option Stamp) → IsStampOf time driver v s → IsChange v s
change_from time l driver v None h = tt
change_from time l driver v (Some s) h = (omega (arith, l, h.0), h.1)

driver_fits : (circuit : Circuit) (m : Moment) → IsClosed circuit → Fits circuit m → (k : ℕ) (d : Pending) → k < length m.pending → (get_or m.pending k d).driver < 2 ^ 32
driver_fits circuit m closed fit k d l = let h = fit.drivers k d l in omega (arith, h, closed.few_elements)

near_fits : (circuit : Circuit) (m : Moment) → Fits circuit m → (k : ℕ) (d : Pending) → k < length m.pending → (get_or m.pending k d).time < 2 ^ 64
near_fits circuit m fit k d l = let h = fit.near k d l in omega (arith, h)

pub numbers_of : (circuit : Circuit) (m : Moment) → IsClosed circuit → IsPower circuit.tick → Fits circuit m → m.time < 2 ^ 64 → m.evaluations < 2 ^ 64 → AreNumbers circuit.tick (length circuit.elements) m
numbers_of circuit m closed power fit time evaluations =
    let same = of_circuit circuit m fit in
    let udps = udps_most circuit.elements in
    record {
      tick = power;
      elements = omega (arith, closed.few_elements);
      nets = omega (arith, closed.few_nets, fit.nets);
      udps = omega (arith, closed.few_elements, same.udps, udps);
      checks = omega (arith, closed.few_checks, fit.checks);
      time = time;
      changes = changes_from m.nets m.stamps (fit.nets ∙ sym fit.stamps) (λ i l. change_from m.time time (net_at circuit i).driver (value_at m.nets i) (stamp_at m.stamps i) (fit.stamped i (omega (arith, l, fit.nets))));
      pending = λ k d l. (driver_fits circuit m closed fit k d l, near_fits circuit m fit k d l);
      latest = latest_from m.time time m.latest fit.latest;
      last = omega (arith, time, fit.last);
      evaluations = evaluations;
    }

-- ---- the moment of a text is given back

-- in a circuit that is made each number of a moment that fits is in its type
pub is_read_as : (bytes : List ℕ) (circuit : Circuit) (end : ℕ) (m : Moment) → IsClosed circuit → IsPower circuit.tick → end < 2 ^ 64 → IsTextOf bytes circuit end m → IsRead bytes circuit end m
is_read_as bytes circuit end m closed power few h =
    record { small = h.small; text = h.text; fits = h.fits; before = h.before; numbers = numbers_of circuit m closed power h.fits (omega (arith, few, h.before)) h.evaluations }

pub gives_back : (bytes : List ℕ) (circuit : Circuit) (end : ℕ) (m : Moment) (r : Result code_moment.Moment (Refused SaveKind)) → IsClosed circuit → IsPower circuit.tick → end < 2 ^ 64
    → MatchResult r (λ read. IsRead bytes circuit end (moment_seen read)) (λ e. RefusalStands bytes circuit end e) → IsTextOf bytes circuit end m → GivesBack m r
gives_back bytes circuit end m (Ok read) closed power few h k = read-once bytes circuit end (moment_seen read) m h (is_read_as bytes circuit end m closed power few k)
gives_back bytes circuit end m (Err (refused.Fault kind place)) closed power few h k = read-is-faultless bytes circuit end m kind place.byte (is_read_as bytes circuit end m closed power few k) h.0
gives_back bytes circuit end m (Err refused.NoMemory) closed power few h k = tt

pub refuses_damage : (bytes : List ℕ) (circuit : Circuit) (end : ℕ) (m : Moment) (r : Result code_moment.Moment (Refused SaveKind))
    → MatchResult r (λ read. IsRead bytes circuit end (moment_seen read)) (λ e. RefusalStands bytes circuit end e) → IsDamaged (save_text circuit m) bytes → IsRefused r
refuses_damage bytes circuit end m (Ok read) h d = no_text circuit.tick (length circuit.elements) m (moment_seen read) bytes d h.text
refuses_damage bytes circuit end m (Err e) h d = tt
