-- One moment is read of a text, and none where a fault stands.
use Rattle.std.proofs.Common.{◌≡◌, ℕ, ℤ, suc, ◌<◌, ◌≤◌, Bool, true, false, List, [], ◌∷◌, ◌++◌, length, refl, sym, ◌∙◌, ap, subst, arith}
use Rattle.std.specs.Prelude.{if◌then◌else◌}
use Rattle.std.proofs.lemmas.List.{append-nil, append_assoc, length-append}
use Rattle.sg_circuit.specs.Circuit.{Circuit, Element}
use Rattle.sg_logic.specs.declared.values.Value.{Value}
use Rattle.sg_model.specs.Round.{each_from}
use Rattle.sim_rounds.specs.Moments.{Fits, Moment, computed_last, is_udp, udp_states}
use Rattle.sim_save.specs.Faults.{AreNumbers, FaultStands, IsBodyOf, IsNoBody, IsOfCircuit, at_end, at_line, bad, count_udps, damaged, lines_in, other, past, syntax, too_large}
use Rattle.sim_save.specs.Lines.{body, save_lines}
use Rattle.sim_save.specs.Reading.{IsRead}
use Rattle.sim_save.specs.declared.kinds.SaveKind.{SaveKind}
use Rattle.sim_save.specs.declared.kinds.SaveKind.TheVariants as save
use Rattle.sim_save.proofs.BodyLaws.{lines_of_body}
use Rattle.sim_save.proofs.CutLaws.{halves}
use Rattle.sim_save.proofs.SameLaws.{same_body}

-- a text is twice one half alone
pub one_half : (a b : List ℕ) → a ++ a ≡ b ++ b → a ≡ b
one_half a b e =
    let sizes = ap length e in
    let first = length-append a a in
    let second = length-append b b in
    let size : length a ≡ length b = omega (arith, sizes, first, second) in
    (halves a a b b size e).0

states_length : {A : Type 0} (f : ℕ → A → Value) (k : ℕ) (xs : List A) → length (each_from f k xs) ≡ length xs
states_length f k [] = refl
states_length f k (x ∷ xs) = ap suc (states_length f (suc k) xs)

udps_by : (test : Bool) (v : Value) (vs : List Value) (n : ℕ) → length vs ≡ n → length (if test then (v ∷ vs) else vs) ≡ (if test then suc n else n)
udps_by true v vs n e = ap suc e
udps_by false v vs n e = e

most_by : (test : Bool) (n m : ℕ) → n ≤ m → (if test then suc n else n) ≤ suc m
most_by true n m l = omega (arith, l)
most_by false n m l = omega (arith, l)

udps_of : (elements : List Element) (states : List Value) → length states ≡ length elements → length (udp_states elements states) ≡ count_udps elements
udps_of [] states e = refl
udps_of (x ∷ xs) [] e = absurd (omega (arith, e))
udps_of (x ∷ xs) (v ∷ vs) e = let rest = udps_of xs vs (omega (arith, e)) in udps_by (is_udp x.kind) v (udp_states xs vs) (count_udps xs) rest

pub udps_most : (elements : List Element) → count_udps elements ≤ length elements
udps_most [] = omega arith
udps_most (x ∷ xs) = let rest = udps_most xs in most_by (is_udp x.kind) (count_udps xs) (length xs) rest

pub of_circuit : (circuit : Circuit) (m : Moment) → Fits circuit m → IsOfCircuit circuit circuit.tick (length circuit.elements) m
of_circuit circuit m fit =
    let states = each_from (computed_last m) 0 circuit.elements in
    record {
      tick = refl;
      elements = refl;
      nets = fit.nets;
      udps = ap length fit.udps ∙ udps_of circuit.elements states (states_length (computed_last m) 0 circuit.elements);
      checks = fit.checks;
    }

-- its half is the body of no other moment
same_half : (bytes half : List ℕ) (circuit : Circuit) (end : ℕ) (m : Moment) (tick : ℤ) (elements : ℕ) (o : Moment) → IsRead bytes circuit end m → bytes ≡ half ++ half → IsBodyOf half tick elements o
    → (tick ≡ circuit.tick) × (elements ≡ length circuit.elements) × (o ≡ m)
same_half bytes half circuit end m tick elements o h twice b =
    same_body tick circuit.tick elements (length circuit.elements) o m b.numbers h.numbers (sym b.text ∙ one_half half (body circuit.tick (length circuit.elements) m) (sym twice ∙ h.text))

-- and is a body
no_syntax : (half : List ℕ) (circuit : Circuit) (m : Moment) (byte : ℕ) → AreNumbers circuit.tick (length circuit.elements) m → half ≡ body circuit.tick (length circuit.elements) m → IsNoBody half byte → ⊥
no_syntax half circuit m byte n e (at_line before line after lines begun stop) =
    let t = circuit.tick in
    let k = length circuit.elements in
    let all : lines_in half ≡ save_lines t k m = ap lines_in (e ∙ sym (append-nil (body t k m))) ∙ (lines_of_body t k m [] ∙ append-nil (save_lines t k m)) in
    stop (record { tick = t; elements = k; moment = m; numbers = n; rest = after; is = sym all ∙ (lines ∙ sym (append_assoc before (line ∷ []) after)) })
no_syntax half circuit m byte n e (at_end begun none) = none circuit.tick (length circuit.elements) m (record { text = e; numbers = n })

pub read-is-faultless : (bytes : List ℕ) (circuit : Circuit) (end : ℕ) (m : Moment) (kind : SaveKind) (byte : ℕ) → IsRead bytes circuit end m → FaultStands bytes circuit end kind byte → ⊥
read-is-faultless bytes circuit end m save.TooLarge byte h (too_large l) = omega (arith, l, h.small)
read-is-faultless bytes circuit end m save.Damaged byte h (damaged l differ) = differ (body circuit.tick (length circuit.elements) m) h.text
read-is-faultless bytes circuit end m save.Syntax byte h (syntax l half same place none) = no_syntax half circuit m byte h.numbers (one_half half (body circuit.tick (length circuit.elements) m) (sym same ∙ h.text)) none
read-is-faultless bytes circuit end m save.OtherCircuit byte h (other l half same_halves tick elements o b differ) =
    let same = same_half bytes half circuit end m tick elements o h same_halves b in
    differ (subst (λ t. IsOfCircuit circuit t elements o) (sym same.0) (subst (λ k. IsOfCircuit circuit circuit.tick k o) (sym same.1) (subst (λ p. IsOfCircuit circuit circuit.tick (length circuit.elements) p) (sym same.2) (of_circuit circuit m h.fits))))
read-is-faultless bytes circuit end m save.BadMoment byte h (bad l half same_halves tick elements o b k unfit) =
    let same = same_half bytes half circuit end m tick elements o h same_halves b in
    unfit (subst (λ p. Fits circuit p) (sym same.2) h.fits)
read-is-faultless bytes circuit end m save.PastEnd byte h (past l half same_halves tick elements o b k fit late) =
    let same = same_half bytes half circuit end m tick elements o h same_halves b in
    let time : o.time ≡ m.time = ap (λ (p : Moment). p.time) same.2 in
    omega (arith, late, h.before, time)

pub read-once : (bytes : List ℕ) (circuit : Circuit) (end : ℕ) (m n : Moment) → IsRead bytes circuit end m → IsRead bytes circuit end n → m ≡ n
read-once bytes circuit end m n h k =
    let count = length circuit.elements in
    (same_body circuit.tick circuit.tick count count m n h.numbers k.numbers (one_half (body circuit.tick count m) (body circuit.tick count n) (sym h.text ∙ k.text))).2
