-- All statements are read: what that makes of the text.
use Rattle.std.proofs.Common.{ℕ, ◌≡◌, ◌<◌, ◌≤◌, ◌^◌, List, [], ◌∷◌, length, map, true, false, not, nat_lt, refl, sym, ap, ◌∙◌, subst, Some, None}
use Rattle.std.specs.Prelude.{Option, slice_index_or}
use Rattle.std.specs.List.{list_any}
use Rattle.std.proofs.lemmas.Bool.{lt-ltb, le-ltb}
use Rattle.sg_circuit.specs.Circuit.{Circuit}
use Rattle.sg_text.specs.declared.refusals.Refused.{Refused}
use Rattle.sg_text.specs.declared.refusals.Refused.TheVariants as refused
use Rattle.sg_stimulus.specs.Stimulus.{Step}
use Rattle.sg_stimulus.specs.Applied.{IsApplied}
use Rattle.stim_read.specs.declared.kinds.StimKind.{StimKind}
use Rattle.stim_read.specs.declared.kinds.StimKind.TheVariants.{NoEnd, TooLarge}
use Rattle.stim_read.specs.Forms.{Form, unit_is, sets_at, ends_at, faulty_end, other, Stated, all_stated}
use Rattle.stim_read.specs.Times.{Scale}
use Rattle.stim_read.specs.Faults.{is_end, faults_of, faults_behind, stated_faults, scale_of, no_end, too_long, most_bytes}
use Rattle.stim_read.specs.Reading.{IsRead, RefusalStands, stimulus_stated}
use Rattle.stim_read.specs.Meant.{IsAllRead, RefusesOneOf}
use Rattle.stim_read.specs.declared.statements.Stated as code_stated
use Rattle.stim_read.specs.Seen.{decimals, stated_seen}
use Rattle.stim_read.proofs.FaultlessLaws.{no-left, no-right, no-faulty-end}
use Rattle.stim_read.proofs.FormLaws.{are-decimals}
use Rattle.stim_read.proofs.Refusals.{refused-left, refused-right, test-refused, told}
use Rattle.stim_read.proofs.ApplicationLaws.{ends, stated-applies}

some-form : (scale : Scale) (byte n : ℕ) (form : Form) (ss : List Stated) → (ends scale ss ≡ n ∷ [] → list_any (λ s. is_end s.form) ss ≡ true) → ends scale (record { byte = byte; form = form } ∷ ss) ≡ n ∷ []
    → list_any (λ s. is_end s.form) (record { byte = byte; form = form } ∷ ss) ≡ true
some-form scale byte n (unit_is p) ss rest e = rest e
some-form scale byte n (sets_at t sets) ss rest e = rest e
some-form scale byte n (ends_at t) ss rest e = refl
some-form scale byte n faulty_end ss rest e = refl
some-form scale byte n other ss rest e = rest e

some-end : (scale : Scale) (ss : List Stated) (n : ℕ) → ends scale ss ≡ n ∷ [] → list_any (λ s. is_end s.form) ss ≡ true
some-end scale [] n e = absurd (cc)
some-end scale (s ∷ ss) n e = some-form scale s.byte n s.form ss (some-end scale ss n) e

none-form : (circuit : Circuit) (scale : Scale) (before : List Form) (byte : ℕ) (form : Form) (ss : List Stated) → faults_of circuit scale before (record { byte = byte; form = form }) ≡ []
    → (ends scale ss ≡ [] → list_any (λ s. is_end s.form) ss ≡ false) → ends scale (record { byte = byte; form = form } ∷ ss) ≡ []
    → list_any (λ s. is_end s.form) (record { byte = byte; form = form } ∷ ss) ≡ false
none-form circuit scale before byte (unit_is p) ss h rest e = rest e
none-form circuit scale before byte (sets_at t sets) ss h rest e = rest e
none-form circuit scale before byte (ends_at t) ss h rest e = absurd (cc)
none-form circuit scale before byte faulty_end ss h rest e = absurd (no-faulty-end circuit scale before byte h)
none-form circuit scale before byte other ss h rest e = rest e

none-end : (circuit : Circuit) (scale : Scale) (before : List Form) (ss : List Stated) → faults_behind circuit scale before ss ≡ [] → ends scale ss ≡ [] → list_any (λ s. is_end s.form) ss ≡ false
none-end circuit scale before [] h e = refl
none-end circuit scale before (s ∷ ss) h e =
    none-form circuit scale before s.byte s.form ss (no-left _ _ h) (none-end circuit scale (s.form ∷ before) ss (no-right _ _ h)) e

-- a fault of some statements is one of the text
pub stands : (text : List ℕ) (circuit : Circuit) (ss : List Stated) (r : Refused StimKind) → ss ≡ all_stated decimals text → RefusesOneOf (stated_faults text circuit ss) r → RefusalStands text circuit r
stands text circuit ss (refused.Fault kind place) e h = record { said = decimals; decimals = are-decimals; among = subst (λ l. RefusesOneOf (stated_faults text circuit l) (refused.Fault kind place)) e h }
stands text circuit ss refused.NoMemory e h = tt

pub behind-stands : (text : List ℕ) (circuit : Circuit) (ss : List Stated) (r : Refused StimKind) → ss ≡ all_stated decimals text → RefusesOneOf (faults_behind circuit (scale_of circuit ss) [] ss) r → RefusalStands text circuit r
behind-stands text circuit ss r e h =
    stands text circuit ss r e (refused-right (too_long text) _ r (refused-right (no_end text ss) (faults_behind circuit (scale_of circuit ss) [] ss) r h))

pub no-end-stands : (text : List ℕ) (circuit : Circuit) (ss : List Stated) (steps : List Step) → ss ≡ all_stated decimals text → IsAllRead circuit (scale_of circuit ss) ss steps None → RefusalStands text circuit (told NoEnd (length text))
no-end-stands text circuit ss steps e h =
    let missing : not (list_any (λ s. is_end s.form) ss) ≡ true = ap not (none-end circuit (scale_of circuit ss) [] ss h.no_fault h.ends_are) in
    stands text circuit ss (told NoEnd (length text)) e
    (refused-right (too_long text) _ (told NoEnd (length text)) (refused-left (no_end text ss) _ (told NoEnd (length text)) (test-refused (not (list_any (λ s. is_end s.form) ss)) NoEnd (length text) missing)))

pub too-long-stands : (text : List ℕ) (circuit : Circuit) → 2 ^ 28 < length text → RefusalStands text circuit (told TooLarge most_bytes)
too-long-stands text circuit h =
    stands text circuit (all_stated decimals text) (told TooLarge most_bytes) refl
    (refused-left (too_long text) _ (told TooLarge most_bytes) (test-refused (nat_lt most_bytes (length text)) TooLarge most_bytes (lt-ltb most_bytes (length text) h)))

faultless : (text : List ℕ) (circuit : Circuit) (ss : List Stated) (steps : List Step) (n : ℕ) → length text ≤ 2 ^ 28 → IsAllRead circuit (scale_of circuit ss) ss steps (Some n) → stated_faults text circuit ss ≡ []
faultless text circuit ss steps n short h =
    let long : nat_lt most_bytes (length text) ≡ false = le-ltb most_bytes (length text) short in
    let ended : list_any (λ s. is_end s.form) ss ≡ true = some-end (scale_of circuit ss) ss n h.ends_are in
    rw (long, ended) h.no_fault

pub is-read : (text : List ℕ) (circuit : Circuit) (ss : List Stated) (steps : List Step) (n : ℕ) → length text ≤ 2 ^ 28 → ss ≡ all_stated decimals text → IsAllRead circuit (scale_of circuit ss) ss steps (Some n)
    → IsRead text circuit (record { steps = steps; end = n })
is-read text circuit ss steps n short e h =
    let last : n ≡ slice_index_or (ends (scale_of circuit ss) ss) 0 0 = sym (ap (λ l. slice_index_or l 0 0) h.ends_are) in
    let same : record { steps = steps; end = n } ≡ stimulus_stated circuit ss = rw (h.steps_are, last) refl in
    record {
      said = decimals;
      decimals = are-decimals;
      no_fault = ap (stated_faults text circuit) (sym e) ∙ faultless text circuit ss steps n short h;
      is_stimulus = same ∙ ap (stimulus_stated circuit) e;
    }

pub is-applied : (circuit : Circuit) (ss : List Stated) (steps : List Step) (n : ℕ) → IsAllRead circuit (scale_of circuit ss) ss steps (Some n) → IsApplied circuit (record { steps = steps; end = n })
is-applied circuit ss steps n h =
    let last : slice_index_or (ends (scale_of circuit ss) ss) 0 0 ≡ n = ap (λ l. slice_index_or l 0 0) h.ends_are in
    let same : stimulus_stated circuit ss ≡ record { steps = steps; end = n } = rw (sym h.steps_are, last) refl in
    subst (IsApplied circuit) same (stated-applies circuit ss n [] h.no_fault h.ends_are)

-- ---- as the reader has them

-- what was read of the statements that were made, in the scale that they say
pub record IsReadOf (text : List ℕ) (circuit : Circuit) (scale : Scale) (items one two : List code_stated.Stated) : Type 0 where
  pub made : map (λ s. stated_seen s) items ≡ all_stated decimals text
  pub first : one ≡ items
  pub second : two ≡ items
  pub scale_is : scale ≡ scale_of circuit (map (λ s. stated_seen s) one)

same-scale : (text : List ℕ) (circuit : Circuit) (scale : Scale) (items one two : List code_stated.Stated) (h : IsReadOf text circuit scale items one two) → scale ≡ scale_of circuit (map (λ s. stated_seen s) two)
same-scale text circuit scale items one two h = h.scale_is ∙ ap (λ l. scale_of circuit (map (λ s. stated_seen s) l)) (h.first ∙ sym h.second)

same-statements : (text : List ℕ) (circuit : Circuit) (scale : Scale) (items one two : List code_stated.Stated) (h : IsReadOf text circuit scale items one two) → map (λ s. stated_seen s) two ≡ all_stated decimals text
same-statements text circuit scale items one two h = ap (map (λ s. stated_seen s)) h.second ∙ h.made

pub statement-stands : (text : List ℕ) (circuit : Circuit) (scale : Scale) (items one two : List code_stated.Stated) (r : Refused StimKind) → IsReadOf text circuit scale items one two → RefusesOneOf (faults_behind circuit scale [] (map (λ s. stated_seen s) two)) r
    → RefusalStands text circuit r
statement-stands text circuit scale items one two r h fault =
    behind-stands text circuit (map (λ s. stated_seen s) two) r (same-statements text circuit scale items one two h)
    (subst (λ k. RefusesOneOf (faults_behind circuit k [] (map (λ s. stated_seen s) two)) r) (same-scale text circuit scale items one two h) fault)

all-read : (text : List ℕ) (circuit : Circuit) (scale : Scale) (items one two : List code_stated.Stated) (steps : List Step) (end : Option ℕ) → IsReadOf text circuit scale items one two → IsAllRead circuit scale (map (λ s. stated_seen s) two) steps end
    → IsAllRead circuit (scale_of circuit (map (λ s. stated_seen s) two)) (map (λ s. stated_seen s) two) steps end
all-read text circuit scale items one two steps end h all = subst (λ k. IsAllRead circuit k (map (λ s. stated_seen s) two) steps end) (same-scale text circuit scale items one two h) all

pub end-stands : (text : List ℕ) (circuit : Circuit) (scale : Scale) (items one two : List code_stated.Stated) (steps : List Step) → IsReadOf text circuit scale items one two → IsAllRead circuit scale (map (λ s. stated_seen s) two) steps None
    → RefusalStands text circuit (told NoEnd (length text))
end-stands text circuit scale items one two steps h all =
    no-end-stands text circuit (map (λ s. stated_seen s) two) steps (same-statements text circuit scale items one two h) (all-read text circuit scale items one two steps None h all)

pub reads : (text : List ℕ) (circuit : Circuit) (scale : Scale) (items one two : List code_stated.Stated) (steps : List Step) (n : ℕ) → length text ≤ 2 ^ 28 → IsReadOf text circuit scale items one two
    → IsAllRead circuit scale (map (λ s. stated_seen s) two) steps (Some n) → IsRead text circuit (record { steps = steps; end = n })
reads text circuit scale items one two steps n short h all =
    is-read text circuit (map (λ s. stated_seen s) two) steps n short (same-statements text circuit scale items one two h) (all-read text circuit scale items one two steps (Some n) h all)

pub applies : (text : List ℕ) (circuit : Circuit) (scale : Scale) (items one two : List code_stated.Stated) (steps : List Step) (n : ℕ) → IsReadOf text circuit scale items one two
    → IsAllRead circuit scale (map (λ s. stated_seen s) two) steps (Some n) → IsApplied circuit (record { steps = steps; end = n })
applies text circuit scale items one two steps n h all = is-applied circuit (map (λ s. stated_seen s) two) steps n (all-read text circuit scale items one two steps (Some n) h all)

-- what was found for the circuit of the inputs holds for the circuit
pub fault-for : (one circuit : Circuit) (scale : Scale) (ss : List Stated) (r : Refused StimKind) → one ≡ circuit → RefusesOneOf (faults_behind one scale [] ss) r → RefusesOneOf (faults_behind circuit scale [] ss) r
fault-for one circuit scale ss r e h = subst (λ c. RefusesOneOf (faults_behind c scale [] ss) r) e h

pub read-for : (one circuit : Circuit) (scale : Scale) (ss : List Stated) (steps : List Step) (end found : Option ℕ) → one ≡ circuit → end ≡ found → IsAllRead one scale ss steps end → IsAllRead circuit scale ss steps found
read-for one circuit scale ss steps end found e f h = subst (λ c. IsAllRead c scale ss steps found) e (subst (λ o. IsAllRead one scale ss steps o) f h)
