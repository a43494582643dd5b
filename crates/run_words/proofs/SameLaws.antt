-- Two askings are the same where their parts are.
use Rattle.std.proofs.Common.{◌≡◌, ℕ, List, map, Bool, refl, sym, ap, Bor, Option, Some, None, option_map}
use Rattle.std.specs.Bool.{Decides}
use Rattle.std.specs.Option.{option_eq}
use Rattle.std.specs.Str.{bytes_eq}
use Rattle.std.specs.Cmp.Lexicographic.{pointwise}
use Rattle.std.specs.Cmp.Derive.Mapped.{pointwise-map}
use Rattle.std.proofs.lemmas.Bool.Decides.{Decides-and, Decides-at, Decides-like, Decides-eqb}
use Rattle.std.proofs.lemmas.Slice.Eq.{slice_eq-Decides, bytes_eq-Decides}
use Rattle.std.proofs.lemmas.Option.{same_Some}
use Rattle.sg_delay.specs.declared.corners.Corner.{Corner}
use Rattle.sg_delay.specs.declared.corners.Corner.TheVariants.{Min, Typ, Max}
use Rattle.sg_delay.specs.contracts.corners.Corner.{the_type}
use Rattle.run_words.specs.contracts.inputs.InputPartialEq.TheImpl as input_eq
use Rattle.run_words.specs.declared.inputs.Input.{Input}
use Rattle.run_words.specs.declared.inputs.Input.TheVariants.{Stimulus, Wave}
use Rattle.run_words.specs.contracts.designs.DesignPartialEq.TheImpl as design_eq
use Rattle.run_words.specs.declared.designs.Design.{Design}
use Rattle.run_words.specs.contracts.designs.WritingPartialEq.TheImpl as writing_eq
use Rattle.run_words.specs.declared.designs.Writing as code_writing
use Rattle.run_words.specs.contracts.stops.StopPartialEq.TheImpl as stop_eq
use Rattle.run_words.specs.declared.stops.Stop as code_stop
use Rattle.run_words.specs.contracts.words.CommandPartialEq.TheImpl as command_eq
use Rattle.run_words.specs.declared.words.Command.{Command}
use Rattle.run_words.specs.contracts.words.AskedPartialEq.TheImpl as asked_eq
use Rattle.run_words.specs.declared.words.Asked.{Asked}
use Rattle.run_words.specs.declared.words.Asked.TheVariants as code_asked
use Rattle.run_words.specs.Words.{a_run, a_writing, the_bounds, a_case, a_stimulus}
use Rattle.run_words.specs.WordsSeen.{asked_seen, command_seen, design_seen, input_seen, stop_seen, writing_seen}
use denote.Enum.Bare.{sameb}

abbrev same_text : Bor (List ℕ) → Bor (List ℕ) → Bool
same_text a b = bytes_eq a.now b.now

names-Decides : (a b : List (Bor (List ℕ))) → Decides (pointwise same_text a b) (map (λ n. n.now) a ≡ map (λ n. n.now) b)
names-Decides a b = slice_eq-Decides bytes_eq-Decides (map (λ n. n.now) a) (map (λ n. n.now) b) (pointwise same_text a b) (sym (pointwise-map (λ (n : Bor (List ℕ)). n.now) bytes_eq a b))

name-Decides : (a b : Option (Bor (List ℕ))) → Decides (option_eq same_text a b) (option_map (λ n. n.now) a ≡ option_map (λ n. n.now) b)
name-Decides None None = (λ _. refl, λ _. refl)
name-Decides None (Some y) = (λ e. cc, λ e. cc)
name-Decides (Some x) None = (λ e. cc, λ e. cc)
name-Decides (Some x) (Some y) =
    let texts = bytes_eq-Decides x.now y.now in (λ e. ap (λ t. Some t) (texts.0 e), λ e. texts.1 (same_Some x.now y.now e))

corner-Decides : (a b : Corner) → Decides (sameb the_type a b) (a ≡ b)
corner-Decides Min Min = (λ _. refl, λ _. refl)
corner-Decides Min Typ = (λ e. cc, λ e. cc)
corner-Decides Min Max = (λ e. cc, λ e. cc)
corner-Decides Typ Min = (λ e. cc, λ e. cc)
corner-Decides Typ Typ = (λ _. refl, λ _. refl)
corner-Decides Typ Max = (λ e. cc, λ e. cc)
corner-Decides Max Min = (λ e. cc, λ e. cc)
corner-Decides Max Typ = (λ e. cc, λ e. cc)
corner-Decides Max Max = (λ _. refl, λ _. refl)

abbrev input_equal : Input → Input → Bool
input_equal a b = input_eq.eq-value.it a b

input-Decides : (a b : Input) → Decides (input_equal a b) (input_seen a ≡ input_seen b)
input-Decides (Stimulus x) (Stimulus y) =
    let texts = bytes_eq-Decides x.now y.now in (λ e. ap a_stimulus (texts.0 e), λ same. texts.1 cc)
input-Decides (Stimulus x) (Wave f s) = (λ e. cc, λ e. cc)
input-Decides (Wave f s) (Stimulus x) = (λ e. cc, λ e. cc)
input-Decides (Wave f s) (Wave g t) = Decides-like _ (λ h. cc) (λ same. (cc, cc)) (Decides-and _ _ (bytes_eq-Decides f.now g.now) (name-Decides s t))

abbrev design_equal : Design → Design → Bool
design_equal a b = design_eq.eq-value.it a b

design-Decides : (a b : Design) → Decides (design_equal a b) (design_seen a ≡ design_seen b)
design-Decides a b =
    Decides-like _ (λ h. cc) (λ same. (ap (λ d. d.netlists) same, (ap (λ d. d.sdf) same, (ap (λ d. d.top) same, ap (λ d. d.corner) same))))
    (Decides-and _ _ (names-Decides a.netlists.items b.netlists.items) (Decides-and _ _ (name-Decides a.sdf b.sdf) (Decides-and _ _ (name-Decides a.top b.top) (corner-Decides a.corner b.corner))))

abbrev command_equal : Command → Command → Bool
command_equal a b = command_eq.eq-value.it a b

command-Decides : (a b : Command) → Decides (command_equal a b) (command_seen a ≡ command_seen b)
command-Decides a b =
    Decides-like _ (λ h. cc) (λ same. (ap (λ c. c.design) same, (ap (λ c. c.input) same, (ap (λ c. c.vcd) same, (ap (λ c. c.rounds) same, ap (λ c. c.wheel) same)))))
    (Decides-and _ _ (design-Decides a.design b.design) (Decides-and _ _ (input-Decides a.input b.input) (Decides-and _ _ (bytes_eq-Decides a.vcd.now b.vcd.now)
    (Decides-and _ _ (Decides-eqb a.rounds b.rounds) (Decides-eqb a.wheel b.wheel)))))

abbrev writing_equal : code_writing.Writing → code_writing.Writing → Bool
writing_equal a b = writing_eq.eq-value.it a b

writing-Decides : (a b : code_writing.Writing) → Decides (writing_equal a b) (writing_seen a ≡ writing_seen b)
writing-Decides a b =
    Decides-like _ (λ h. cc) (λ same. (ap (λ w. w.design) same, ap (λ w. w.out) same)) (Decides-and _ _ (design-Decides a.design b.design) (bytes_eq-Decides a.out.now b.out.now))

abbrev stop_equal : code_stop.Stop → code_stop.Stop → Bool
stop_equal a b = stop_eq.eq-value.it a b

stop-Decides : (a b : code_stop.Stop) → Decides (stop_equal a b) (stop_seen a ≡ stop_seen b)
stop-Decides a b = Decides-like _ (λ h. cc) (λ same. (ap (λ s. s.time) same, ap (λ s. s.save) same)) (Decides-and _ _ (Decides-eqb a.time b.time) (bytes_eq-Decides a.save.now b.save.now))

abbrev asked_equal : Asked → Asked → Bool
asked_equal a b = asked_eq.eq-value.it a b

asked-Decides : (a b : Asked) → Decides (asked_equal a b) (asked_seen a ≡ asked_seen b)
asked-Decides (code_asked.Run c) (code_asked.Run d) = let same = command-Decides c d in (λ h. ap a_run (same.0 h), λ h. same.1 cc)
asked-Decides (code_asked.Run c) (code_asked.Stop d t) = (λ h. cc, λ h. cc)
asked-Decides (code_asked.Run c) (code_asked.Rest d t) = (λ h. cc, λ h. cc)
asked-Decides (code_asked.Run c) (code_asked.Writing w) = (λ h. cc, λ h. cc)
asked-Decides (code_asked.Run c) (code_asked.Bounds e) = (λ h. cc, λ h. cc)
asked-Decides (code_asked.Run c) (code_asked.Case n) = (λ h. cc, λ h. cc)
asked-Decides (code_asked.Stop c s) (code_asked.Run d) = (λ h. cc, λ h. cc)
asked-Decides (code_asked.Stop c s) (code_asked.Stop d t) = Decides-like _ (λ h. cc) (λ same. (cc, cc)) (Decides-and _ _ (command-Decides c d) (stop-Decides s t))
asked-Decides (code_asked.Stop c s) (code_asked.Rest d t) = (λ h. cc, λ h. cc)
asked-Decides (code_asked.Stop c s) (code_asked.Writing w) = (λ h. cc, λ h. cc)
asked-Decides (code_asked.Stop c s) (code_asked.Bounds e) = (λ h. cc, λ h. cc)
asked-Decides (code_asked.Stop c s) (code_asked.Case n) = (λ h. cc, λ h. cc)
asked-Decides (code_asked.Rest c s) (code_asked.Run d) = (λ h. cc, λ h. cc)
asked-Decides (code_asked.Rest c s) (code_asked.Stop d t) = (λ h. cc, λ h. cc)
asked-Decides (code_asked.Rest c s) (code_asked.Rest d t) = Decides-like _ (λ h. cc) (λ same. (cc, cc)) (Decides-and _ _ (command-Decides c d) (bytes_eq-Decides s.now t.now))
asked-Decides (code_asked.Rest c s) (code_asked.Writing w) = (λ h. cc, λ h. cc)
asked-Decides (code_asked.Rest c s) (code_asked.Bounds e) = (λ h. cc, λ h. cc)
asked-Decides (code_asked.Rest c s) (code_asked.Case n) = (λ h. cc, λ h. cc)
asked-Decides (code_asked.Writing v) (code_asked.Run d) = (λ h. cc, λ h. cc)
asked-Decides (code_asked.Writing v) (code_asked.Stop d t) = (λ h. cc, λ h. cc)
asked-Decides (code_asked.Writing v) (code_asked.Rest d t) = (λ h. cc, λ h. cc)
asked-Decides (code_asked.Writing v) (code_asked.Writing w) = let same = writing-Decides v w in (λ h. ap a_writing (same.0 h), λ h. same.1 cc)
asked-Decides (code_asked.Writing v) (code_asked.Bounds e) = (λ h. cc, λ h. cc)
asked-Decides (code_asked.Writing v) (code_asked.Case n) = (λ h. cc, λ h. cc)
asked-Decides (code_asked.Bounds d) (code_asked.Run d0) = (λ h. cc, λ h. cc)
asked-Decides (code_asked.Bounds d) (code_asked.Stop d0 t0) = (λ h. cc, λ h. cc)
asked-Decides (code_asked.Bounds d) (code_asked.Rest d0 t0) = (λ h. cc, λ h. cc)
asked-Decides (code_asked.Bounds d) (code_asked.Writing w) = (λ h. cc, λ h. cc)
asked-Decides (code_asked.Bounds d) (code_asked.Bounds e) = let same = design-Decides d e in (λ h. ap the_bounds (same.0 h), λ h. same.1 cc)
asked-Decides (code_asked.Bounds d) (code_asked.Case n) = (λ h. cc, λ h. cc)
asked-Decides (code_asked.Case m) (code_asked.Run d) = (λ h. cc, λ h. cc)
asked-Decides (code_asked.Case m) (code_asked.Stop d t) = (λ h. cc, λ h. cc)
asked-Decides (code_asked.Case m) (code_asked.Rest d t) = (λ h. cc, λ h. cc)
asked-Decides (code_asked.Case m) (code_asked.Writing w) = (λ h. cc, λ h. cc)
asked-Decides (code_asked.Case m) (code_asked.Bounds e) = (λ h. cc, λ h. cc)
asked-Decides (code_asked.Case m) (code_asked.Case n) = let same = Decides-eqb m n in (λ h. ap a_case (same.0 h), λ h. same.1 cc)

pub asked-Decide : (a b : Asked) (r : Bool) → r ≡ asked_equal a b → Decides r (asked_seen a ≡ asked_seen b)
asked-Decide a b r e = Decides-at r _ e (asked-Decides a b)
