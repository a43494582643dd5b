-- Outcomes of phases for the same words and files agree.
use Rattle.std.proofs.Common.{◌≡◌, ◌∙◌, sym, ap, subst, refl, ℕ, ◌<◌, All, length, List, [], ◌∷◌}
use Rattle.std.proofs.lemmas.List.Elements.{All-map}
use Rattle.std.specs.Prelude.{true, false, Option, Some, None, Result, Ok, Err, codes}
use Rattle.sg_io.specs.Files.{File, bytes_of}
use Rattle.sg_circuit.specs.Circuit.{Circuit, Element}
use Rattle.annotation_model.specs.Annotated.{annotated, annotated_element}
use Rattle.annotation_model.specs.Given.{given}
use Rattle.late_limits.specs.Adjusted.{IsAdjustedFrom}
use Rattle.gen_case.specs.Case.{netlist_of, sdf_of, stimulus_of}
use Rattle.sg_delay.specs.declared.corners.Corner.{Corner}
use Rattle.netlist_read.proofs.ReadingLaws as netlist
use Rattle.sdf_read.proofs.OneOutcome.{reads_once}
use Rattle.sdf_read.specs.Outcomes.{Fault}
use Rattle.sdf_tree.specs.Meant.{Sdf}
use Rattle.stim_read.proofs.OnceLaws as stimulus
use Rattle.vcd_stim.proofs.OnceLaws as wave
use Rattle.sim_save.proofs.OnceLaws as saved
use Rattle.run_words.specs.Words.{Command, Design, Writing, Input, a_stimulus, a_wave, default_corner, file_of}
use Rattle.run_report.specs.Report.{Unmatched, path_of}
use Rattle.written_model.specs.Faults as written
use Rattle.written_model.specs.declared.errors.WriteError.{WriteError}
use Rattle.written_model.specs.declared.errors.WriteError.TheVariants as error
use Rattle.signoff_phases.specs.declared.status.Status.TheVariants as status
use Rattle.signoff_phases.specs.Phases.{Annotated, Refusal, Then, stops, goes_on, status_of_refusal, unwritten, AnnotatedOutcome, AnnotationOutcome, CircuitOutcome, DesignOutcome, EntriesOutcome, InputOutcome, SdfOutcome, FileOutcome, FilesOutcome, FileWithin, NetlistOutcome, StimulusOutcome, DrivingOutcome, WaveOutcome, read_limit, scope_or_top}
use Rattle.signoff_top.specs.Phases.{Task, CaseOutcome, CommandOutcome, case_netlist, case_sdf, case_stimulus, unwritten_by, RestOutcome, SaveOutcome, TextOutcome, WritingOutcome, save_limit}
use Rattle.signoff_top.proofs.OnceLaws.{adjusted-once}

-- two outcomes are one value, or two refusals of one status
abbrev pub Agree : {A : Type 0} → Result A Refusal → Result A Refusal → Type 0
Agree (Ok a) (Ok b) = a ≡ b
Agree (Ok a) (Err r) = ⊥
Agree (Err r) (Ok a) = ⊥
Agree (Err r) (Err s) = status_of_refusal r ≡ status_of_refusal s

abbrev pub AllAgree : {A : Type 0} → (Result A Refusal → Type 0) → Type 0
AllAgree {A} phase = (o p : Result A Refusal) → phase o → phase p → Agree o p

err_is : (A : Type 0) (r s : Refusal) → ◌≡◌ {A = Result A Refusal} (Err r) (Err s) → r ≡ s
err_is A r s e = cc

equal_agree : {A : Type 0} (o p : Result A Refusal) → o ≡ p → Agree o p
equal_agree (Ok a) (Ok b) e = cc
equal_agree {A} (Ok a) (Err r) e = let k : ◌≡◌ {A = Result A Refusal} (Ok a) (Err r) = e in cc
equal_agree {A} (Err r) (Ok a) e = let k : ◌≡◌ {A = Result A Refusal} (Err r) (Ok a) = e in cc
equal_agree {A} (Err r) (Err s) e = let k : r ≡ s = err_is A r s e in ap status_of_refusal k

-- where what follows agrees after each value that comes first
then_agree : {A B : Type 0} (first : Result A Refusal → Type 0) (next : A → Result B Refusal → Type 0) → AllAgree first → ((a : A) → first (Ok a) → AllAgree (next a)) → AllAgree (Then first next)
then_agree first next f g _ _ (stops r h) (stops s k) = f (Err r) (Err s) h k
then_agree first next f g _ _ (stops r h) (goes_on a o h' k) = absurd (f (Err r) (Ok a) h h')
then_agree first next f g _ _ (goes_on a o h k) (stops r h') = absurd (f (Ok a) (Err r) h h')
then_agree first next f g _ _ (goes_on a o h k) (goes_on b p h' k') = g b h' o p (subst (λ x. next x o) (f (Ok a) (Ok b) h h') k) k'

within_agree : (limit : ℕ) (name : List ℕ) (bytes : Option (List ℕ)) → AllAgree (FileWithin limit name bytes)
within_agree limit name None o p h k = equal_agree o p (h ∙ sym k)
within_agree limit name (Some bytes) o p h k = equal_agree o p (h ∙ sym k)

file_agree : (name : List ℕ) (bytes : Option (List ℕ)) → AllAgree (FileOutcome name bytes)
file_agree name bytes o p h k = within_agree read_limit name bytes o p h k

files_agree : (names : List (List ℕ)) (files : List File) → AllAgree (FilesOutcome names files)
files_agree [] files o p h k = equal_agree o p (h ∙ sym k)
files_agree (n ∷ ns) files o p h k =
    then_agree (FileOutcome n (bytes_of n files)) (λ text. Then (FilesOutcome ns files) (λ texts o. o ≡ Ok (text ∷ texts))) (file_agree n (bytes_of n files)) (λ text _.
    then_agree (FilesOutcome ns files) (λ texts o. o ≡ Ok (text ∷ texts)) (files_agree ns files) (λ texts _ x y e f. equal_agree x y (e ∙ sym f))) o p h k

netlist_agree : (names texts : List (List ℕ)) (top : Option (List ℕ)) (corner : Corner) → AllAgree (NetlistOutcome names texts top corner)
netlist_agree names texts top corner (Ok c) (Ok d) h k = netlist.read-once texts top corner c d h k
netlist_agree names texts top corner (Ok c) (Err r) h k = netlist.read-is-faultless texts top corner c h k.0 k.1 k.2
netlist_agree names texts top corner (Err r) (Ok c) h k = netlist.read-is-faultless texts top corner c k h.0 h.1 h.2
netlist_agree names texts top corner (Err r) (Err s) h k = ap status_of_refusal h.3 ∙ sym (ap status_of_refusal k.3)

ok_same : (file other : Sdf) → ◌≡◌ {A = Result Sdf Fault} (Ok file) (Ok other) → file ≡ other
ok_same file other e = cc

ok_or_fault : (file : Sdf) (fault : Fault) → ◌≡◌ {A = Result Sdf Fault} (Ok file) (Err fault) → ⊥
ok_or_fault file fault e = cc

sdf_agree : (name text : List ℕ) → AllAgree (SdfOutcome name text)
sdf_agree name text (Ok file) (Ok other) h k = ok_same file other (reads_once text (Ok file) (Ok other) h k)
sdf_agree name text (Ok file) (Err r) h k = ok_or_fault file k.0 (reads_once text (Ok file) (Err k.0) h k.1)
sdf_agree name text (Err r) (Ok file) h k = ok_or_fault file h.0 (reads_once text (Ok file) (Err h.0) k h.1)
sdf_agree name text (Err r) (Err s) h k = ap status_of_refusal h.2 ∙ sym (ap status_of_refusal k.2)

none_or_some : {A : Type 0} (o : Option A) (x : A) → o ≡ None → o ≡ Some x → ⊥
none_or_some o x e f = let k : None ≡ Some x = sym e ∙ f in cc

-- the scopes of a circuit's elements are there
abbrev HasScopes : Circuit → Type 0
HasScopes c = All (λ e. e.scope < length c.scopes) c.elements

annotated_once : (c : Circuit) (a b : Annotated) (unmatched : List Unmatched) → HasScopes c → IsAdjustedFrom c a.circuit → a.unmatched ≡ unmatched → IsAdjustedFrom c b.circuit → b.unmatched ≡ unmatched → a ≡ b
annotated_once c a b unmatched scopes p q r s =
    ap (λ (d : Circuit). record { circuit = d; unmatched = a.unmatched }) (adjusted-once c a.circuit b.circuit scopes p r) ∙ ap (λ (us : List Unmatched). record { circuit = b.circuit; unmatched = us }) (q ∙ sym s)

annotated_scopes : (c : Circuit) (file : Sdf) (corner : Corner) → HasScopes c → HasScopes (annotated c file corner)
annotated_scopes c file corner h = All-map (λ (e : Element). e.scope < length c.scopes) (annotated_element c file corner (given file)) c.elements h

annotation_agree : (name text : List ℕ) (file : Sdf) (corner : Corner) (circuit : Circuit) → HasScopes circuit → AllAgree (AnnotationOutcome name text file corner circuit)
annotation_agree name text file corner circuit scopes (Ok a) (Ok b) h k =
    annotated_once (annotated circuit file corner) a b _ (annotated_scopes circuit file corner scopes) h.circuit h.unmatched k.circuit k.unmatched
annotation_agree name text file corner circuit scopes (Ok a) (Err r) h k = none_or_some _ k.place h.fine k.stands
annotation_agree name text file corner circuit scopes (Err r) (Ok a) h k = none_or_some _ h.place k.fine h.stands
annotation_agree name text file corner circuit scopes (Err r) (Err s) h k = ap status_of_refusal h.told ∙ sym (ap status_of_refusal k.told)

entries_agree : (name text : List ℕ) (corner : Corner) (circuit : Circuit) → HasScopes circuit → AllAgree (EntriesOutcome name text corner circuit)
entries_agree name text corner circuit scopes =
    then_agree (SdfOutcome name text) (λ file. AnnotationOutcome name text file corner circuit) (sdf_agree name text) (λ file _. annotation_agree name text file corner circuit scopes)

annotated_agree : (sdf : Option (List ℕ)) (corner : Corner) (files : List File) (circuit : Circuit) → HasScopes circuit → AllAgree (AnnotatedOutcome sdf corner files circuit)
annotated_agree None corner files circuit scopes o p h k = equal_agree o p (h ∙ sym k)
annotated_agree (Some name) corner files circuit scopes o p h k =
    then_agree (FileOutcome name (bytes_of name files)) (λ text. EntriesOutcome name text corner circuit) (file_agree name (bytes_of name files)) (λ text _. entries_agree name text corner circuit scopes) o p h k

stimulus_agree : (name text : List ℕ) (circuit : Circuit) → AllAgree (StimulusOutcome name text circuit)
stimulus_agree name text circuit (Ok s) (Ok t) h k = stimulus.read-once text circuit s t h k
stimulus_agree name text circuit (Ok s) (Err r) h k = stimulus.read-is-faultless text circuit s k.0 k.1 h k.2
stimulus_agree name text circuit (Err r) (Ok s) h k = stimulus.read-is-faultless text circuit s h.0 h.1 k h.2
stimulus_agree name text circuit (Err r) (Err s) h k = ap status_of_refusal h.3 ∙ sym (ap status_of_refusal k.3)

circuit_agree : (d : Design) (files : List File) → AllAgree (CircuitOutcome d files)
circuit_agree d files =
    then_agree (FilesOutcome d.netlists files) (λ texts. NetlistOutcome d.netlists texts d.top d.corner) (files_agree d.netlists files) (λ texts _. netlist_agree d.netlists texts d.top d.corner)

netlist_scopes : (names texts : List (List ℕ)) (top : Option (List ℕ)) (corner : Corner) (circuit : Circuit) → NetlistOutcome names texts top corner (Ok circuit) → HasScopes circuit
netlist_scopes names texts top corner circuit h = netlist.read-has-scopes texts top corner circuit h

circuit_scopes : (d : Design) (files : List File) (circuit : Circuit) (o : Result Circuit Refusal) → o ≡ Ok circuit → CircuitOutcome d files o → HasScopes circuit
circuit_scopes d files circuit _ e (stops r h) = let k : ◌≡◌ {A = Result Circuit Refusal} (Err r) (Ok circuit) = e in absurd (cc)
circuit_scopes d files circuit _ e (goes_on texts o h k) = netlist_scopes d.netlists texts d.top d.corner circuit (subst (NetlistOutcome d.netlists texts d.top d.corner) e k)

wave_agree : (name text : List ℕ) (circuit : Circuit) (scope : List ℕ) → AllAgree (WaveOutcome name text circuit scope)
wave_agree name text circuit scope (Ok s) (Ok t) h k = wave.read-once text circuit scope s t h k
wave_agree name text circuit scope (Ok s) (Err r) h k = h.no_fault k.0 k.1
wave_agree name text circuit scope (Err r) (Ok s) h k = k.no_fault h.0 h.1
wave_agree name text circuit scope (Err r) (Err s) h k = ap status_of_refusal h.2 ∙ sym (ap status_of_refusal k.2)

driving_agree : (input : Input) (text : List ℕ) (circuit : Circuit) → AllAgree (DrivingOutcome input text circuit)
driving_agree (a_stimulus file) text circuit o p h k = stimulus_agree file text circuit o p h k
driving_agree (a_wave file scope) text circuit o p h k = wave_agree file text circuit (scope_or_top scope circuit) o p h k

input_agree : (input : Input) (files : List File) (circuit : Circuit) → AllAgree (InputOutcome input files circuit)
input_agree input files circuit =
    then_agree (FileOutcome (file_of input) (bytes_of (file_of input) files)) (λ text. DrivingOutcome input text circuit) (file_agree (file_of input) (bytes_of (file_of input) files)) (λ text _. driving_agree input text circuit)

pub design_agree : (d : Design) (files : List File) → AllAgree (DesignOutcome d files)
design_agree d files =
    then_agree (CircuitOutcome d files) (λ circuit. AnnotatedOutcome d.sdf d.corner files circuit) (circuit_agree d files) (λ circuit read.
    annotated_agree d.sdf d.corner files circuit (circuit_scopes d files circuit (Ok circuit) refl read))

pub command_agree : (command : Command) (files : List File) → AllAgree (CommandOutcome command files)
command_agree command files =
    then_agree _ _ (design_agree command.design files) (λ annotated _.
    then_agree _ _ (input_agree command.input files annotated.circuit) (λ input _ o p h k. equal_agree o p (h ∙ sym k)))

save_agree : (name text : List ℕ) (circuit : Circuit) (end : ℕ) → AllAgree (SaveOutcome name text circuit end)
save_agree name text circuit end (Ok m) (Ok n) h k = saved.read-once text circuit end m n h k
save_agree name text circuit end (Ok m) (Err r) h k = saved.read-is-faultless text circuit end m k.0 k.1 h k.2
save_agree name text circuit end (Err r) (Ok m) h k = saved.read-is-faultless text circuit end m h.0 h.1 k h.2
save_agree name text circuit end (Err r) (Err s) h k = ap status_of_refusal h.3 ∙ sym (ap status_of_refusal k.3)

pub rest_agree : (command : Command) (state : List ℕ) (files : List File) → AllAgree (RestOutcome command state files)
rest_agree command state files =
    then_agree _ _ (command_agree command files) (λ task _.
    then_agree _ _ (within_agree save_limit state (bytes_of state files)) (λ text _.
    then_agree _ _ (save_agree state text task.circuit task.input.end) (λ moment _ o p h k. equal_agree o p (h ∙ sym k))))

-- a fault that stands is told, and then there is no text
written_or_fault : (c : Circuit) (e : WriteError) (r : Refusal) → written.IsFaultless c → written.FaultStands c e → unwritten_by c e ≡ Some r → ⊥
written_or_fault c (error.Ambiguous s) r h k told = h.scopes.unambiguous s k
written_or_fault c (error.OffGrid s) r h k told = let no : true ≡ false = sym k ∙ h.scopes.on_grid s in cc
written_or_fault c (error.TooDeep s) r h k told = let no : true ≡ false = sym k ∙ h.scopes.shallow s in cc
written_or_fault c (error.TooLong s) r h k told = let no : true ≡ false = sym k ∙ h.scopes.short s in cc
written_or_fault c (error.TooLarge s) r h k told = let no : true ≡ false = sym k.1 ∙ h.small in cc
written_or_fault c error.NoMemory r h k told = cc

unwritten_status : (c : Circuit) (e : WriteError) (r : Refusal) → unwritten_by c e ≡ Some r → status_of_refusal r ≡ status.Unwritable
unwritten_status c (error.Ambiguous s) r told = let same : unwritten (codes "Ambiguous") (path_of c s) ≡ r = cc in sym (ap status_of_refusal same)
unwritten_status c (error.OffGrid s) r told = let same : unwritten (codes "OffGrid") (path_of c s) ≡ r = cc in sym (ap status_of_refusal same)
unwritten_status c (error.TooDeep s) r told = let same : unwritten (codes "TooDeep") (path_of c s) ≡ r = cc in sym (ap status_of_refusal same)
unwritten_status c (error.TooLong s) r told = let same : unwritten (codes "TooLong") (path_of c s) ≡ r = cc in sym (ap status_of_refusal same)
unwritten_status c (error.TooLarge s) r told = let same : unwritten (codes "TooLarge") (path_of c s) ≡ r = cc in sym (ap status_of_refusal same)
unwritten_status c error.NoMemory r told = cc

text_agree : (circuit : Circuit) → AllAgree (TextOutcome circuit)
text_agree circuit (Ok a) (Ok b) h k = h.1 ∙ sym k.1
text_agree circuit (Ok a) (Err r) h k = written_or_fault circuit k.0 r h.0 k.1 k.2
text_agree circuit (Err r) (Ok a) h k = written_or_fault circuit h.0 r k.0 h.1 h.2
text_agree circuit (Err r) (Err s) h k = unwritten_status circuit h.0 r h.2 ∙ sym (unwritten_status circuit k.0 s k.2)

pub writing_agree : (w : Writing) (files : List File) → AllAgree (WritingOutcome w files)
writing_agree w files =
    then_agree _ _ (design_agree w.design files) (λ annotated _.
    then_agree _ _ (text_agree annotated.circuit) (λ text _ o p h k. equal_agree o p (h ∙ sym k)))

pub case_agree : (stages : ℕ) (o p : Result Task Refusal) → CaseOutcome stages o → CaseOutcome stages p → Agree o p
case_agree stages =
    then_agree _ _ (netlist_agree (case_netlist ∷ []) (netlist_of stages ∷ []) None default_corner) (λ circuit read.
    then_agree _ _ (entries_agree case_sdf (sdf_of stages) default_corner circuit (netlist_scopes (case_netlist ∷ []) (netlist_of stages ∷ []) None default_corner circuit read)) (λ annotated _.
    then_agree _ _ (stimulus_agree case_stimulus (stimulus_of stages) annotated.circuit) (λ input _ o p h k. equal_agree o p (h ∙ sym k))))
