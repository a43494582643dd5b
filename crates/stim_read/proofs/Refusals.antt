-- One of several faults is refused.
use Rattle.std.proofs.Common.{ℕ, ◌≡◌, ◌+◌, List, [], ◌∷◌, ◌++◌, length, Bool, true, refl, sym, ◌∙◌, subst, arith, length-append}
use Rattle.std.specs.Prelude.{Result, Err, MatchResult, IfErr}
use Rattle.std.specs.List.{IsAmong}
use Rattle.std.proofs.lemmas.List.{get_or_append_left, get_or-append-add}
use Rattle.sg_circuit.specs.Circuit.{Circuit}
use Rattle.sg_text.specs.declared.refusals.Refused.{Refused}
use Rattle.sg_text.specs.declared.refusals.Refused.TheVariants as refused
use Rattle.stim_read.specs.declared.kinds.StimKind.{StimKind}
use Rattle.stim_read.specs.declared.kinds.StimKind.TheVariants.{Syntax}
use Rattle.stim_read.specs.Forms.{Form}
use Rattle.stim_read.specs.Times.{Scale}
use Rattle.stim_read.specs.Faults.{Fault, fault, fault_if, is_misplaced, meaning_faults, faults_of}
use Rattle.stim_read.specs.Meant.{RefusesOneOf}

among-left : {A : Type 0} (xs ys : List A) (v : A) → IsAmong xs v → IsAmong (xs ++ ys) v
among-left xs ys v (i, (lt, e)) =
    let l : length (xs ++ ys) ≡ length xs + length ys = length-append xs ys in
    (i, (omega arith, e ∙ sym (get_or_append_left xs ys v i lt)))

among-right : {A : Type 0} (xs ys : List A) (v : A) → IsAmong ys v → IsAmong (xs ++ ys) v
among-right xs ys v (i, (lt, e)) =
    let l : length (xs ++ ys) ≡ length xs + length ys = length-append xs ys in
    (length xs + i, (omega arith, e ∙ sym (get_or-append-add xs ys i v)))

pub refused-left : (xs ys : List Fault) (r : Refused StimKind) → RefusesOneOf xs r → RefusesOneOf (xs ++ ys) r
refused-left xs ys (refused.Fault k p) h = among-left xs ys (record { kind = k; place = p }) h
refused-left xs ys refused.NoMemory h = tt

pub refused-right : (xs ys : List Fault) (r : Refused StimKind) → RefusesOneOf ys r → RefusesOneOf (xs ++ ys) r
refused-right xs ys (refused.Fault k p) h = among-right xs ys (record { kind = k; place = p }) h
refused-right xs ys refused.NoMemory h = tt

abbrev pub told : StimKind → ℕ → Refused StimKind
told k byte = refused.Fault k (record { file = 0; byte = byte })

pub head-refused : (k : StimKind) (byte : ℕ) (more : List Fault) → RefusesOneOf (fault k byte ∷ more) (told k byte)
head-refused k byte more = (0, (omega arith, refl))

-- a fault is told where its test holds
pub test-refused : (test : Bool) (k : StimKind) (byte : ℕ) → test ≡ true → RefusesOneOf (fault_if test k byte) (told k byte)
test-refused test k byte e = rw e (head-refused k byte [])

pub misplaced-refused : (circuit : Circuit) (scale : Scale) (before : List Form) (byte : ℕ) (form : Form) → is_misplaced before form ≡ true
    → RefusesOneOf (faults_of circuit scale before (record { byte = byte; form = form })) (told Syntax byte)
misplaced-refused circuit scale before byte form e =
    refused-left (fault_if (is_misplaced before form) Syntax byte) (meaning_faults circuit scale byte before form) (told Syntax byte) (test-refused (is_misplaced before form) Syntax byte e)

pub meaning-refused : (circuit : Circuit) (scale : Scale) (before : List Form) (byte : ℕ) (form : Form) (r : Refused StimKind) → RefusesOneOf (meaning_faults circuit scale byte before form) r
    → RefusesOneOf (faults_of circuit scale before (record { byte = byte; form = form })) r
meaning-refused circuit scale before byte form r h = refused-right (fault_if (is_misplaced before form) Syntax byte) (meaning_faults circuit scale byte before form) r h

-- the exit of a `?`
pub exit-match : {A : Type 0} (P : A → Type 0) (fs : List Fault) (result : Result A (Refused StimKind)) (e : Refused StimKind) → ((x : Refused StimKind) × (result ≡ Err x) × (x ≡ e)) → RefusesOneOf fs e → MatchResult result P (RefusesOneOf fs)
exit-match P fs result e (x, r, s) h = subst (λ y. MatchResult y P (RefusesOneOf fs)) (sym r) (subst (RefusesOneOf fs) (sym s) h)

pub exit-by : {A : Type 0} (P : Refused StimKind → Type 0) (result : Result A (Refused StimKind)) (e : Refused StimKind) → ((x : Refused StimKind) × (result ≡ Err x) × (x ≡ e)) → P e → IfErr result P
exit-by P result e (x, r, s) h = subst (λ y. IfErr y P) (sym r) (subst P (sym s) h)
