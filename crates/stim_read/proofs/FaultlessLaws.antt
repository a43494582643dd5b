-- What is so of statements in which no fault stands.
use Rattle.std.proofs.Common.{ℕ, ◌≡◌, ◌++◌, List, [], ◌∷◌, length, Bool, true, false, not, refl, arith}
use Rattle.std.specs.List.{list_any}
use Rattle.std.proofs.lemmas.Bool.{lt-ltb}
use Rattle.sg_circuit.specs.Circuit.{Circuit}
use Rattle.sg_time.specs.Spelling.{Number}
use Rattle.stim_read.specs.declared.kinds.StimKind.{StimKind}
use Rattle.stim_read.specs.Sets.{Set}
use Rattle.stim_read.specs.Forms.{Form, unit_is, sets_at, ends_at, faulty_end, other, Stated}
use Rattle.stim_read.specs.Times.{Scale, is_whole, is_too_large}
use Rattle.stim_read.specs.Faults.{fault_if, is_end, is_misplaced, is_after, is_early, last_time, time_faults, faults_of, faults_behind}

pub no-left : {A : Type 0} (xs ys : List A) → xs ++ ys ≡ [] → xs ≡ []
no-left [] ys e = refl
no-left (x ∷ xs) ys e = absurd (cc)

pub no-right : {A : Type 0} (xs ys : List A) → xs ++ ys ≡ [] → ys ≡ []
no-right [] ys e = e
no-right (x ∷ xs) ys e = absurd (cc)

pub is-off : (test : Bool) (k : StimKind) (byte : ℕ) → fault_if test k byte ≡ [] → test ≡ false
is-off true k byte e = absurd (cc)
is-off false k byte e = refl

not-off : (test : Bool) → not test ≡ false → test ≡ true
not-off true e = refl
not-off false e = absurd (cc)

-- a time without faults
pub record IsTimed (scale : Scale) (t : Number) : Type 0 where
  pub whole : is_whole scale t ≡ true
  pub small : is_too_large scale t ≡ false

pub is-timed : (scale : Scale) (byte : ℕ) (t : Number) → time_faults scale byte t ≡ [] → IsTimed scale t
is-timed scale byte t e = record {
  whole = not-off (is_whole scale t) (is-off _ _ byte (no-left _ _ e));
  small = is-off (is_too_large scale t) _ byte (no-right _ _ e);
}

-- an `at` without faults
pub record IsFineAt (scale : Scale) (before : List Form) (t : Number) : Type 0 where
  pub open_yet : list_any is_end before ≡ false
  pub timed : IsTimed scale t
  pub after : is_after scale (last_time before) t ≡ true

pub is-fine-at : (circuit : Circuit) (scale : Scale) (before : List Form) (byte : ℕ) (t : Number) (sets : List Set) → faults_of circuit scale before (record { byte = byte; form = sets_at t sets }) ≡ [] → IsFineAt scale before t
is-fine-at circuit scale before byte t sets e =
    let times = no-left _ _ (no-right _ _ e) in
    record {
      open_yet = is-off (list_any is_end before) _ byte (no-left _ _ e);
      timed = is-timed scale byte t (no-left _ _ times);
      after = not-off (is_after scale (last_time before) t) (is-off _ _ byte (no-right _ _ times));
    }

-- an `end` without faults
pub record IsFineEnd (scale : Scale) (before : List Form) (t : Number) : Type 0 where
  pub open_yet : list_any is_end before ≡ false
  pub timed : IsTimed scale t
  pub late : is_early scale (last_time before) t ≡ false

pub is-fine-end : (circuit : Circuit) (scale : Scale) (before : List Form) (byte : ℕ) (t : Number) → faults_of circuit scale before (record { byte = byte; form = ends_at t }) ≡ [] → IsFineEnd scale before t
is-fine-end circuit scale before byte t e =
    let times = no-right _ _ e in
    record {
      open_yet = is-off (list_any is_end before) _ byte (no-left _ _ e);
      timed = is-timed scale byte t (no-left _ _ times);
      late = is-off (is_early scale (last_time before) t) _ byte (no-right _ _ times);
    }

-- a statement of another form is a fault
pub no-other : (circuit : Circuit) (scale : Scale) (before : List Form) (byte : ℕ) → faults_of circuit scale before (record { byte = byte; form = other }) ≡ [] → ⊥
no-other circuit scale before byte e = absurd (cc)

pub no-faulty-end : (circuit : Circuit) (scale : Scale) (before : List Form) (byte : ℕ) → faults_of circuit scale before (record { byte = byte; form = faulty_end }) ≡ [] → ⊥
no-faulty-end circuit scale before byte e = absurd (cc)

misplaced-behind-end : (before : List Form) (form : Form) → list_any is_end before ≡ true → is_misplaced before form ≡ true
misplaced-behind-end [] (unit_is p) e = absurd (cc)
misplaced-behind-end (f ∷ fs) (unit_is p) e = lt-ltb 0 (length (f ∷ fs)) (omega arith)
misplaced-behind-end before (sets_at t sets) e = e
misplaced-behind-end before (ends_at t) e = e
misplaced-behind-end before faulty_end e = refl
misplaced-behind-end before other e = refl

-- nothing stands behind an end
pub nothing-behind-end : (circuit : Circuit) (scale : Scale) (before : List Form) (ss : List Stated) → list_any is_end before ≡ true → faults_behind circuit scale before ss ≡ [] → ss ≡ []
nothing-behind-end circuit scale before [] e h = refl
nothing-behind-end circuit scale before (s ∷ ss) e h =
    let off : is_misplaced before s.form ≡ false = is-off _ _ s.byte (no-left _ _ (no-left _ _ h)) in
    let on = misplaced-behind-end before s.form e in
    absurd (cc)
