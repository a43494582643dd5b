-- How the outcomes of phases compose.
use Rattle.std.proofs.Common.{◌≡◌, subst, Result, ℕ, List}
use Rattle.std.specs.Prelude.{Ok, Err}
use Rattle.sg_io.specs.Files.{File, bytes_of}
use Rattle.signoff_phases.specs.Phases.{Refusal, Then, stops, goes_on, FileOutcome}
use Rattle.signoff_phases.specs.Stops.{Gives, IfFailed, IfOutcome, NeverFails, refusal_seen}
use Rattle.signoff_phases.specs.declared.stop.Stop as code_stop
use Rattle.signoff_phases.specs.declared.stop.Stop.TheVariants as stop

stop_outcome : {X Y A B : Type 0} (view : X → A) (whole : Y → B) (first : Result A Refusal → Type 0) (next : A → Result B Refusal → Type 0) (s : code_stop.Stop)
    → IfOutcome view first (Err s) → IfOutcome whole (Then first next) (Err s)
stop_outcome view whole first next (stop.Refused r) h = stops (refusal_seen r) h
stop_outcome view whole first next stop.Failed h = tt
stop_outcome view whole first next stop.NoMemory h = tt

then_outcome : {Y A B : Type 0} (whole : Y → B) (first : Result A Refusal → Type 0) (next : A → Result B Refusal → Type 0) (a : A) (o : Result Y code_stop.Stop)
    → first (Ok a) → IfOutcome whole (next a) o → IfOutcome whole (Then first next) o
then_outcome whole first next a (Ok y) h k = goes_on a (Ok (whole y)) h k
then_outcome whole first next a (Err (stop.Refused r)) h k = goes_on a (Err (refusal_seen r)) h k
then_outcome whole first next a (Err stop.Failed) h k = tt
then_outcome whole first next a (Err stop.NoMemory) h k = tt

-- a phase that stops, stops what is composed of it
pub gives_stop : {X Y A B : Type 0} {view : X → A} {whole : Y → B} {first : Result A Refusal → Type 0} {next : A → Result B Refusal → Type 0} {s : code_stop.Stop}
    → Gives view first (Err s) → Gives whole (Then first next) (Err s)
gives_stop {X} {Y} {A} {B} {view} {whole} {first} {next} {s} h = record { outcome = stop_outcome view whole first next s h.outcome }

stop_again : {X Y A : Type 0} (view : X → A) (whole : Y → A) (phase : Result A Refusal → Type 0) (s : code_stop.Stop) → IfOutcome view phase (Err s) → IfOutcome whole phase (Err s)
stop_again view whole phase (stop.Refused r) h = h
stop_again view whole phase stop.Failed h = tt
stop_again view whole phase stop.NoMemory h = tt

-- a phase that stops, stops so however its values are seen
pub gives_again : {X Y A : Type 0} {view : X → A} {whole : Y → A} {phase : Result A Refusal → Type 0} {s : code_stop.Stop} → Gives view phase (Err s) → Gives whole phase (Err s)
gives_again {X} {Y} {A} {view} {whole} {phase} {s} h = record { outcome = stop_again view whole phase s h.outcome }

-- after a phase that gave a value, what the rest gives is what is composed of both
pub gives_then : {X Y A B : Type 0} {view : X → A} {whole : Y → B} {first : Result A Refusal → Type 0} {next : A → Result B Refusal → Type 0} {x : X} {o : Result Y code_stop.Stop}
    → Gives view first (Ok x) → Gives whole (next (view x)) o → Gives whole (Then first next) o
gives_then {X} {Y} {A} {B} {view} {whole} {first} {next} {x} {o} h k = record { outcome = then_outcome whole first next (view x) o h.outcome k.outcome }

-- a file that is read has this name too
pub file_given : {X : Type 0} {view : X → List ℕ} {r : Result X code_stop.Stop} (name other : List ℕ) (files : List File) → name ≡ other
    → Gives view (FileOutcome name (bytes_of name files)) r → Gives view (FileOutcome other (bytes_of other files)) r
file_given {X} {view} {r} name other files e g = subst (λ n. Gives view (FileOutcome n (bytes_of n files)) r) e g

pub failed_again : (X Y : Type 0) (P Q : Type 0) (s : code_stop.Stop) → (P → Q) → IfFailed {X = X} P (Err s) → IfFailed {X = Y} Q (Err s)
failed_again X Y P Q (stop.Refused r) f h = tt
failed_again X Y P Q stop.Failed f h = f h
failed_again X Y P Q stop.NoMemory f h = tt

-- what calls nothing outside hasn't failed
pub unfailed : (X Y : Type 0) (P : Type 0) (s : code_stop.Stop) → NeverFails {X = X} (Err s) → IfFailed {X = Y} P (Err s)
unfailed X Y P (stop.Refused r) h = tt
unfailed X Y P stop.Failed h = absurd h
unfailed X Y P stop.NoMemory h = tt

-- a failure, whatever follows from it
pub failed_same : (X : Type 0) (P Q : Type 0) (r : Result X code_stop.Stop) → (P → Q) → IfFailed {X = X} P r → IfFailed {X = X} Q r
failed_same X P Q (Ok x) f h = tt
failed_same X P Q (Err (stop.Refused r)) f h = tt
failed_same X P Q (Err stop.Failed) f h = f h
failed_same X P Q (Err stop.NoMemory) f h = tt
