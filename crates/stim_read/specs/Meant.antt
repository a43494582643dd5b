-- Joins the definitions to the reader: what it makes of a time and of a statement, and what it knows of the statements before one.
use Rattle.std.specs.Prelude.{ℕ, ℤ, negsuc, ◌≡◌, ◌*◌, ◌/◌, ◌%◌, ◌^◌, ◌==◌, ◌<ℤ◌, pos, ◌⊎◌, Bool, true, false, not, nat_le, nat_lt, nat_eq, List, [], ◌∷◌, ◌++◌, Option, Some, None, is_some, Result, Ok, Err, if◌then◌else◌, length, filter_map, option_to_list}
use Rattle.std.specs.List.{IsAmong, list_any}
use Rattle.sg_circuit.specs.Circuit.{Circuit}
use Rattle.sg_text.specs.declared.refusals.Refused.{Refused}
use Rattle.sg_text.specs.declared.refusals.Refused.TheVariants as refused
use Rattle.sg_time.specs.Spelling.{Number}
use Rattle.sg_stimulus.specs.Stimulus.{Step}
use Rattle.sg_stimulus.specs.Seen.{step_seen}
use Rattle.stim_read.specs.declared.kinds.StimKind.{StimKind}
use Rattle.stim_read.specs.declared.kinds.StimKind.TheVariants.{NotWholeTick, TooLarge}
use Rattle.stim_read.specs.declared.times.Scale as code_scale
use Rattle.stim_read.specs.declared.steps.State as code_state
use Rattle.stim_read.specs.declared.steps.Meant as code_meant
use Rattle.stim_read.specs.declared.steps.Meant.TheVariants as meant
use Rattle.stim_read.specs.Forms.{Form, Stated}
use Rattle.stim_read.specs.Times.{Scale, numerator, denominator, ticks, is_whole}
use Rattle.stim_read.specs.Faults.{Fault, faults_behind, is_end, last_time}
use Rattle.stim_read.specs.Reading.{form_steps, form_end, steps_at}

abbrev pub RefusesOneOf : List Fault → Refused StimKind → Type 0
RefusesOneOf fs (refused.Fault kind place) = IsAmong fs (record { kind = kind; place = place })
RefusesOneOf fs refused.NoMemory = Unit {0}

abbrev pub scale_seen : code_scale.Scale → Scale
scale_seen s = record { unit = s.unit.power; tick = s.tick.power }

-- a number that 64 bits with a sign don't hold
abbrev pub IsBeyond : ℤ → Type 0
IsBeyond i = (pos 9223372036854775807 <ℤ i) ⊎ (i <ℤ negsuc 9223372036854775807)

-- a fraction as a whole number of ticks below 2 ^ 60, or why it isn't one
abbrev pub fraction_ticks : ℕ → ℕ → Result ℕ StimKind
fraction_ticks n d = if not ((n % d) == 0) then Err NotWholeTick else if nat_le (2 ^ 60 * d) n then Err TooLarge else Ok (n / d)

abbrev pub time_ticks : Scale → Number → Result ℕ StimKind
time_ticks scale t = fraction_ticks (numerator scale t) (denominator scale t)

-- whether ticks are after those of the last time, or before them
abbrev pub is_after_ticks : Option ℕ → ℕ → Bool
is_after_ticks None n = true
is_after_ticks (Some last) n = nat_lt last n

abbrev pub is_early_ticks : Option ℕ → ℕ → Bool
is_early_ticks None n = false
is_early_ticks (Some last) n = nat_lt n last

-- the ticks that are kept are those of the last time
abbrev pub IsLast : Scale → Option ℕ → Option Number → Type 0
IsLast scale None None = Unit {0}
IsLast scale (Some n) (Some t) = (n ≡ ticks scale t) × (is_whole scale t ≡ true)
IsLast scale _ _ = ⊥

pub record IsState (scale : Scale) (state : code_state.State) (before : List Form) : Type 0 where
  pub first : state.none ≡ (length before == 0)
  pub ended : is_some state.end ≡ list_any is_end before
  pub times : IsLast scale state.last (last_time before)

-- what a statement does
abbrev pub meant_steps : code_meant.Meant → List Step
meant_steps meant.Nothing = []
meant_steps (meant.Step step) = step_seen step ∷ []
meant_steps (meant.End n) = []

abbrev pub meant_end : code_meant.Meant → Option ℕ
meant_end meant.Nothing = None
meant_end (meant.Step step) = None
meant_end (meant.End n) = Some n

abbrev pub IsMeant : Circuit → Scale → Form → code_meant.Meant → Type 0
IsMeant circuit scale form m = (meant_steps m ≡ form_steps circuit scale form) × (meant_end m ≡ form_end scale form)

-- the state behind it
abbrev pub state_after : code_meant.Meant → code_state.State → code_state.State
state_after meant.Nothing s = record { none = false; last = s.last; end = s.end }
state_after (meant.Step step) s = record { none = false; last = Some step.time; end = s.end }
state_after (meant.End n) s = record { none = false; last = s.last; end = Some n }

-- all statements come to what was made of those before, and the rest
pub record Reached (circuit : Circuit) (scale : Scale) (all rest : List Stated) (steps : List Step) (state : code_state.State) : Type 0 where
  pub before : List Form
  pub is_state : IsState scale state before
  pub faults_are : faults_behind circuit scale [] all ≡ faults_behind circuit scale before rest
  pub steps_are : steps_at circuit scale all ≡ steps ++ steps_at circuit scale rest
  pub ends_are : filter_map (λ s. form_end scale s.form) all ≡ option_to_list state.end ++ filter_map (λ s. form_end scale s.form) rest

-- all statements are read, and no fault stands in them
pub record IsAllRead (circuit : Circuit) (scale : Scale) (all : List Stated) (steps : List Step) (end : Option ℕ) : Type 0 where
  pub no_fault : faults_behind circuit scale [] all ≡ []
  pub steps_are : steps ≡ steps_at circuit scale all
  pub ends_are : filter_map (λ s. form_end scale s.form) all ≡ option_to_list end

-- nets whose later sets were seen
abbrev pub is_seen : ℕ → List ℕ → Bool
is_seen net keys = list_any (λ k. nat_eq net k) keys

abbrev pub unless_seen : {A : Type 0} → Bool → A → List A
unless_seen true x = []
unless_seen false x = x ∷ []
