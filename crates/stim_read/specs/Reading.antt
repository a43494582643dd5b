-- What a stimulus's text says: a stimulus where no fault stands, and else a fault that stands.
use Rattle.std.specs.Prelude.{◌≡◌, ℕ, List, [], ◌∷◌, flat_map, filter_map, slice_index_or, Option, Some, None}
use Rattle.std.specs.List.{IsAmong}
use Rattle.sg_circuit.specs.Circuit.{Circuit}
use Rattle.sg_text.specs.declared.places.Place.{Place}
use Rattle.sg_text.specs.declared.refusals.Refused.{Refused}
use Rattle.sg_text.specs.declared.refusals.Refused.TheVariants as refused
use Rattle.sg_stimulus.specs.Stimulus.{Step, Stimulus}
use Rattle.stim_read.specs.declared.kinds.StimKind.{StimKind}
use Rattle.stim_read.specs.Forms.{Decimals, AreDecimals, Form, unit_is, sets_at, ends_at, faulty_end, other, Stated, all_stated}
use Rattle.stim_read.specs.Times.{Scale, ticks}
use Rattle.stim_read.specs.Inputs.{all_set}
use Rattle.stim_read.specs.Faults.{faults, scale_of}

-- a step for each `at`
abbrev pub form_steps : Circuit → Scale → Form → List Step
form_steps circuit scale (unit_is power) = []
form_steps circuit scale (sets_at time sets) = record { time = ticks scale time; sets = all_set circuit sets } ∷ []
form_steps circuit scale (ends_at time) = []
form_steps circuit scale faulty_end = []
form_steps circuit scale other = []

abbrev pub steps_at : Circuit → Scale → List Stated → List Step
steps_at circuit scale ss = flat_map (λ s. form_steps circuit scale s.form) ss

-- the time of the end
abbrev pub form_end : Scale → Form → Option ℕ
form_end scale (unit_is power) = None
form_end scale (sets_at time sets) = None
form_end scale (ends_at time) = Some (ticks scale time)
form_end scale faulty_end = None
form_end scale other = None

abbrev pub end_at : Scale → List Stated → ℕ
end_at scale ss = slice_index_or (filter_map (λ s. form_end scale s.form) ss) 0 0

abbrev pub stimulus_stated : Circuit → List Stated → Stimulus
stimulus_stated circuit ss = record { steps = steps_at circuit (scale_of circuit ss) ss; end = end_at (scale_of circuit ss) ss }

-- a fault of a kind stands at a place; several may stand
pub record FaultStands (text : List ℕ) (circuit : Circuit) (kind : StimKind) (place : Place) : Type 0 where
  pub said : Decimals
  pub decimals : AreDecimals said
  pub among : IsAmong (faults said text circuit) (record { kind = kind; place = place })

-- there is no fault, and it is the stimulus of the statements
pub record IsRead (text : List ℕ) (circuit : Circuit) (stimulus : Stimulus) : Type 0 where
  pub said : Decimals
  pub decimals : AreDecimals said
  pub no_fault : faults said text circuit ≡ []
  pub is_stimulus : stimulus ≡ stimulus_stated circuit (all_stated said text)

-- a refusal tells a fault that stands, or that there was no memory
abbrev pub RefusalStands : List ℕ → Circuit → Refused StimKind → Type 0
RefusalStands text circuit (refused.Fault kind place) = FaultStands text circuit kind place
RefusalStands text circuit refused.NoMemory = Unit {0}
