-- Some lists of pending transitions, and the tables that they stand for.
use Rattle.std.proofs.Common.{◌≡◌, refl, [], ◌∷◌, List}
use Rattle.sg_logic.specs.declared.values.Value.TheVariants.{Zero, One, X}
use Rattle.sg_delay.specs.declared.limits.PulseStyle.TheVariants.{OnEvent, OnDetect}
use Rattle.sg_model.specs.Pending.{OnEvent as on_event, OnDetect as on_detect}
use Rattle.pulse_list.specs.declared.plain.Pending.{Pending}
use Rattle.pulse_list.specs.Plain.{pairs_of, table_of}
use Rattle.pulse_list.specs.Seen.{style_seen}

-- at 30 driver 0 goes to 0, at 20 driver 2 to x, at 10 driver 0 to 1
abbrev three : List Pending
three =
    record { driver = 0; time = 30; value = Zero }
    ∷ record { driver = 2; time = 20; value = X }
    ∷ record { driver = 0; time = 10; value = One }
    ∷ []

latest_first : pairs_of 0 three ≡ (30, Zero) ∷ (10, One) ∷ []
latest_first = refl

of_another_driver : pairs_of 2 three ≡ (20, X) ∷ []
of_another_driver = refl

earliest_first : table_of 3 three ≡ ((10, One) ∷ (30, Zero) ∷ []) ∷ [] ∷ ((20, X) ∷ []) ∷ []
earliest_first = refl

nothing_pending : table_of 2 [] ≡ [] ∷ [] ∷ []
nothing_pending = refl

at_the_event : style_seen OnEvent ≡ on_event
at_the_event = refl

at_the_detection : style_seen OnDetect ≡ on_detect
at_the_detection = refl
