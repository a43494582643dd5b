-- The two rules at each of their limits, computed by the definitions. The present value is 0.
use Rattle.std.specs.Prelude.{◌≡◌, [], ◌∷◌, refl}
use Rattle.sg_logic.specs.declared.values.Value.TheVariants.{Zero, One, X}
use Rattle.sg_model.specs.Pending.{OnEvent, OnDetect, placed_latest_first, pending_after, inertial}

at_one_time : pending_after ((20, One) ∷ []) Zero 15 X 20 2 5 OnEvent ≡ (20, X) ∷ []
unfolding placed_latest_first
at_one_time = refl

as_wide_as_error : pending_after ((20, One) ∷ []) Zero 15 Zero 25 2 5 OnEvent ≡ (20, One) ∷ (25, Zero) ∷ []
unfolding placed_latest_first
as_wide_as_error = refl

one_less_than_error : pending_after ((20, One) ∷ []) Zero 15 Zero 24 2 5 OnEvent ≡ (20, X) ∷ (24, Zero) ∷ []
unfolding placed_latest_first
one_less_than_error = refl

as_wide_as_reject : pending_after ((20, One) ∷ []) Zero 15 Zero 22 2 5 OnEvent ≡ (20, X) ∷ (22, Zero) ∷ []
unfolding placed_latest_first
as_wide_as_reject = refl

one_less_than_reject : pending_after ((20, One) ∷ []) Zero 15 Zero 21 2 5 OnEvent ≡ []
unfolding placed_latest_first
one_less_than_reject = refl

an_x_stands_already : pending_after ((18, X) ∷ (20, One) ∷ []) Zero 15 Zero 24 2 5 OnEvent ≡ (18, X) ∷ (24, Zero) ∷ []
unfolding placed_latest_first
an_x_stands_already = refl

an_x_follows : pending_after ((20, One) ∷ []) Zero 15 X 23 2 5 OnEvent ≡ (20, X) ∷ []
unfolding placed_latest_first
an_x_follows = refl

a_long_list_is_cleared : pending_after ((16, One) ∷ (18, X) ∷ (20, One) ∷ []) Zero 15 Zero 24 2 5 OnDetect ≡ (15, X) ∷ (24, Zero) ∷ []
unfolding placed_latest_first
a_long_list_is_cleared = refl

an_empty_list_has_nothing_to_clear : pending_after ([]) Zero 15 One 20 2 5 OnDetect ≡ (20, One) ∷ []
unfolding placed_latest_first
an_empty_list_has_nothing_to_clear = refl

the_value_stands_at_the_end : pending_after ((20, One) ∷ []) Zero 15 One 30 2 5 OnEvent ≡ (20, One) ∷ []
unfolding placed_latest_first
the_value_stands_at_the_end = refl

the_value_stands_below_one_that_is_dropped : pending_after ((17, One) ∷ (20, X) ∷ []) Zero 15 One 19 2 5 OnEvent ≡ (17, One) ∷ []
unfolding placed_latest_first
the_value_stands_below_one_that_is_dropped = refl

another_value_takes_its_place : inertial ((13, One) ∷ []) Zero X 15 ≡ (15, X) ∷ []
another_value_takes_its_place = refl

the_same_value_stays : inertial ((13, One) ∷ []) Zero One 14 ≡ (13, One) ∷ []
the_same_value_stays = refl

nothing_is_pending_and_the_value_stands : inertial ([]) Zero Zero 17 ≡ []
nothing_is_pending_and_the_value_stands = refl

nothing_is_pending : inertial ([]) Zero One 23 ≡ (23, One) ∷ []
nothing_is_pending = refl
