-- What some texts say, and some numbers of ticks.
use Rattle.std.proofs.Common.{rules, inl, ◌≡◌, refl, Ok, Err, Some, None, true, false}
use Rattle.std.specs.Prelude.{codes, pos, negsuc}
use Rattle.sg_time.specs.declared.decimal.TimeError.TheVariants as error
use Rattle.sg_time.specs.Spelling.{none, minus, Spelling, Says}
use Rattle.sg_time.specs.Ticks.{nearest, ticks, percentage}

-- -1_0.50e1 is -1050 * 10^-1
ten_and_a_half : Says (codes "-1_0.50e1") (Ok (record { negative = true; digits = 1050; exponent = negsuc 0 }))
ten_and_a_half =
    let s : Spelling = record { sign = minus; whole = codes "1_0"; fraction = Some (codes "50"); power = Some (record { mark = 101; sign = none; digits = codes "1" }) } in
    (s, record { whole = (refl, refl); fraction = (refl, refl); some = search rules; power = record { mark = inl refl; digits = refl; some = search rules; few = search rules } }, refl, refl)

-- leading zeros count for nothing, and 19 digits are too many
nineteen_digits : Says (codes "001000000000000000000") (Err error.TooManyDigits)
nineteen_digits =
    let s : Spelling = record { sign = none; whole = codes "001000000000000000000"; fraction = None; power = None } in
    (s, record { whole = (refl, refl); fraction = tt; some = search rules; power = tt }, refl, refl)

halves_go_up : nearest 25 10 ≡ 3
halves_go_up = refl

less_goes_down : nearest 249 100 ≡ 2
less_goes_down = refl

-- 0.0125 ns in ps
thirteen_ticks : ticks (record { negative = false; digits = 125; exponent = negsuc 3 }) (negsuc 8) (negsuc 11) (negsuc 11) ≡ Ok (pos 13)
thirteen_ticks = refl

-- -0.0125 ns in ps
minus_thirteen_ticks : ticks (record { negative = true; digits = 125; exponent = negsuc 3 }) (negsuc 8) (negsuc 11) (negsuc 11) ≡ Ok (negsuc 12)
minus_thirteen_ticks = refl

-- 0.126 ns to 10 ps, in ps
hundred_and_thirty_ticks : ticks (record { negative = false; digits = 126; exponent = negsuc 2 }) (negsuc 8) (negsuc 10) (negsuc 11) ≡ Ok (pos 130)
hundred_and_thirty_ticks = refl

-- 1e99 of 100 s in fs
endless : ticks (record { negative = false; digits = 1; exponent = pos 99 }) (pos 2) (negsuc 14) (negsuc 14) ≡ Err error.TooLarge
endless = refl

-- half of 25
half_goes_up : percentage (record { negative = false; digits = 50; exponent = pos 0 }) 25 ≡ Ok 13
half_goes_up = refl

less_than_nothing : percentage (record { negative = true; digits = 50; exponent = pos 0 }) 25 ≡ Ok 0
less_than_nothing = refl
