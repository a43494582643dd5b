-- The decimals of numbers below 10^18: digits, 18 at the most, which are read as the number.
use Rattle.std.proofs.Common.{ℕ, ◌^◌, ◌<◌, ◌≤◌, length, arith}
use Rattle.std.specs.Prelude.{decimal}
use Rattle.std.proofs.lemmas.Fmt.{decimal_nonempty, length-decimal-le}
use Rattle.written_reading.proofs.Decimals.{IsDecimal, is_decimal as of_digits}

pub is_decimal : (n : ℕ) → n < 10 ^ 18 → IsDecimal n (decimal n)
is_decimal n l = of_digits n (omega arith)

pub some_digit : (n : ℕ) → n < 10 ^ 18 → 0 < length (decimal n)
some_digit n l = decimal_nonempty n (omega arith)

pub few_digits : (n : ℕ) → n < 10 ^ 18 → length (decimal n) ≤ 18
few_digits n l = length-decimal-le 18 n (omega arith) l (omega arith)
