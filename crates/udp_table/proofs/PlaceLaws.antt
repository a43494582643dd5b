-- Where a table has its cells, and what a place stands for.
use Rattle.std.proofs.Common.{◌≡◌, ◌≢◌, ℕ, zero, suc, ◌+◌, ◌-◌, ◌*◌, ◌/◌, ◌%◌, ◌^◌, ◌<◌, ◌≤◌, nat_lt, true, false, if◌then◌else◌, refl, sym, ◌∙◌, ap, subst, arith, lit<, List}
use Rattle.std.proofs.Math.Nat.{pow-suc, add-mul-div_right, add-mul-mod_self_right, mul_assoc, mod-eq_of_lt, add_comm, mul-le-mul_right}
use Rattle.std.proofs.lemmas.Nat.{div-mul-add, mod-mul-add, mul-add-lt, pow-add}
use Rattle.sg_logic.specs.declared.values.Value.{Value}
use Rattle.sg_logic.specs.declared.values.Value.TheVariants.{Zero, One, X, Z}
use Rattle.sg_logic.specs.Values.{z_as_x}
use Rattle.udp_rows.specs.Meaning.{Step, input_value, inputs_taken, step_of}
use Rattle.udp_table.specs.Places.{digit, code, place, HasNoZ}
use Rattle.udp_table.specs.Compiled.{digit_value, inputs_of, step_at}

pub digit-below : (v : Value) → v ≢ Z → digit v < 3
digit-below Zero h = omega arith
digit-below One h = omega arith
digit-below X h = omega arith
digit-below Z h = absurd (h refl)

digit-below_four : (v : Value) → digit v < 4
digit-below_four Zero = omega arith
digit-below_four One = omega arith
digit-below_four X = omega arith
digit-below_four Z = omega arith

pub value-of_digit : (v : Value) → digit_value (digit v) ≡ v
value-of_digit Zero = refl
value-of_digit One = refl
value-of_digit X = refl
value-of_digit Z = refl

pub power-pos : (n : ℕ) → 0 < 3 ^ n
power-pos zero = lit< tt
power-pos (suc n) = let h = power-pos n in let e : 3 ^ suc n ≡ 3 ^ n * 3 = pow-suc 3 n in omega (arith, e, h)

power-more : (n d : ℕ) → 3 ^ n ≤ 3 ^ (n + d)
power-more n zero = let e : n + 0 ≡ n = omega arith in subst (λ m. 3 ^ n ≤ 3 ^ m) (sym e) (omega arith)
power-more n (suc d) =
    let h : 3 ^ n ≤ 3 ^ (n + d) = power-more n d in
    let e : n + suc d ≡ suc (n + d) = omega arith in
    let p : 3 ^ suc (n + d) ≡ 3 ^ (n + d) * 3 = pow-suc 3 (n + d) in
    subst (λ m. 3 ^ n ≤ 3 ^ m) (sym e) (omega (arith, h, p))

pub powers_fit : (n : ℕ) → n ≤ 10 → 3 ^ n ≤ 59049
powers_fit n l =
    let e : n + (10 - n) ≡ 10 = omega arith in
    subst (λ m. 3 ^ n ≤ 3 ^ m) e (power-more n (10 - n))

-- codes are below 3^n
pub code-below : (w : ℕ → Value) (n : ℕ) → HasNoZ n w → code w n < 3 ^ n
code-below w zero h = lit< tt
code-below w (suc n) h =
    let rest : code w n < 3 ^ n = code-below w n (λ j l. h j (omega arith)) in
    let d : digit (w n) < 3 = digit-below (w n) (h n (omega arith)) in
    let p : 3 ^ suc n ≡ 3 ^ n * 3 = pow-suc 3 n in
    let q : digit (w n) * 3 ^ n + code w n < 3 ^ n * 3 = mul-add-lt (digit (w n)) (3 ^ n) (code w n) 3 d rest in
    omega (arith, p, q)

-- a multiple of a higher power leaves a lower digit
higher : (c D j d : ℕ) → ((D * 3 ^ (suc d + j) + c) / 3 ^ j) % 3 ≡ (c / 3 ^ j) % 3
higher c D j d =
    let p : 3 ^ (suc d + j) ≡ 3 ^ suc d * 3 ^ j = pow-add 3 (suc d) j in
    let q : D * 3 ^ (suc d + j) + c ≡ c + (D * 3 ^ suc d) * 3 ^ j =
    add_comm (D * 3 ^ (suc d + j)) c ∙ (ap (λ x. c + D * x) p ∙ ap (λ x. c + x) (sym (mul_assoc D (3 ^ suc d) (3 ^ j)))) in
    let r : (c + (D * 3 ^ suc d) * 3 ^ j) / 3 ^ j ≡ c / 3 ^ j + D * 3 ^ suc d = add-mul-div_right c (D * 3 ^ suc d) (power-pos j) in
    let t : D * 3 ^ suc d ≡ (D * 3 ^ d) * 3 = ap (λ x. D * x) (pow-suc 3 d) ∙ sym (mul_assoc D (3 ^ d) 3) in
    ap (λ x. (x / 3 ^ j) % 3) q ∙ (ap (λ x. x % 3) r ∙ (ap (λ x. (c / 3 ^ j + x) % 3) t ∙ add-mul-mod_self_right (c / 3 ^ j) (D * 3 ^ d) 3))

-- the digits of a code are those of its inputs
code-digit : (w : ℕ → Value) (n j : ℕ) → HasNoZ n w → j < n → (code w n / 3 ^ j) % 3 ≡ digit (w j)
code-digit w zero j h l = absurd (omega arith)
code-digit w (suc n) j h l = at (n - j) refl (λ m. code-digit w n j (λ k m. h k (omega arith)) m)
  where
    below : code w n < 3 ^ n
    below = code-below w n (λ k m. h k (omega arith))

    at : (d : ℕ) → n - j ≡ d → (j < n → (code w n / 3 ^ j) % 3 ≡ digit (w j)) → ((digit (w n) * 3 ^ n + code w n) / 3 ^ j) % 3 ≡ digit (w j)
    at zero e rest =
        let same : n ≡ j = omega arith in
        let last : digit (w n) < 3 = digit-below (w n) (h n (omega arith)) in
        subst (λ j. ((digit (w n) * 3 ^ n + code w n) / 3 ^ j) % 3 ≡ digit (w j)) same (ap (λ k. k % 3) (div-mul-add (digit (w n)) (3 ^ n) (code w n) below) ∙ mod-eq_of_lt last)
    at (suc d) e rest =
        let is : n ≡ suc d + j = omega arith in
        ap (λ m. ((digit (w n) * 3 ^ m + code w n) / 3 ^ j) % 3) is ∙ (higher (code w n) (digit (w n)) j d ∙ rest (omega arith))

-- the inputs that a code stands for are those that it was made of
pub inputs-of_code : (w : ℕ → Value) (n j : ℕ) → HasNoZ n w → j < n → inputs_of (code w n) j ≡ w j
inputs-of_code w n j h l = ap digit_value (code-digit w n j h l) ∙ value-of_digit (w j)

-- a place gives the parts of its step back
place-rest : (n : ℕ) (step : Step) → HasNoZ n step.inputs → place n step / 3 ^ n ≡ (3 * step.input + digit step.old) * 4 + digit step.state
place-rest n step h = div-mul-add ((3 * step.input + digit step.old) * 4 + digit step.state) (3 ^ n) (code step.inputs n) (code-below step.inputs n h)

place-code : (n : ℕ) (step : Step) → HasNoZ n step.inputs → place n step % 3 ^ n ≡ code step.inputs n
place-code n step h = mod-mul-add ((3 * step.input + digit step.old) * 4 + digit step.state) (3 ^ n) (code step.inputs n) (code-below step.inputs n h)

pub place-inputs : (n : ℕ) (step : Step) (j : ℕ) → HasNoZ n step.inputs → j < n → (step_at (3 ^ n) (place n step)).inputs j ≡ step.inputs j
place-inputs n step j h l = ap (λ c. inputs_of c j) (place-code n step h) ∙ inputs-of_code step.inputs n j h l

pub place-state : (n : ℕ) (step : Step) → HasNoZ n step.inputs → (step_at (3 ^ n) (place n step)).state ≡ step.state
place-state n step h =
    ap (λ k. digit_value (k % 4)) (place-rest n step h)
    ∙ (ap digit_value (mod-mul-add (3 * step.input + digit step.old) 4 (digit step.state) (digit-below_four step.state)) ∙ value-of_digit step.state)

place-quarter : (n : ℕ) (step : Step) → HasNoZ n step.inputs → place n step / 3 ^ n / 4 ≡ step.input * 3 + digit step.old
place-quarter n step h =
    ap (λ k. k / 4) (place-rest n step h)
    ∙ (div-mul-add (3 * step.input + digit step.old) 4 (digit step.state) (digit-below_four step.state) ∙ omega arith)

pub place-old : (n : ℕ) (step : Step) → HasNoZ n step.inputs → step.old ≢ Z → (step_at (3 ^ n) (place n step)).old ≡ step.old
place-old n step h r =
    ap (λ k. digit_value (k % 3)) (place-quarter n step h)
    ∙ (ap digit_value (mod-mul-add step.input 3 (digit step.old) (digit-below step.old r)) ∙ value-of_digit step.old)

pub place-input : (n : ℕ) (step : Step) → HasNoZ n step.inputs → step.old ≢ Z → (step_at (3 ^ n) (place n step)).input ≡ step.input
place-input n step h r = ap (λ k. k / 3) (place-quarter n step h) ∙ div-mul-add step.input 3 (digit step.old) (digit-below step.old r)

-- places are within the table
pub place-below : (n : ℕ) (step : Step) → HasNoZ n step.inputs → step.old ≢ Z → step.input < n → place n step < 12 * n * 3 ^ n
place-below n step h r l =
    let d : digit step.old < 3 = digit-below step.old r in
    let s : digit step.state < 4 = digit-below_four step.state in
    let q : (3 * step.input + digit step.old) * 4 + digit step.state < 12 * n = omega (arith, d, s, l) in
    let p : place n step < 3 ^ n * (12 * n) = mul-add-lt ((3 * step.input + digit step.old) * 4 + digit step.state) (3 ^ n) (code step.inputs n) (12 * n) q (code-below step.inputs n h) in
    omega (arith, p)

-- no input that is read is z
pub read-is : (v : Value) → z_as_x v ≢ Z
read-is Zero e = cc
read-is One e = cc
read-is X e = cc
read-is Z e = cc

pub taken-is : (old new : List Value) (k n : ℕ) → HasNoZ n (inputs_taken old new k)
taken-is old new k n j l = elim (nat_lt j k) as (λ b. (if b then input_value new j else input_value old j) ≢ Z) [ true ↦ read-is _ | false ↦ read-is _ ]

-- a code is made in room
pub code-next_fits : (old new : List Value) (taken n j c d p : ℕ) → j < n → n ≤ 10 → c ≡ code (inputs_taken old new taken) j → d ≡ digit (inputs_taken old new taken j) → p ≡ 3 ^ j
    → (d * p + c < 59049) × (p * 3 ≤ 59049)
code-next_fits old new taken n j c d p l few is_c is_d is_p =
    let whole : code w (suc j) < 3 ^ suc j = code-below w (suc j) (taken-is old new taken (suc j)) in
    let more : 3 ^ suc j ≤ 59049 = powers_fit (suc j) (omega arith) in
    let sum : d * p + c ≡ code w (suc j) = ap (λ d. d * p + c) is_d ∙ (ap (λ p. digit (w j) * p + c) is_p ∙ ap (λ c. digit (w j) * 3 ^ j + c) is_c) in
    let next : p * 3 ≡ 3 ^ suc j = ap (λ p. p * 3) is_p ∙ sym (pow-suc 3 j) in
    (omega (arith, whole, more, sum), omega (arith, more, next))
  where
    w : ℕ → Value
    w = inputs_taken old new taken

-- the cells of a table are not too many
pub table-fits : (n : ℕ) → n ≤ 10 → 12 * n * 3 ^ n ≤ 7085880
table-fits n few =
    let powers : 3 ^ n ≤ 59049 = powers_fit n few in
    let by_row : 12 * n * 3 ^ n ≤ 120 * 3 ^ n = mul-le-mul_right (3 ^ n) (omega arith) in
    omega (arith, powers, by_row)

-- a place is made in room, within its table
pub place-made : (old new : List Value) (state : Value) (n i b s p c : ℕ) → i < n → n ≤ 10 → b ≡ digit (input_value old i) → s ≡ digit state → p ≡ 3 ^ n
    → c ≡ code (inputs_taken old new (i + 1)) n
    → (((3 * i + b) * 4 + s) * p + c ≡ place n (step_of old new state i)) × (((3 * i + b) * 4 + s) * p + c < 12 * n * 3 ^ n) × (12 * n * 3 ^ n ≤ 7085880)
place-made old new state n i b s p c l few is_b is_s is_p is_c = (is, subst (λ k. k < 12 * n * 3 ^ n) (sym is) below, room)
  where
    is : ((3 * i + b) * 4 + s) * p + c ≡ place n (step_of old new state i)
    is =
        ap (λ b. ((3 * i + b) * 4 + s) * p + c) is_b
        ∙ (ap (λ s. ((3 * i + digit (input_value old i)) * 4 + s) * p + c) is_s
        ∙ (ap (λ p. ((3 * i + digit (input_value old i)) * 4 + digit state) * p + c) is_p
        ∙ ap (λ c. ((3 * i + digit (input_value old i)) * 4 + digit state) * 3 ^ n + c) is_c))

    below : place n (step_of old new state i) < 12 * n * 3 ^ n
    below = place-below n (step_of old new state i) (taken-is old new (i + 1) n) (read-is _) l

    room : 12 * n * 3 ^ n ≤ 7085880
    room = table-fits n few
