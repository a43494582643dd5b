-- The times of pending transitions: no rule places one later than its own time or those that were pending.
use Rattle.std.specs.Prelude.{ℕ, ◌-◌, ◌≤◌, ◌==◌, nat_lt, nat_le, if◌then◌else◌, List, [], ◌∷◌, ◌++◌, reverse}
use Rattle.std.proofs.Common.{sym, subst}
use Rattle.std.proofs.lemmas.List.{reverse-append}
use Rattle.sg_logic.specs.declared.values.Value.{Value}
use Rattle.sg_logic.specs.declared.values.Value.TheVariants.{X}
use Rattle.sg_logic.specs.Values.{is_same}
use Rattle.sg_model.specs.Pending.{PulseStyle, OnEvent, OnDetect, value_of_first, put, error_pulse, placed_latest_first, inertial_latest_first}
use Rattle.sg_model.specs.Machine.{Rule, Inertial, Pulse}
use Rattle.sg_model.specs.Round.{without_due, placed_by}
use Rattle.sg_model.proofs.PlacedLaws.{if_fact}
use Rattle.fan_round.specs.Rounds.{time_of_rule}

-- no pair's time is after this one
abbrev pub NoneAfter : ℕ → List (ℕ × Value) → Type 0
NoneAfter time [] = Unit {0}
NoneAfter time (p ∷ ps) = (p.0 ≤ time) × NoneAfter time ps

none-append : (time : ℕ) (xs ys : List (ℕ × Value)) → NoneAfter time xs → NoneAfter time ys → NoneAfter time (xs ++ ys)
none-append time [] ys h k = k
none-append time (x ∷ xs) ys h k = (h.0, none-append time xs ys h.1 k)

none-reverse : (time : ℕ) (xs : List (ℕ × Value)) → NoneAfter time xs → NoneAfter time (reverse xs)
none-reverse time [] h = tt
none-reverse time (x ∷ xs) h = subst (NoneAfter time) (sym (reverse-append (x ∷ []) xs)) (none-append time (reverse xs) (x ∷ []) (none-reverse time xs h.1) (h.0, tt))

none-put : (top : ℕ) (xs : List (ℕ × Value)) (present : Value) (t : ℕ) (v : Value) → NoneAfter top xs → t ≤ top → NoneAfter top (put xs present t v)
none-put top xs present t v h l = if_fact (NoneAfter top) (is_same (value_of_first xs present) v) xs ((t, v) ∷ xs) (λ _. h) (λ _. (l, h))

none-error : (top : ℕ) (style : PulseStyle) (earlier : List (ℕ × Value)) (last_time : ℕ) (present : Value) (now : ℕ) (v : Value) (t : ℕ) → NoneAfter top earlier → last_time ≤ top → now ≤ top → t ≤ top
    → NoneAfter top (error_pulse style earlier last_time present now v t)
none-error top OnEvent earlier last_time present now v t h l m n = none-put top (put earlier present last_time X) present t v (none-put top earlier present last_time X h l) n
none-error top OnDetect earlier last_time present now v t h l m n = none-put top (put [] present now X) present t v (none-put top [] present now X tt m) n

none-placed : (top : ℕ) (xs : List (ℕ × Value)) (present : Value) (now : ℕ) (v : Value) (t reject error : ℕ) (style : PulseStyle) → NoneAfter top xs → now ≤ top → t ≤ top → NoneAfter top (placed_latest_first xs present now v t reject error style)
unfolding placed_latest_first
none-placed top [] present now v t reject error style h m n = none-put top [] present t v tt n
none-placed top (p ∷ ps) present now v t reject error style h m n =
    let rest = none-placed top ps present now v t reject error style h.1 m n in
    let again : List (ℕ × Value) = placed_latest_first ps present now v t reject error style in
    let pulse : List (ℕ × Value) = error_pulse style ps p.0 present now v t in
    let near : List (ℕ × Value) = if nat_lt (t - p.0) reject then again else pulse in
    let later : List (ℕ × Value) = if nat_le error (t - p.0) then ((t, v) ∷ p ∷ ps) else near in
    let other : List (ℕ × Value) = if nat_le t p.0 then again else later in
    if_fact (NoneAfter top) (is_same p.1 v) (p ∷ ps) other (λ _. h) (λ _.
    if_fact (NoneAfter top) (nat_le t p.0) again later (λ _. rest) (λ _.
    if_fact (NoneAfter top) (nat_le error (t - p.0)) ((t, v) ∷ p ∷ ps) near (λ _. (n, h)) (λ _.
    if_fact (NoneAfter top) (nat_lt (t - p.0) reject) again pulse (λ _. rest) (λ _. none-error top style ps p.0 present now v t h.1 h.0 m n))))

none-inertial : (top : ℕ) (xs : List (ℕ × Value)) (present v : Value) (t : ℕ) → NoneAfter top xs → t ≤ top → NoneAfter top (inertial_latest_first xs present v t)
none-inertial top [] present v t h n = none-put top [] present t v tt n
none-inertial top (p ∷ ps) present v t h n = if_fact (NoneAfter top) (is_same p.1 v) (p ∷ ps) (put [] present t v) (λ _. h) (λ _. none-put top [] present t v tt n)

-- where a value is placed no later than a time, so is all that is pending then
pub none-placed_by : (top : ℕ) (rule : Rule) (list : List (ℕ × Value)) (present : Value) (now : ℕ) (v : Value) → NoneAfter top list → now ≤ top → time_of_rule rule ≤ top → NoneAfter top (placed_by rule list present now v)
none-placed_by top (Inertial t) list present now v h m n = none-reverse top (inertial_latest_first (reverse list) present v t) (none-inertial top (reverse list) present v t (none-reverse top list h) n)
none-placed_by top (Pulse t reject error style) list present now v h m n =
    none-reverse top (placed_latest_first (reverse list) present now v t reject error style) (none-placed top (reverse list) present now v t reject error style (none-reverse top list h) m n)

pub none-left : (top now : ℕ) (list : List (ℕ × Value)) → NoneAfter top list → NoneAfter top (without_due now list)
none-left top now [] h = tt
none-left top now (p ∷ ps) h = if_fact (NoneAfter top) (p.0 == now) ps (p ∷ ps) (λ _. h.1) (λ _. h)
