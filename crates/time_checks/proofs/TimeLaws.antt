-- The greatest of times that fall.
use Rattle.std.specs.Prelude.{◌≡◌, ℕ, ◌+◌, ◌≤◌, nat_lt, nat_le, Bool, true, false, ◌&&◌, if◌then◌else◌, List, [], ◌∷◌, max, filter, refl, cond}
use Rattle.std.specs.List.{find}
use Rattle.std.specs.declared.option.Option.{Option}
use Rattle.std.specs.declared.option.Option.TheVariants.{Some, None}
use Rattle.std.proofs.Common.{sym, ◌∙◌, ap, subst, arith}
use Rattle.std.proofs.lemmas.Bool.Decides.{nat_tests}
use Rattle.time_checks.specs.Times.{greater, greatest, greatest_of}
use Rattle.time_checks.specs.Falling.{Falls}

-- the first, if there is one
abbrev pub head_of : List ℕ → Option ℕ
head_of [] = None
head_of (t ∷ ts) = Some t

max_left : (t u : ℕ) → u ≤ t → max t u ≡ t
max_left t u h = omega arith

-- the greatest of times that fall is the first
pub greatest-falls : (time : ℕ) (ts : List ℕ) → Falls time ts → greatest ts ≡ head_of ts
greatest-falls time [] f = refl
greatest-falls time (t ∷ ts) f = ap (greater t) (greatest-falls t ts f.1) ∙ at ts f.1
  where
    at : (us : List ℕ) → Falls t us → greater t (head_of us) ≡ Some t
    at [] g = refl
    at (u ∷ us) g = ap Some (max_left t u g.0)

pub falls-later : (time later : ℕ) (ts : List ℕ) → time ≤ later → Falls time ts → Falls later ts
falls-later time later [] h f = tt
falls-later time later (t ∷ ts) h f = let l : t ≤ time = f.0 in (omega arith, f.1)

pub falls-filter : (test : ℕ → Bool) (time : ℕ) (ts : List ℕ) → Falls time ts → Falls time (filter test ts)
falls-filter test time [] f = tt
falls-filter test time (t ∷ ts) f =
    elim (test t) as (λ b. Falls time (cond b (t ∷ filter test ts) (filter test ts))) [
      | true ↦ (f.0, falls-filter test t ts f.1)
      | false ↦ falls-later t time (filter test ts) f.0 (falls-filter test t ts f.1)
    ]

head_of-filter : (test : ℕ → Bool) (ts : List ℕ) → head_of (filter test ts) ≡ find test ts
head_of-filter test [] = refl
head_of-filter test (t ∷ ts) =
    elim (test t) as (λ b. head_of (cond b (t ∷ filter test ts) (filter test ts)) ≡ cond b (Some t) (find test ts)) [
      | true ↦ refl
      | false ↦ head_of-filter test ts
    ]

-- of times that fall, the greatest that passes is the first that passes
pub greatest_of-falls : (test : ℕ → Bool) (time : ℕ) (ts : List ℕ) → Falls time ts → greatest_of test ts ≡ find test ts
greatest_of-falls test time ts f = greatest-falls time (filter test ts) (falls-filter test time ts f) ∙ head_of-filter test ts

-- a time whose distance is below the limit
abbrev pub if_near : ℕ → ℕ → Option ℕ → Option ℕ
if_near limit time None = None
if_near limit time (Some t) = if nat_lt time (t + limit) then Some t else None

far : (time limit b t : ℕ) → t ≤ b → nat_lt time (b + limit) ≡ false → nat_lt time (t + limit) ≡ false
far time limit b t l h = grind (arith, nat_tests)

and-false : (b : Bool) → (b && false) ≡ false
and-false true = refl
and-false false = refl

-- where one time is too far away, all before it are
pub none-near : (test : ℕ → Bool) (time limit b : ℕ) (ts : List ℕ) → Falls b ts → nat_lt time (b + limit) ≡ false → find (λ t. test t && nat_lt time (t + limit)) ts ≡ None
none-near test time limit b [] f h = refl
none-near test time limit b (t ∷ ts) f h =
    let n : nat_lt time (t + limit) ≡ false = far time limit b t f.0 h in
    let a : (test t && nat_lt time (t + limit)) ≡ false = ap (λ c. test t && c) n ∙ and-false (test t) in
    rw a (none-near test time limit t ts f.1 n)

-- the first near one of those that pass is the first that passes, if that is near
pub find-near : (test : ℕ → Bool) (time limit b : ℕ) (ts : List ℕ) → Falls b ts → find (λ t. test t && nat_lt time (t + limit)) ts ≡ if_near limit time (find test ts)
find-near test time limit b [] f = refl
find-near test time limit b (t ∷ ts) f =
    at (test t) (nat_lt time (t + limit)) refl (find-near test time limit t ts f.1) (none-near test time limit t ts f.1)
  where
    at : (p n : Bool) → nat_lt time (t + limit) ≡ n
        → find (λ u. test u && nat_lt time (u + limit)) ts ≡ if_near limit time (find test ts)
        → (nat_lt time (t + limit) ≡ false → find (λ u. test u && nat_lt time (u + limit)) ts ≡ None)
        → cond (p && n) (Some t) (find (λ u. test u && nat_lt time (u + limit)) ts) ≡ if_near limit time (cond p (Some t) (find test ts))
    at true true e rest gone = sym (ap (λ c. if c then Some t else None) e)
    at true false e rest gone = gone e ∙ sym (ap (λ c. if c then Some t else None) e)
    at false n e rest gone = rest

-- what is found passes
pub find-passes : (test : ℕ → Bool) (ts : List ℕ) (t : ℕ) → find test ts ≡ Some t → test t ≡ true
find-passes test [] t e = cc
find-passes test (u ∷ us) t e = at (test u) refl e (find-passes test us t)
  where
    at : (p : Bool) → test u ≡ p → cond p (Some u) (find test us) ≡ Some t → (find test us ≡ Some t → test t ≡ true) → test t ≡ true
    at true q g rest = let same : u ≡ t = cc in subst (λ x. test x ≡ true) same q
    at false q g rest = rest g

-- of times up to now all pass that aren't after now
pub find-up_to : (time : ℕ) (ts : List ℕ) → Falls time ts → find (λ t. nat_le t time) ts ≡ head_of ts
find-up_to time [] f = refl
find-up_to time (t ∷ ts) f = let l : t ≤ time = f.0 in let e : nat_le t time ≡ true = grind (arith, nat_tests, l) in rw e refl

-- a time of now, where the limit is above 0
abbrev pub if_now : ℕ → ℕ → Option ℕ → Option ℕ
if_now limit time None = None
if_now limit time (Some t) = if nat_le time t && nat_lt t (time + limit) then Some t else None

not_after : (time limit b t : ℕ) → t ≤ b → b ≤ time → (nat_le time b && nat_lt b (time + limit)) ≡ false → (nat_le time t && nat_lt t (time + limit)) ≡ false
not_after time limit b t l m h = grind (arith, nat_tests)

pub none-now : (time limit b : ℕ) (ts : List ℕ) → b ≤ time → Falls b ts → (nat_le time b && nat_lt b (time + limit)) ≡ false → find (λ t. nat_le time t && nat_lt t (time + limit)) ts ≡ None
none-now time limit b [] m f h = refl
none-now time limit b (t ∷ ts) m f h =
    let l : t ≤ b = f.0 in
    let n : (nat_le time t && nat_lt t (time + limit)) ≡ false = not_after time limit b t l m h in
    let k : t ≤ time = omega arith in
    rw n (none-now time limit t ts k f.1 n)

-- of times up to now the first that is now and within a limit after it is the very first, if that is
pub find-now : (time limit : ℕ) (ts : List ℕ) → Falls time ts → find (λ t. nat_le time t && nat_lt t (time + limit)) ts ≡ if_now limit time (head_of ts)
find-now time limit [] f = refl
find-now time limit (t ∷ ts) f = at (nat_le time t && nat_lt t (time + limit)) refl (none-now time limit t ts f.0 f.1)
  where
    at : (n : Bool) → (nat_le time t && nat_lt t (time + limit)) ≡ n
        → ((nat_le time t && nat_lt t (time + limit)) ≡ false → find (λ u. nat_le time u && nat_lt u (time + limit)) ts ≡ None)
        → cond n (Some t) (find (λ u. nat_le time u && nat_lt u (time + limit)) ts) ≡ (if n then Some t else None)
    at true e gone = refl
    at false e gone = gone e
