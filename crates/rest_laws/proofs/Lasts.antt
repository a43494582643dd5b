-- The last snapshots of times, where some snapshots are later than one of them.
use Rattle.std.specs.Prelude.{◌≡◌, ℕ, ◌<◌, ◌≤◌, ◌==◌, Bool, true, false, if◌then◌else◌, All, List, [], ◌∷◌, ◌++◌, refl}
use Rattle.std.proofs.Common.{ap, arith}
use Rattle.std.proofs.lemmas.Bool.Decides.{nat_tests}
use Rattle.std.proofs.lemmas.List.Elements.{All-nil, All-cons, All-head, All-tail}
use Rattle.sg_model.specs.Machine.{Snapshot}
use Rattle.sg_model.specs.Run.{lasts, lasts_before}
use Rattle.time_checks.specs.Falling.{DontFall}
use Rattle.sim_times.specs.Skipping.{later_falls}

abbrev pub IsAfter : ℕ → Snapshot → Type 0
IsAfter time s = time < s.time

abbrev pub IsUpTo : ℕ → Snapshot → Type 0
IsUpTo time s = s.time ≤ time

split_before : (now : ℕ) (newer : List Snapshot) (last : Snapshot) (older : List Snapshot) → last.time < now → All (IsAfter last.time) newer
    → lasts_before now (newer ++ last ∷ older) ≡ lasts_before now newer ++ last ∷ lasts_before last.time older
split_before now [] last older l after =
    let e : (last.time == now) ≡ false = grind (arith, nat_tests) in
    ap (λ b. if b then lasts_before now older else last ∷ lasts_before last.time older) e
split_before now (s ∷ newer) last older l after =
    let rest : All (IsAfter last.time) newer = All-tail (IsAfter last.time) s newer after in
    at (s.time == now) (split_before now newer last older l rest) (split_before s.time newer last older (All-head (IsAfter last.time) s newer after) rest)
  where
    at : (b : Bool) → lasts_before now (newer ++ last ∷ older) ≡ lasts_before now newer ++ last ∷ lasts_before last.time older
        → lasts_before s.time (newer ++ last ∷ older) ≡ lasts_before s.time newer ++ last ∷ lasts_before last.time older
        → (if b then lasts_before now (newer ++ last ∷ older) else s ∷ lasts_before s.time (newer ++ last ∷ older)) ≡ (if b then lasts_before now newer else s ∷ lasts_before s.time newer) ++ last ∷ lasts_before last.time older
    at true here there = here
    at false here there = ap (λ ss. s ∷ ss) there

-- those of later snapshots come first
pub lasts_split : (newer : List Snapshot) (last : Snapshot) (older : List Snapshot) → All (IsAfter last.time) newer → lasts (newer ++ last ∷ older) ≡ lasts newer ++ last ∷ lasts_before last.time older
lasts_split [] last older after = refl
lasts_split (s ∷ newer) last older after = ap (λ ss. s ∷ ss) (split_before s.time newer last older (All-head (IsAfter last.time) s newer after) (All-tail (IsAfter last.time) s newer after))

-- none is after the first
pub up_to : (time : ℕ) (ss : List Snapshot) → DontFall time ss → All (IsUpTo time) ss
up_to time [] falls = All-nil (IsUpTo time)
up_to time (s ∷ ss) falls = All-cons (IsUpTo time) s ss falls.0 (up_to time ss (later_falls s.time time ss falls.0 falls.1))
