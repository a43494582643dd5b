-- What is added for the transitions of a timing, and for a path with its condition.
use Rattle.std.proofs.Common.{◌≡◌, ℕ, ◌+◌, ◌<◌, ◌≤◌, List, [], ◌∷◌, ◌++◌, length, take, get_or, refl, sym, ◌∙◌, ap, arith, append_assoc, append-nil}
use Rattle.std.specs.Prelude.{map, flat_map, zero, suc, Result, Ok, Err, OnOk}
use Rattle.std.proofs.lemmas.List.{take_more, take_all, map-append}
use Rattle.std.proofs.lemmas.Grind.{flat_map-append}
use Rattle.sg_delay.specs.declared.limits.Limit.{Limit}
use Rattle.sg_circuit.specs.Timings.{Timing, limits_or}
use Rattle.sg_circuit.specs.TimingsSeen.{limit_seen, timings_of}
use Rattle.sdf_tree.specs.Written.{PathCondition, always, otherwise, if_words}
use Rattle.written_model.specs.Entries.{Numbers, numbers_of}
use Rattle.written_text.specs.Page.{before_path, behind_path}
use Rattle.written_model.specs.Text.{delay_text, line, under_condition}

timings-length : (ds : List ℕ) (ls : List Limit) → length ds ≡ length ls → length (timings_of ds ls) ≡ length ds
timings-length [] ls e = refl
timings-length (d ∷ ds) [] e = absurd (omega (arith, e))
timings-length (d ∷ ds) (l ∷ ls) e = ap suc (timings-length ds ls (omega (arith, e)))

timings-at : (ds : List ℕ) (ls : List Limit) (i : ℕ) (l : Limit) (t : Timing) → i < length ds → i < length ls → get_or (timings_of ds ls) i t ≡ record { delay = get_or ds i 0; limits = limit_seen (get_or ls i l) }
timings-at [] ls i l t m n = absurd (omega (arith, m))
timings-at (d ∷ ds) [] i l t m n = absurd (omega (arith, n))
timings-at (d ∷ ds) (k ∷ ls) zero l t m n = refl
timings-at (d ∷ ds) (k ∷ ls) (suc i) l t m n = timings-at ds ls i l t (omega (arith, m)) (omega (arith, n))

pub each_more : (ds : List ℕ) (ls : List Limit) (i : ℕ) (l : Limit) (lim : ℕ × ℕ) (start text new : List ℕ) → length ds ≡ 12 → length ls ≡ 12 → i < 12 → lim ≡ limits_or (get_or ds i 0) (limit_seen (get_or ls i l))
    → text ≡ start ++ flat_map delay_text (map numbers_of (take i (timings_of ds ls))) → new ≡ text ++ delay_text (record { delay = get_or ds i 0; reject = lim.0; error = lim.1 })
    → new ≡ start ++ flat_map delay_text (map numbers_of (take (i + 1) (timings_of ds ls)))
each_more ds ls i l lim start text new m n k is h more =
    let T = timings_of ds ls in
    let t : Timing = record { delay = get_or ds i 0; limits = limit_seen (get_or ls i l) } in
    let long : length T ≡ length ds = timings-length ds ls (m ∙ sym n) in
    let here : get_or T i t ≡ t = timings-at ds ls i l t (omega (arith, k, m)) (omega (arith, k, n)) in
    let last : numbers_of t ≡ record { delay = get_or ds i 0; reject = lim.0; error = lim.1 } =
    ap {B = Numbers} (λ (q : ℕ × ℕ). record { delay = get_or ds i 0; reject = q.0; error = q.1 }) (sym is) in
    let taken : take (i + 1) T ≡ take i T ++ t ∷ [] = take_more T i t (omega (arith, k, m, long)) ∙ ap (λ x. take i T ++ x ∷ []) here in
    let mapped : map numbers_of (take (i + 1) T) ≡ map numbers_of (take i T) ++ numbers_of t ∷ [] = ap (λ xs. map numbers_of xs) taken ∙ map-append numbers_of (take i T) (t ∷ []) in
    let flat : flat_map delay_text (map numbers_of (take (i + 1) T)) ≡ flat_map delay_text (map numbers_of (take i T)) ++ delay_text (numbers_of t) =
    ap (λ xs. flat_map delay_text xs) mapped ∙ (flat_map-append delay_text (map numbers_of (take i T)) (numbers_of t ∷ []) ∙ ap (λ y. flat_map delay_text (map numbers_of (take i T)) ++ y) (append-nil (delay_text (numbers_of t)))) in
    more ∙ (ap (λ x. x ++ delay_text (record { delay = get_or ds i 0; reject = lim.0; error = lim.1 })) h
    ∙ (append_assoc start (flat_map delay_text (map numbers_of (take i T))) (delay_text (record { delay = get_or ds i 0; reject = lim.0; error = lim.1 }))
    ∙ ap (λ y. start ++ y) (ap (λ x. flat_map delay_text (map numbers_of (take i T)) ++ delay_text x) (sym last) ∙ sym flat)))

pub each_end : (ds : List ℕ) (ls : List Limit) (i : ℕ) (start text : List ℕ) → length ds ≡ 12 → length ls ≡ 12 → 12 ≤ i → text ≡ start ++ flat_map delay_text (map numbers_of (take i (timings_of ds ls)))
    → text ≡ start ++ flat_map delay_text (map numbers_of (timings_of ds ls))
each_end ds ls i start text m n k h =
    let long : length (timings_of ds ls) ≡ length ds = timings-length ds ls (m ∙ sym n) in
    h ∙ ap (λ ts. start ++ flat_map delay_text (map numbers_of ts)) (take_all i (timings_of ds ls) (omega (arith, k, m, long)))

pub path_added : {E : Type 0} (r : Result Unit E) (condition : PathCondition) (path text first second third : List ℕ) → first ≡ text ++ before_path condition → second ≡ first ++ path → OnOk r (third ≡ second ++ behind_path condition)
    → OnOk r (third ≡ text ++ line (under_condition condition path))
path_added (Err e) condition path text first second third a b d = tt
path_added (Ok x) condition path text first second third a b d = d ∙ (ap (λ t. t ++ behind_path condition) (b ∙ ap (λ t. t ++ path) a) ∙ by condition)
  where
    by : (condition : PathCondition) → ((text ++ before_path condition) ++ path) ++ behind_path condition ≡ text ++ line (under_condition condition path)
    by always = ap (λ t. (t ++ path) ++ 10 ∷ []) (append-nil text) ∙ append_assoc text path (10 ∷ [])
    by (if_words words) = grind (arith, append_assoc)
    by otherwise = grind (arith, append_assoc)
