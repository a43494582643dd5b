-- Texts that grow piece by piece, and stage by stage.
use Rattle.std.proofs.Common.{◌≡◌, ◌∙◌, sym, ap, ℕ, suc, ◌+◌, ◌-◌, ◌<◌, ◌≤◌, List, ◌++◌, append_assoc, flat_map, arith}
use Rattle.std.proofs.lemmas.List.{append-nil}
use Rattle.std.specs.List.{range_with_len}

-- texts are added, one after the other
add_two : {t u : List ℕ} (start a b : List ℕ) → t ≡ start ++ a → u ≡ t ++ b → u ≡ start ++ (a ++ b)
add_two start a b p q = q ∙ (ap (λ t. t ++ b) p ∙ append_assoc start a b)

add_four : {t u v w : List ℕ} (start a b c d : List ℕ) → t ≡ start ++ a → u ≡ t ++ b → v ≡ u ++ c → w ≡ v ++ d → w ≡ start ++ (a ++ b ++ c ++ d)
add_four start a b c d p q r s = add_two start (a ++ b ++ c) d (add_two start (a ++ b) c (add_two start a b p q) r) s

pub add_seven : {t u v w x y z : List ℕ} (start a b c d e f g : List ℕ) → t ≡ start ++ a → u ≡ t ++ b → v ≡ u ++ c → w ≡ v ++ d → x ≡ w ++ e → y ≡ x ++ f → z ≡ y ++ g
    → z ≡ start ++ (a ++ b ++ c ++ d ++ e ++ f ++ g)
add_seven start a b c d e f g p q r s k l m = add_four start (a ++ b ++ c ++ d) e f g (add_four start a b c d p q r s) k l m

-- before the first of n stages
pub all_stages : (f : ℕ → List ℕ) (text : List ℕ) (n : ℕ) → text ++ flat_map f (range_with_len 1 (n + 1 - 1)) ≡ text ++ flat_map f (range_with_len 1 n)
all_stages f text n = let e : n + 1 - 1 ≡ n = omega arith in ap (λ k. text ++ flat_map f (range_with_len 1 k)) e

-- a text that the stages from the i-th on complete is so after one more
pub next_stage : (f : ℕ → List ℕ) (text more whole : List ℕ) (n i : ℕ) → i < n + 1 → more ≡ text ++ f i
    → text ++ flat_map f (range_with_len i (n + 1 - i)) ≡ whole → more ++ flat_map f (range_with_len (i + 1) (n + 1 - (i + 1))) ≡ whole
next_stage f text more whole n i l e h =
    let k : n + 1 - i ≡ suc (n + 1 - (i + 1)) = omega arith in
    ap (λ t. t ++ flat_map f (range_with_len (i + 1) (n + 1 - (i + 1)))) e
    ∙ (append_assoc text (f i) (flat_map f (range_with_len (i + 1) (n + 1 - (i + 1))))
    ∙ (ap (λ m. text ++ flat_map f (range_with_len i m)) (sym k) ∙ h))

-- no stage is left
pub no_stage : (f : ℕ → List ℕ) (text whole : List ℕ) (n i : ℕ) → n + 1 ≤ i → text ++ flat_map f (range_with_len i (n + 1 - i)) ≡ whole → text ≡ whole
no_stage f text whole n i l h =
    let k : n + 1 - i ≡ 0 = omega arith in
    sym (append-nil text) ∙ (ap (λ m. text ++ flat_map f (range_with_len i m)) (sym k) ∙ h)

-- the last stage
pub last_stage : (f : ℕ → List ℕ) (text more whole : List ℕ) (n i : ℕ) → i < n + 1 → n ≤ i → more ≡ text ++ f i
    → text ++ flat_map f (range_with_len i (n + 1 - i)) ≡ whole → more ≡ whole
last_stage f text more whole n i l k e h = no_stage f more whole n (i + 1) (omega (arith, k)) (next_stage f text more whole n i l e h)
