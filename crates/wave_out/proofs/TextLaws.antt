-- Texts that grow piece by piece.
use Rattle.std.proofs.Common.{◌≡◌, ◌∙◌, sym, ap, ℕ, suc, ◌+◌, ◌<◌, List, [], ◌∷◌, ◌++◌, length, drop, flat_map, get_or, map, take, append_assoc}
use Rattle.std.proofs.lemmas.List.{append-nil, drop_more, get_or-map, length-map, map_more}
use Rattle.std.proofs.lemmas.List.Concat.{flat_map-append}
use Rattle.std.specs.Prelude.{codes}
use Rattle.wave_out.specs.Texts.{line, by_number}

-- texts are added, one after the other
pub add_two : {t u : List ℕ} (start a b : List ℕ) → t ≡ start ++ a → u ≡ t ++ b → u ≡ start ++ (a ++ b)
add_two start a b p q = q ∙ (ap (λ t. t ++ b) p ∙ append_assoc start a b)

pub add_three : {t u v : List ℕ} (start a b c : List ℕ) → t ≡ start ++ a → u ≡ t ++ b → v ≡ u ++ c → v ≡ start ++ (a ++ b ++ c)
add_three start a b c p q r = add_two start (a ++ b) c (add_two start a b p q) r

pub add_four : {t u v w : List ℕ} (start a b c d : List ℕ) → t ≡ start ++ a → u ≡ t ++ b → v ≡ u ++ c → w ≡ v ++ d → w ≡ start ++ (a ++ b ++ c ++ d)
add_four start a b c d p q r s = add_two start (a ++ b ++ c) d (add_three start a b c p q r) s

pub add_five : {t u v w x : List ℕ} (start a b c d e : List ℕ) → t ≡ start ++ a → u ≡ t ++ b → v ≡ u ++ c → w ≡ v ++ d → x ≡ w ++ e
    → x ≡ start ++ (a ++ b ++ c ++ d ++ e)
add_five start a b c d e p q r s last = add_two start (a ++ b ++ c ++ d) e (add_four start a b c d p q r s) last

pub add_six : {t u v w x y : List ℕ} (start a b c d e f : List ℕ) → t ≡ start ++ a → u ≡ t ++ b → v ≡ u ++ c → w ≡ v ++ d → x ≡ w ++ e → y ≡ x ++ f
    → y ≡ start ++ (a ++ b ++ c ++ d ++ e ++ f)
add_six start a b c d e f p q r s k l = add_two start (a ++ b ++ c ++ d ++ e) f (add_five start a b c d e p q r s k) l

pub add_eight : {t u v w x y z last : List ℕ} (start a b c d e f g h : List ℕ) → t ≡ start ++ a → u ≡ t ++ b → v ≡ u ++ c → w ≡ v ++ d → x ≡ w ++ e → y ≡ x ++ f → z ≡ y ++ g → last ≡ z ++ h
    → last ≡ start ++ (a ++ b ++ c ++ d ++ e ++ f ++ g ++ h)
add_eight start a b c d e f g h p q r s k l m n = add_five start (a ++ b ++ c ++ d) e f g h (add_four start a b c d p q r s) k l m n

-- a line that ends with the word of an end
pub line_end : (text : List ℕ) → line (text ++ codes " $end") ≡ text ++ codes " $end\n"
line_end text = append_assoc text (codes " $end") (10 ∷ [])

-- a text that the texts of the things from the i-th on complete, which are numbered from j, is so after one more
pub numbered_step : {A : Type 0} (f : ℕ → A → List ℕ) (text more whole : List ℕ) (xs : List A) (i j j' : ℕ) (x d : A) → i < length xs → j' ≡ suc j → x ≡ get_or xs i d
    → more ≡ text ++ f j x → text ++ by_number f j (drop i xs) ≡ whole → more ++ by_number f j' (drop (i + 1) xs) ≡ whole
numbered_step f text more whole xs i j j' x d l n is line e =
    ap (λ t. t ++ by_number f j' (drop (i + 1) xs)) (line ∙ ap (λ y. text ++ f j y) is)
    ∙ (append_assoc text (f j (get_or xs i d)) (by_number f j' (drop (i + 1) xs))
    ∙ (ap (λ m. text ++ (f j (get_or xs i d) ++ by_number f m (drop (i + 1) xs))) n
    ∙ (ap (λ ys. text ++ by_number f j ys) (sym (drop_more xs i d l)) ∙ e)))

-- the same of things that are seen otherwise in the code
pub numbered_next : {A C : Type 0} (f : ℕ → A → List ℕ) (g : C → A) (text more whole : List ℕ) (xs : List C) (i j j' : ℕ) (x : C) → i < length xs → j' ≡ suc j → x ≡ get_or xs i x
    → more ≡ text ++ f j (g x) → text ++ by_number f j (drop i (map g xs)) ≡ whole → more ++ by_number f j' (drop (i + 1) (map g xs)) ≡ whole
numbered_next f g text more whole xs i j j' x l n is line e =
    numbered_step f text more whole (map g xs) i j j' (g x) (g x) (simp length-map l) n (ap g is ∙ sym (get_or-map g xs i x (g x) l)) line e

-- the lines of the things up to the i-th, and that one's
pub line_more : {A B : Type 0} (f : B → List ℕ) (g : A → B) (start text more : List ℕ) (xs : List A) (i : ℕ) (x : A) → i < length xs → x ≡ get_or xs i x
    → text ≡ start ++ flat_map f (map g (take i xs)) → more ≡ text ++ f (g x) → more ≡ start ++ flat_map f (map g (take (i + 1) xs))
line_more f g start text more xs i x l is before line =
    line ∙ (ap (λ t. t ++ f (g x)) before ∙ (append_assoc start (flat_map f (map g (take i xs))) (f (g x)) ∙ ap (λ t. start ++ t) (sym all)))
  where
    all : flat_map f (map g (take (i + 1) xs)) ≡ flat_map f (map g (take i xs)) ++ f (g x)
    all =
        ap (flat_map f) (map_more g xs i x l)
        ∙ (flat_map-append f (map g (take i xs)) (g (get_or xs i x) ∷ [])
        ∙ ap (λ t. flat_map f (map g (take i xs)) ++ t) (append-nil (f (g (get_or xs i x))) ∙ ap (λ y. f (g y)) (sym is)))
