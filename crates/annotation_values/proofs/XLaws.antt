-- The transitions to and from x.
use Rattle.std.specs.Prelude.{◌≡◌, refl, ℕ, zero, suc, ◌≤◌, Bool, List, [], ◌∷◌, length, map, ◌||◌, slice_index_or, if◌then◌else◌}
use Rattle.std.specs.List.{list_any}
use Rattle.std.proofs.Common.{ap, arith, ◌∙◌}
use Rattle.sg_delay.specs.declared.limits.Limit.{Limit}
use Rattle.sg_circuit.specs.Timings.{Timing}
use Rattle.sg_circuit.specs.TimingsSeen.{timings_of}
use Rattle.annotation_model.specs.Applied.{lesser, greater, with_x}

-- the twelve by what stands between 0, 1 and z
abbrev twelve : Timing → Timing → Timing → Timing → Timing → Timing → List Timing
twelve t01 t10 t0z tz1 t1z tz0 =
    t01 ∷ t10 ∷ t0z ∷ tz1 ∷ t1z ∷ tz0 ∷ lesser t0z t01 ∷ greater tz1 t01 ∷ lesser t1z t10 ∷ greater tz0 t10 ∷ greater t1z t0z ∷ lesser tz1 tz0 ∷ []

twelve_is : (a b c d e f a' b' c' d' e' f' : Timing) → a ≡ a' → b ≡ b' → c ≡ c' → d ≡ d' → e ≡ e' → f ≡ f' → twelve a b c d e f ≡ twelve a' b' c' d' e' f'
twelve_is a b c d e f a' b' c' d' e' f' p q r s t u =
    ap (λ x. twelve x b c d e f) p ∙ (ap (λ x. twelve a' x c d e f) q ∙ (ap (λ x. twelve a' b' x d e f) r
    ∙ (ap (λ x. twelve a' b' c' x e f) s ∙ (ap (λ x. twelve a' b' c' d' x f) t ∙ ap (λ x. twelve a' b' c' d' e' x) u))))

six_front : (ts : List Timing) (t : Timing) → 6 ≤ length ts
    → twelve (slice_index_or ts 0 t) (slice_index_or ts 1 t) (slice_index_or ts 2 t) (slice_index_or ts 3 t) (slice_index_or ts 4 t) (slice_index_or ts 5 t) ≡ with_x ts
six_front [] t l = absurd (omega arith)
six_front (a ∷ []) t l = absurd (omega arith)
six_front (a ∷ b ∷ []) t l = absurd (omega arith)
six_front (a ∷ b ∷ c ∷ []) t l = absurd (omega arith)
six_front (a ∷ b ∷ c ∷ d ∷ []) t l = absurd (omega arith)
six_front (a ∷ b ∷ c ∷ d ∷ e ∷ []) t l = absurd (omega arith)
six_front (a ∷ b ∷ c ∷ d ∷ e ∷ f ∷ ts) t l = refl

-- those to and from x, where each is what it is to be
last_six : (a b c d e f u v w x y z u' v' w' x' y' z' : Timing) → u ≡ u' → v ≡ v' → w ≡ w' → x ≡ x' → y ≡ y' → z ≡ z'
    → (a ∷ b ∷ c ∷ d ∷ e ∷ f ∷ u ∷ v ∷ w ∷ x ∷ y ∷ z ∷ []) ≡ (a ∷ b ∷ c ∷ d ∷ e ∷ f ∷ u' ∷ v' ∷ w' ∷ x' ∷ y' ∷ z' ∷ [])
last_six a b c d e f u v w x y z u' v' w' x' y' z' p q r s t o = cc

pub x_anew : (ts : List Timing) (t a b c d e f u v w x y z : Timing) → 6 ≤ length ts
    → a ≡ slice_index_or ts 0 t → b ≡ slice_index_or ts 1 t → c ≡ slice_index_or ts 2 t → d ≡ slice_index_or ts 3 t → e ≡ slice_index_or ts 4 t → f ≡ slice_index_or ts 5 t
    → u ≡ lesser c a → v ≡ greater d a → w ≡ lesser e b → x ≡ greater f b → y ≡ greater e c → z ≡ lesser d f
    → (a ∷ b ∷ c ∷ d ∷ e ∷ f ∷ u ∷ v ∷ w ∷ x ∷ y ∷ z ∷ []) ≡ with_x ts
x_anew ts t a b c d e f u v w x y z l ea eb ec ed ee ef eu ev ew ex ey ez =
    last_six a b c d e f u v w x y z (lesser c a) (greater d a) (lesser e b) (greater f b) (greater e c) (lesser d f) eu ev ew ex ey ez
    ∙ (twelve_is a b c d e f (slice_index_or ts 0 t) (slice_index_or ts 1 t) (slice_index_or ts 2 t) (slice_index_or ts 3 t) (slice_index_or ts 4 t) (slice_index_or ts 5 t) ea eb ec ed ee ef
    ∙ six_front ts t l)

pub x_wanted : (w v : Bool) (r t u : List Timing) → r ≡ (if w then with_x t else t) → w ≡ v → t ≡ u → r ≡ (if v then with_x u else u)
x_wanted w v r t u e p q = e ∙ (ap (λ b. if b then with_x t else t) p ∙ ap (λ ts. if v then with_x ts else ts) q)

pub length_at_least : (n : ℕ) (ds : List ℕ) (ls : List Limit) → n ≤ length ds → n ≤ length ls → n ≤ length (timings_of ds ls)
length_at_least n [] ls l m = l
length_at_least n (d ∷ ds) [] l m = m
length_at_least zero (d ∷ ds) (x ∷ ls) l m = omega arith
length_at_least (suc n) (d ∷ ds) (x ∷ ls) l m = let h : n ≤ length (timings_of ds ls) = length_at_least n ds ls (omega arith) (omega arith) in omega arith

pub any-map : {A B : Type 0} (p : B → Bool) (f : A → B) (xs : List A) → list_any p (map f xs) ≡ list_any (λ x. p (f x)) xs
any-map p f [] = refl
any-map p f (x ∷ xs) = ap (λ b. p (f x) || b) (any-map p f xs)
