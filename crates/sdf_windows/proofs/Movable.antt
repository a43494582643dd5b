-- Each way of building a language from others keeps it movable.
use Rattle.std.proofs.Common.{◌≡◌, ℕ, suc, ◌+◌, Bool, true, false, List, [], ◌∷◌, ◌++◌, length, Option, Some, None, ap, arith, ◌∙◌, inl, inr}
use Rattle.std.specs.Prelude.{slice_get}
use Rattle.grammar.specs.Language.{Language, one_token, sequence, image, choice, no_language, guarded, SpellsOptional, at_most_once, SpellsMany, repetition}
use Rattle.grammar.specs.Placed.{with_place}
use Rattle.grammar.specs.States.{SpellsBy, repetition_by}
use Rattle.sdf_windows.specs.Movable.{IsMovable}

pub behind_front : {T : Type 0} (front ts : List T) (i : ℕ) → slice_get (front ++ ts) (length front + i) ≡ slice_get ts i
behind_front [] ts i = ap (slice_get ts) (let e : 0 + i ≡ i = omega arith in e)
behind_front (t ∷ front) ts i = let e : length (t ∷ front) + i ≡ suc (length front + i) = omega arith in rw e (behind_front front ts i)

pub token_moves : {T : Type 0} (is : T → Bool) → IsMovable (one_token is)
token_moves is = record { moved = λ front ts i t j s. (behind_front front ts i ∙ s.0, s.1, omega (arith, s.2)) }

pub image_moves : {T A B : Type 0} {a : Language T A} (f : A → B) → IsMovable a → IsMovable (image f a)
image_moves f ma = record { moved = λ front ts i y j s. (s.0, s.1, ma.moved front ts i s.0 j s.2) }

pub sequence_moves : {T A B : Type 0} {a : Language T A} {b : Language T B} → IsMovable a → IsMovable b → IsMovable (sequence a b)
sequence_moves ma mb = record { moved = λ front ts i x j s. (length front + s.0, ma.moved front ts i x.0 s.0 s.1, mb.moved front ts s.0 x.1 j s.2) }

pub choice_moves : {T A : Type 0} {a b : Language T A} → IsMovable a → IsMovable b → IsMovable (choice a b)
choice_moves ma mb = record {
  moved = λ front ts i x j s. elim s [ inl u ↦ inl (ma.moved front ts i x j u) | inr u ↦ inr (mb.moved front ts i x j u) ];
}

pub none_moves : {T A : Type 0} → IsMovable (no_language {T = T} {A = A})
none_moves = record { moved = λ front ts i x j s. s }

pub guarded_moves : {T A : Type 0} {a : Language T A} (b : Bool) → IsMovable a → IsMovable (guarded b a)
guarded_moves true ma = ma
guarded_moves false ma = none_moves

moved_option : {T A : Type 0} (a : Language T A) → IsMovable a → (front ts : List T) (i : ℕ) (o : Option A) (j : ℕ) → SpellsOptional a ts i o j → SpellsOptional a (front ++ ts) (length front + i) o (length front + j)
moved_option a ma front ts i None j s = ap (λ (n : ℕ). length front + n) s
moved_option a ma front ts i (Some x) j s = ma.moved front ts i x j s

pub optional_moves : {T A : Type 0} {a : Language T A} → IsMovable a → IsMovable (at_most_once a)
optional_moves ma = record { moved = moved_option _ ma }

moved_many : {T A : Type 0} (a : Language T A) → IsMovable a → (front ts : List T) (i : ℕ) (xs : List A) (j : ℕ) → SpellsMany a ts i xs j → SpellsMany a (front ++ ts) (length front + i) xs (length front + j)
moved_many a ma front ts i [] j s = ap (λ (n : ℕ). length front + n) s
moved_many a ma front ts i (x ∷ xs) j s = (length front + s.0, ma.moved front ts i x s.0 s.1, moved_many a ma front ts s.0 xs j s.2)

pub repetition_moves : {T A : Type 0} {a : Language T A} → IsMovable a → IsMovable (repetition a)
repetition_moves ma = record { moved = moved_many _ ma }

moved_by : {T A S : Type 0} (part : S → Language T A) (next : S → A → S) → ((s : S) → IsMovable (part s)) → (front ts : List T) (s : S) (i : ℕ) (xs : List A) (j : ℕ)
    → SpellsBy part next ts s i xs j → SpellsBy part next (front ++ ts) s (length front + i) xs (length front + j)
moved_by part next mp front ts s i [] j h = ap (λ (n : ℕ). length front + n) h
moved_by part next mp front ts s i (x ∷ xs) j h = (length front + h.0, (mp s).moved front ts i x h.0 h.1, moved_by part next mp front ts (next s x) h.0 xs j h.2)

pub by_state_moves : {T A S : Type 0} (part : S → Language T A) (next : S → A → S) (ends : S → Bool) → ((s : S) → IsMovable (part s)) → (s : S) → IsMovable (repetition_by part next ends s)
by_state_moves part next ends mp s = record { moved = λ front ts i xs j h. (moved_by part next mp front ts s i xs j h.0, h.1) }

pub place_moves : {T A P : Type 0} {a : Language T A} (place : T → P) → IsMovable a → IsMovable (with_place place a)
place_moves place ma = record { moved = λ front ts i x j s. (s.0, behind_front front ts i ∙ s.1, s.2, ma.moved front ts i x.1 j s.3) }
