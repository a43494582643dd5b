-- What tokens spell that are put together of parts.
use Rattle.std.proofs.Common.{◌≡◌, ℕ, zero, suc, ◌+◌, ◌<◌, Bool, true, List, [], ◌∷◌, ◌++◌, length, refl, sym, subst, arith, ◌∙◌}
use Rattle.std.specs.Prelude.{slice_get}
use Rattle.std.proofs.lemmas.List.{length-append}
use Rattle.grammar.specs.Exact.{Exact, Agree}
use Rattle.grammar.specs.Language.{Language, SpellsMany}
use Rattle.grammar.specs.Rule.{Rule, ◌∙∙◌, ◌▸◌, ◌◂◌, one, quoted, many}
use Rattle.grammar.specs.Placed.{placed}
use Rattle.grammar.specs.States.{state_after, SpellsBy, many_by}
use Rattle.sdf_windows.specs.Movable.{Moves, Says}

-- the tokens of a front
front_get : {T : Type 0} (ts us : List T) (n : ℕ) → n < length ts → slice_get (ts ++ us) n ≡ slice_get ts n
front_get [] us n h = absurd (omega arith)
front_get (t ∷ ts) us zero h = refl
front_get (t ∷ ts) us (suc n) h = front_get ts us n (omega arith)

front_agrees : {T : Type 0} (ts us : List T) → Agree ts (ts ++ us) 0 (length ts)
front_agrees ts us n lo hi = front_get ts us n hi

many_then : {T A : Type 0} (l : Language T A) (ts : List T) (i : ℕ) (xs : List A) (x : A) (m j : ℕ) → SpellsMany l ts i xs m → l.Spells ts m x j → SpellsMany l ts i (xs ++ x ∷ []) j
many_then l ts i [] x m j s t = (j, subst (λ (n : ℕ). l.Spells ts n x j) s t, refl)
many_then l ts i (y ∷ ys) x m j s t = (s.0, s.1, many_then l ts s.0 ys x m j s.2 t)

by_then : {T A S : Type 0} (part : S → Language T A) (next : S → A → S) (ts : List T) (s : S) (i : ℕ) (xs : List A) (x : A) (m j : ℕ)
    → SpellsBy part next ts s i xs m → (part (state_after next s xs)).Spells ts m x j → SpellsBy part next ts s i (xs ++ x ∷ []) j
by_then part next ts s i [] x m j h t = (j, subst (λ (n : ℕ). (part s).Spells ts n x j) h t, refl)
by_then part next ts s i (y ∷ ys) x m j h t = (h.0, h.1, by_then part next ts (next s y) h.0 ys x m j h.2 t)

-- what a front spells, and what stands behind it
module _ {T K : Type 0} (kind : T → K) where
  pub in_front : {A : Type 0} {r : Rule T K A} → Exact kind r → (ts us : List T) (x : A) → Says r ts x → r.language.Spells (ts ++ us) 0 x (length ts)
  in_front er ts us x s = er.spells_alone ts (ts ++ us) 0 x (length ts) (front_agrees ts us) s

pub at_end : {T K A : Type 0} {r : Rule T K A} → Moves r → (ts us : List T) (x : A) → Says r us x → r.language.Spells (ts ++ us) (length ts) x (length (ts ++ us))
at_end {r} mr ts us x s =
    let there = mr.movable.moved ts us 0 x (length us) s in
    let start : length ts + 0 ≡ length ts = omega arith in
    let size : length ts + length us ≡ length (ts ++ us) = sym (length-append ts us) in
    subst (λ (n : ℕ). r.language.Spells (ts ++ us) (length ts) x n) size (subst (λ (m : ℕ). r.language.Spells (ts ++ us) m x (length ts + length us)) start there)

module _ {T K : Type 0} (kind : T → K) where
  -- one behind the other
  pub joined : {A B : Type 0} {a : Rule T K A} {b : Rule T K B} → Exact kind a → Moves b → (ts us : List T) (x : A) (y : B) → Says a ts x → Says b us y → Says (a ∙∙ b) (ts ++ us) (x, y)
  joined ea mb ts us x y s t = (length ts, in_front kind ea ts us x s, at_end mb ts us y t)

  pub joined_behind : {A B : Type 0} {a : Rule T K A} {b : Rule T K B} → Exact kind a → Moves b → (ts us : List T) (x : A) (y : B) → Says a ts x → Says b us y → Says (a ▸ b) (ts ++ us) y
  joined_behind ea mb ts us x y s t = ((x, y), refl, joined ea mb ts us x y s t)

  pub joined_before : {A B : Type 0} {a : Rule T K A} {b : Rule T K B} → Exact kind a → Moves b → (ts us : List T) (x : A) (y : B) → Says a ts x → Says b us y → Says (a ◂ b) (ts ++ us) x
  joined_before ea mb ts us x y s t = ((x, y), refl, joined ea mb ts us x y s t)

  -- a token alone
  pub token_says : (is : K → Bool) (t : T) → is (kind t) ≡ true → Says (one kind is) (t ∷ []) t
  token_says is t h = (refl, h, refl)

  pub mark_says : (is : K → Bool) (t : T) → is (kind t) ≡ true → Says (quoted kind is) (t ∷ []) tt
  mark_says is t h = (t, refl, token_says is t h)

  -- none, and one more at the end
  pub none_says : {A : Type 0} (a : Rule T K A) → Says (many kind a) [] []
  none_says a = refl

  pub more_says : {A : Type 0} {a : Rule T K A} → Exact kind (many kind a) → Moves a → (ts us : List T) (xs : List A) (x : A) → Says (many kind a) ts xs → Says a us x → Says (many kind a) (ts ++ us) (xs ++ x ∷ [])
  more_says {a} em ma ts us xs x s t = many_then a.language (ts ++ us) 0 xs x (length ts) (length (ts ++ us)) (in_front kind em ts us xs s) (at_end ma ts us x t)

  -- the same where a state says what comes next
  pub none_by : {A S : Type 0} (part : S → Rule T K A) (next : S → A → S) (s : S) → SpellsBy (λ s. (part s).language) next [] s 0 [] 0
  none_by part next s = refl

  pub more_by : {A S : Type 0} (part : S → Rule T K A) (next : S → A → S) (s : S) (continues : K → Bool) → Exact kind (many_by kind continues part next (λ _. true) s) → ((s : S) → Moves (part s))
      → (ts us : List T) (xs : List A) (x : A) → SpellsBy (λ s. (part s).language) next ts s 0 xs (length ts) → Says (part (state_after next s xs)) us x
      → SpellsBy (λ s. (part s).language) next (ts ++ us) s 0 (xs ++ x ∷ []) (length (ts ++ us))
  more_by part next s continues em mp ts us xs x h t =
      by_then (λ s. (part s).language) next (ts ++ us) s 0 xs x (length ts) (length (ts ++ us)) (em.spells_alone ts (ts ++ us) 0 xs (length ts) (front_agrees ts us) (h, refl)).0 (at_end (mp (state_after next s xs)) ts us x t)

  -- a part with the place of its first token
  pub placed_says : {A P : Type 0} (place : T → P) (a : Rule T K A) (t : T) (ts : List T) (x : A) → Says a (t ∷ ts) x → Says (placed place a) (t ∷ ts) (place t, x)
  placed_says place a t ts x s = (t, refl, refl, s)
