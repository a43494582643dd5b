-- The last set of each net, from the back.
use Rattle.std.proofs.Common.{inl, inr, ℕ, ◌≡◌, ◌++◌, ◌==◌, ◌||◌, List, [], ◌∷◌, length, map, drop, reverse, Bool, true, false, not, nat_eq, refl, sym, ap, ◌∙◌}
use Rattle.std.specs.Prelude.{if◌then◌else◌}
use Rattle.std.proofs.lemmas.Bool.{cases_Bool, eqb-true, eqb-false, eq-eqb, ne_eqb}
use Rattle.std.proofs.lemmas.List.{append-nil, map-append, reverse-append}
use Rattle.std.proofs.lemmas.List.Folds.{list_any-append}
use Rattle.indexmap.specs.IndexSet.{insert_key}
use Rattle.sg_logic.specs.declared.values.Value.{Value}
use Rattle.sg_stimulus.specs.declared.steps.Set as code_bit
use Rattle.sg_stimulus.specs.Seen.{set_seen as bit_seen}
use Rattle.stim_read.specs.Inputs.{is_set, last_of_each}
use Rattle.stim_read.specs.Meant.{is_seen, unless_seen}
use Rattle.stim_read.proofs.SetLaws.{nothing-behind, all-before, one-behind, still-whole}

map-turned : (xs : List code_bit.Set) → map (λ x. bit_seen x) (reverse xs) ≡ reverse (map (λ x. bit_seen x) xs)
map-turned [] = refl
map-turned (x ∷ xs) =
    ap (map (λ y. bit_seen y)) (reverse-append (x ∷ []) xs) ∙ map-append (λ y. bit_seen y) (reverse xs) (x ∷ []) ∙ ap (λ l. l ++ bit_seen x ∷ []) (map-turned xs)
    ∙ sym (reverse-append (bit_seen x ∷ []) (map (λ y. bit_seen y) xs))

same-turned : (m n : ℕ) → nat_eq m n ≡ (n == m)
same-turned m n = elim (cases_Bool (n == m)) [
  | inl y ↦ rw y (eq-eqb m n (sym (eqb-true n m y)))
  | inr off ↦ rw off (ne_eqb m n (λ e. eqb-false n m off (sym e)))
]

or-turned : (a b : Bool) → (a || (b || false)) ≡ (b || a)
or-turned true true = refl
or-turned true false = refl
or-turned false true = refl
or-turned false false = refl

seen-again : (keys : List ℕ) (v n : ℕ) → is_seen v keys ≡ true → is_seen n keys ≡ ((v == n) || is_seen n keys)
seen-again keys v n y = elim (cases_Bool (v == n)) [
  | inl e ↦ rw e (ap (λ m. is_seen m keys) (sym (eqb-true v n e)) ∙ y)
  | inr off ↦ rw off refl
]

seen-first : (keys : List ℕ) (v n : ℕ) → is_seen n (keys ++ v ∷ []) ≡ ((v == n) || is_seen n keys)
seen-first keys v n =
    list_any-append (λ k. nat_eq n k) keys (v ∷ []) ∙ ap (λ b. is_seen n keys || (b || false)) (same-turned n v) ∙ or-turned (is_seen n keys) (v == n)

-- what was seen with one net more
pub seen-more : (new old : List ℕ) (v n : ℕ) → new ≡ insert_key nat_eq old v → is_seen n new ≡ ((v == n) || is_seen n old)
seen-more new old v n e = ap (is_seen n) e ∙ by (is_seen v old) refl
  where
    by : (b : Bool) → is_seen v old ≡ b → is_seen n (if is_seen v old then old else old ++ v ∷ []) ≡ ((v == n) || is_seen n old)
    by true y = rw y (seen-again old v n y)
    by false off = rw off (seen-first old v n)

-- the set that is kept, if its net wasn't seen
pub kept-new : (new old : List code_bit.Set) (c : code_bit.Set) (keys : List ℕ) (added : Bool) → new ≡ old ++ c ∷ [] → added ≡ not (is_seen c.net keys) → added ≡ true
    → map (λ x. bit_seen x) new ≡ map (λ x. bit_seen x) old ++ unless_seen (is_seen c.net keys) (bit_seen c)
kept-new new old c keys added e is y = ap (map (λ x. bit_seen x)) e ∙ map-append (λ x. bit_seen x) old (c ∷ []) ∙ ap (λ b. map (λ x. bit_seen x) old ++ unless_seen b (bit_seen c)) (by (is_seen c.net keys) (sym is ∙ y))
  where
    by : (b : Bool) → not b ≡ true → false ≡ b
    by true k = absurd (cc)
    by false k = refl

pub kept-old : (old : List code_bit.Set) (c : code_bit.Set) (keys : List ℕ) (added : Bool) → added ≡ not (is_seen c.net keys) → added ≡ false
    → map (λ x. bit_seen x) old ≡ map (λ x. bit_seen x) old ++ unless_seen (is_seen c.net keys) (bit_seen c)
kept-old old c keys added is off = sym (ap (λ b. map (λ x. bit_seen x) old ++ unless_seen b (bit_seen c)) (by (is_seen c.net keys) (sym is ∙ off)) ∙ append-nil (map (λ x. bit_seen x) old))
  where
    by : (b : Bool) → not b ≡ false → b ≡ true
    by true k = refl
    by false k = absurd (cc)

-- ---- the loop

pub record IsBehind (bits left kept : List code_bit.Set) (keys : List ℕ) : Type 0 where
  pub whole : bits ≡ left ++ drop (length left) bits
  pub seen : (net : ℕ) → is_seen net keys ≡ is_set net (map (λ c. bit_seen c) (drop (length left) bits))
  pub last : reverse (map (λ c. bit_seen c) kept) ≡ last_of_each (map (λ c. bit_seen c) (drop (length left) bits))

pub behind-start : (bits kept : List code_bit.Set) (keys : List ℕ) → kept ≡ [] → keys ≡ [] → IsBehind bits bits kept keys
behind-start bits kept keys e f = record {
  whole = all-before bits;
  seen = λ net. rw (f, nothing-behind bits) refl;
  last = rw (e, nothing-behind bits) refl;
}

last-next : (b : Bool) (c : ℕ × Value) (kept behind : List (ℕ × Value)) → reverse kept ≡ last_of_each behind → reverse (kept ++ unless_seen b c) ≡ (if b then last_of_each behind else c ∷ last_of_each behind)
last-next true c kept behind h = ap reverse (append-nil kept) ∙ h
last-next false c kept behind h = reverse-append kept (c ∷ []) ∙ ap (λ x. c ∷ x) h

pub behind-next : (bits left front kept new_kept : List code_bit.Set) (c : code_bit.Set) (keys new_keys : List ℕ) → left ≡ front ++ c ∷ [] → ((net : ℕ) → is_seen net new_keys ≡ ((c.net == net) || is_seen net keys))
    → map (λ x. bit_seen x) new_kept ≡ map (λ x. bit_seen x) kept ++ unless_seen (is_seen c.net keys) (bit_seen c) → IsBehind bits left kept keys → IsBehind bits front new_kept new_keys
behind-next bits left front kept new_kept c keys new_keys e more is h =
    let behind : drop (length front) bits ≡ c ∷ drop (length left) bits = one-behind bits left front c e h.whole in
    let tail : List (ℕ × Value) = map (λ x. bit_seen x) (drop (length left) bits) in
    record {
      whole = still-whole bits left front c e h.whole;
      seen = λ net. more net ∙ ap (λ b. (c.net == net) || b) (h.seen net) ∙ ap (λ l. is_set net (map (λ x. bit_seen x) l)) (sym behind);
      last =
          ap reverse is ∙ last-next (is_seen c.net keys) (bit_seen c) (map (λ x. bit_seen x) kept) tail h.last
          ∙ ap (λ b. if b then last_of_each tail else bit_seen c ∷ last_of_each tail) (h.seen c.net)
          ∙ ap (λ l. last_of_each (map (λ x. bit_seen x) l)) (sym behind);
    }

pub behind-end : (bits left kept turned : List code_bit.Set) (keys : List ℕ) → left ≡ [] → turned ≡ reverse kept → IsBehind bits left kept keys → map (λ x. bit_seen x) turned ≡ last_of_each (map (λ x. bit_seen x) bits)
behind-end bits left kept turned keys e t h =
    ap (map (λ x. bit_seen x)) t ∙ map-turned kept ∙ h.last ∙ ap (λ l. last_of_each (map (λ x. bit_seen x) (drop (length l) bits))) e
