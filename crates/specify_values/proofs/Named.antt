-- The names of ports as sets: one name after another, and where they stand in a text.
use Rattle.std.specs.Prelude.{◌≡◌, ℕ, ◌+◌, ◌-◌, ◌<◌, ◌≤◌, ◌&&◌, ◌||◌, Bool, true, false, cond, List, [], ◌∷◌, Some, bytes_eq, drop, find, length, reverse, slice_index_or, take, refl}
use Rattle.std.specs.List.{list_any}
use Rattle.std.proofs.Common.{sym, ◌∙◌, ap, arith, subst}
use Rattle.std.proofs.Math.Bool.{or-true, and-false}
use Rattle.std.proofs.lemmas.List.{length-drop, length-reverse, reverse-append, reverse-reverse, take-append-drop, take-append-le, take_all, take_more}
use Rattle.std.proofs.lemmas.List.Folds.{list_any-append}
use Rattle.std.proofs.lemmas.Slice.Eq.{bytes_eq-Decides}
use Rattle.name_trie.specs.Tree.{has, IsTree}
use Rattle.elab_model.specs.Names.{Variable}
use Rattle.elab_bits.proofs.InRow.{blank}
use Rattle.elab_variables.specs.Seen.{variable_at}
use Rattle.specify_model.specs.PulseLimits.{found_port, is_port}
use Rattle.specify_values.specs.PortNames.{AddsIf, AreMarks, AreNames, AreTrees}
use Rattle.specify_values.specs.declared.port_names.PortNames.{PortNames}

same-tests : (a b : Bool) → (a ≡ true → b ≡ true) → (b ≡ true → a ≡ true) → a ≡ b
same-tests true true f g = refl
same-tests true false f g = sym (f refl)
same-tests false true f g = g refl
same-tests false false f g = refl

bytes-reversed : (a b : List ℕ) → bytes_eq (reverse a) (reverse b) ≡ bytes_eq a b
bytes-reversed a b =
    same-tests (bytes_eq (reverse a) (reverse b)) (bytes_eq a b)
    (λ h. (bytes_eq-Decides a b).1 (sym (reverse-reverse a) ∙ ap reverse ((bytes_eq-Decides (reverse a) (reverse b)).0 h) ∙ reverse-reverse b))
    (λ h. (bytes_eq-Decides (reverse a) (reverse b)).1 (ap reverse ((bytes_eq-Decides a b).0 h)))

-- ---- one name

pub not-added : (is : Bool) (name : List ℕ) (names : PortNames) → is ≡ false → AreTrees names → AddsIf is name names names
not-added is name names e trees = subst (λ b. AddsIf b name names names) (sym e) (record { trees = trees; names = λ test h. record { forwards = h.forwards; backwards = h.backwards } })

pub added : (is : Bool) (name : List ℕ) (old new : PortNames) → is ≡ true → IsTree new.forwards → IsTree new.backwards
    → ((n : List ℕ) → has new.forwards n ≡ (bytes_eq name n || has old.forwards n)) → ((n : List ℕ) → has new.backwards n ≡ (bytes_eq (reverse name) n || has old.backwards n)) → AddsIf is name old new
added is name old new e first second f g = subst (λ b. AddsIf b name old new) (sym e) (record {
  trees = record { first = first; second = second };
  names = λ test h. record {
    forwards = λ n. f n ∙ ap (λ b. bytes_eq name n || b) (h.forwards n);
    backwards = λ n. g (reverse n) ∙ ap (λ b. b || has old.backwards (reverse n)) (bytes-reversed name n) ∙ ap (λ b. bytes_eq name n || b) (h.backwards n);
  };
})

-- ---- the names of a table, one after another

abbrev pub is_port_named : List Variable → List ℕ → Variable → Bool
is_port_named vs n v = is_port vs v.name && bytes_eq v.name n

-- among so many variables is a port of the name
abbrev pub is_port_among : List Variable → ℕ → List ℕ → Bool
is_port_among vs i n = list_any (is_port_named vs n) (take i vs)

pub no-names : (vs : List Variable) (names : PortNames) → ((n : List ℕ) → has names.forwards n ≡ false) → ((n : List ℕ) → has names.backwards n ≡ false) → AreNames (is_port_among vs 0) names
no-names vs names f g = record { forwards = f; backwards = λ n. g (reverse n) }

turned-round : (a b : Bool) → (a || b) ≡ (b || (a || false))
turned-round true true = refl
turned-round true false = refl
turned-round false true = refl
turned-round false false = refl

one-more : (vs : List Variable) (i : ℕ) (name n : List ℕ) → i < length vs → name ≡ (variable_at vs i).name → ((is_port vs name && bytes_eq name n) || is_port_among vs i n) ≡ is_port_among vs (i + 1) n
one-more vs i name n lt e =
    ap (λ m. (is_port vs m && bytes_eq m n) || is_port_among vs i n) e ∙ turned-round (is_port_named vs n (variable_at vs i)) (is_port_among vs i n)
    ∙ sym (ap (list_any (is_port_named vs n)) (take_more vs i blank lt) ∙ list_any-append (is_port_named vs n) (take i vs) (variable_at vs i ∷ []))

pub next-name : (vs : List Variable) (i : ℕ) (name : List ℕ) (old new : PortNames) → i < length vs → name ≡ (variable_at vs i).name → AreNames (is_port_among vs i) old → AddsIf (is_port vs name) name old new
    → AreNames (is_port_among vs (i + 1)) new
next-name vs i name old new lt e h g =
    let r = g.names (is_port_among vs i) h in
    record { forwards = λ n. r.forwards n ∙ one-more vs i name n lt e; backwards = λ n. r.backwards n ∙ one-more vs i name n lt e }

module _ (vs : List Variable) (n : List ℕ) where
  at-name : (v : Variable) → bytes_eq n v.name ≡ true → is_port vs n ≡ true → is_port_named vs n v ≡ true
  at-name v e h = subst (λ m. (is_port vs m && bytes_eq m n) ≡ true) ((bytes_eq-Decides n v.name).0 e) (ap (λ b. b && bytes_eq n n) h ∙ (bytes_eq-Decides n n).1 refl)

  there : is_port vs n ≡ true → (ws : List Variable) → found_port (find (λ v. bytes_eq n v.name) ws) ≡ true → list_any (is_port_named vs n) ws ≡ true
  there h [] e = e
  there h (v ∷ ws) e = by (bytes_eq n v.name) refl e (there h ws)
    where
      by : (b : Bool) → bytes_eq n v.name ≡ b → found_port (cond b (Some v) (find (λ v. bytes_eq n v.name) ws)) ≡ true
          → (found_port (find (λ v. bytes_eq n v.name) ws) ≡ true → list_any (is_port_named vs n) ws ≡ true) → list_any (is_port_named vs n) (v ∷ ws) ≡ true
      by true s f rest = ap (λ b. b || list_any (is_port_named vs n) ws) (at-name v s h)
      by false s f rest = ap (λ b. is_port_named vs n v || b) (rest f) ∙ or-true (is_port_named vs n v)

  absent : is_port vs n ≡ false → (ws : List Variable) → list_any (is_port_named vs n) ws ≡ false
  absent h [] = refl
  absent h (v ∷ ws) = by (bytes_eq v.name n) refl (absent h ws)
    where
      by : (b : Bool) → bytes_eq v.name n ≡ b → list_any (is_port_named vs n) ws ≡ false → list_any (is_port_named vs n) (v ∷ ws) ≡ false
      by true s rest = ap (λ b. (b && bytes_eq v.name n) || list_any (is_port_named vs n) ws) (ap (is_port vs) ((bytes_eq-Decides v.name n).0 s) ∙ h) ∙ rest
      by false s rest = ap (λ b. b || list_any (is_port_named vs n) ws) (ap (λ b. is_port vs v.name && b) s ∙ and-false (is_port vs v.name)) ∙ rest

  among-all : list_any (is_port_named vs n) vs ≡ is_port vs n
  among-all = by (is_port vs n) refl
    where
      by : (b : Bool) → is_port vs n ≡ b → list_any (is_port_named vs n) vs ≡ b
      by true h = there h vs h
      by false h = absent h vs

pub all-names : (vs : List Variable) (i : ℕ) (names : PortNames) → length vs ≤ i → AreNames (is_port_among vs i) names → AreNames (is_port vs) names
all-names vs i names le h =
    record { forwards = λ n. h.forwards n ∙ whole n; backwards = λ n. h.backwards n ∙ whole n }
  where
    whole : (n : List ℕ) → is_port_among vs i n ≡ is_port vs n
    whole n = ap (list_any (is_port_named vs n)) (take_all i vs le) ∙ among-all vs n

-- ---- in a text

-- what stands behind a place, from the last byte back
from-behind : (text : List ℕ) (k : ℕ) → k < length text → take (length text - 1 - k) (reverse text) ≡ reverse (drop (k + 1) text)
from-behind text k lt =
    let back = reverse (drop (k + 1) text) in
    let count : length back ≡ length text - 1 - k = length-reverse (drop (k + 1) text) ∙ length-drop (k + 1) text ∙ omega (arith, lt) in
    ap (take (length text - 1 - k)) (ap reverse (sym (take-append-drop (k + 1) text)) ∙ reverse-append (take (k + 1) text) (drop (k + 1) text))
    ∙ take-append-le (length text - 1 - k) back (reverse (take (k + 1) text)) (omega (arith, count)) ∙ take_all (length text - 1 - k) back (omega (arith, count))

pub all-marks : (vs : List Variable) (names : PortNames) (text : List ℕ) (before behind : List Bool) → ((k : ℕ) → k < length text → slice_index_or before k false ≡ has names.forwards (take k text))
    → ((k : ℕ) → k < length text → slice_index_or behind k false ≡ has names.backwards (take k (reverse text))) → AreNames (is_port vs) names → AreMarks vs text before behind
all-marks vs names text before behind f g are = record {
  before_are = λ k lt. f k lt ∙ are.forwards (take k text);
  behind_are = λ k lt. g (length text - 1 - k) (omega (arith, lt)) ∙ ap (has names.backwards) (from-behind text k lt) ∙ are.backwards (drop (k + 1) text);
}
