-- Joins conditions among other tokens to a reader with one look at each word: what is owed of a vocabulary, the words that may
-- stand in each state of the scan, and the rule. What its language is says `Vocabulary`.
use Rattle.std.specs.Prelude.{◌≡◌, ℕ, zero, Bool, true, false, ◌&&◌, ◌||◌, not, List, None, Some, is_some}
use Rattle.grammar.specs.Exact.{Exact}
use Rattle.grammar.specs.Rule.{Rule, holds, one, mapped, either, only_if}
use Rattle.grammar.specs.States.{many_by}
use Rattle.cond_expr.specs.declared.scan.Phase.{Phase}
use Rattle.cond_expr.specs.declared.scan.Phase.TheVariants.{Operand, Name, Whole}
use Rattle.cond_expr.specs.Token.{Tok}
use Rattle.cond_expr.specs.Kinds.{Kind, index_kind, kind_of, is_index, is_binary_up_to}
use Rattle.cond_expr.specs.ScanSteps.{Next, step}
use Rattle.cond_expr.specs.Vocabulary.{Vocabulary, words_of_condition}

-- A token's class is the class of its word; an index begins with tokens of its class alone, and is closed by its last token.
pub record IsVocabulary {T K W : Type 0} (v : Vocabulary T K W) : Type 0 where
  pub class_of_word : (t : T) (c : Kind) → v.class (v.kind t) ≡ Some c → is_index c ≡ false → kind_of (v.tok (v.word t)) ≡ c
  pub class_of_index : (ts : List T) (i : ℕ) (x : W) (j : ℕ) → v.index.language.Spells ts i x j → kind_of (v.tok x) ≡ index_kind
  pub index_exact : Exact v.kind v.index
  pub index_full : v.index.empty ≡ false
  pub index_starts : (k : K) → v.index.starts k ≡ true → v.class k ≡ Some index_kind
  pub index_closed : (k : K) → v.index.continues k ≡ false

abbrev pub allows : Next → Kind → Bool
allows None c = false
allows (Some s) c = is_some (step s.0 s.1 c)

abbrev pub next_state : Next → Tok → Next
next_state None w = None
next_state (Some s) w = step s.0 s.1 (kind_of w)

-- the state after a word of a vocabulary
abbrev pub next_by : {T K W : Type 0} → Vocabulary T K W → Next → W → Next
next_by v s w = next_state s (v.tok w)

abbrev pub ends_at : ℕ → Phase → Bool
ends_at zero Name = true
ends_at zero Whole = true
ends_at _ _ = false

abbrev pub may_end : Next → Bool
may_end None = false
may_end (Some s) = ends_at s.0 s.1

-- a token that is a word which a state allows
abbrev pub is_allowed : {T K W : Type 0} → Vocabulary T K W → Next → K → Bool
is_allowed v s k = holds (λ c. not (is_index c) && allows s c) (v.class k)

-- a word that a state allows
abbrev pub word_in : {T K W : Type 0} → Vocabulary T K W → Next → Rule T K W
word_in v s = either v.kind (mapped v.word (one v.kind (is_allowed v s))) (only_if (allows s index_kind) v.index)

-- what a whole condition can go on with
abbrev pub goes_on_with : {T K W : Type 0} → Vocabulary T K W → K → Bool
goes_on_with v k = holds (λ c. is_index c || is_binary_up_to 6 c) (v.class k)

abbrev pub start : Next
start = Some (0, Operand)

abbrev pub words_by_state : {T K W : Type 0} → Vocabulary T K W → Next → Rule T K (List W)
words_by_state v s = many_by v.kind (goes_on_with v) (word_in v) (next_by v) may_end s

-- a condition among other tokens
abbrev pub worded : {T K W : Type 0} → Vocabulary T K W → Rule T K (List W)
worded v = record {
  language = words_of_condition v;
  starts = (word_in v start).starts;
  continues = goes_on_with v;
  empty = false;
  read = (words_by_state v start).read;
}
