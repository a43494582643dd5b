-- The fronts of a text, one after another.
use Rattle.std.specs.Prelude.{◌≡◌, ◌⊎◌, ℕ, ◌+◌, ◌<◌, ◌≤◌, Bool, false, List, [], ◌∷◌, ◌++◌, Option, Some, length, option_and_then, slice_index_or, take, refl}
use Rattle.std.proofs.Common.{sym, ◌∙◌, ap, arith, inl, inr}
use Rattle.std.proofs.lemmas.List.{get_or_append_left, get_or_push, length-append, take_more}
use Rattle.name_trie.specs.Tree.{NextNode, follow, flag}
use Rattle.name_trie.specs.Turned.{turned}
use Rattle.name_trie.specs.declared.ways.Way.{Way}
use Rattle.name_trie.proofs.Adding.{length-turned}
use Rattle.name_trie.proofs.Following.{follow-more}

pub next-front : (s : NextNode) (text : List ℕ) (i : ℕ) → i < length text
    → follow s 0 (take (i + 1) text) ≡ option_and_then (λ n. s n (slice_index_or text i 0)) (follow s 0 (take i text))
next-front s text i lt = ap (follow s 0) (take_more text i 0 lt) ∙ follow-more s 0 (take i text) (slice_index_or text i 0)

-- the marks so far
pub record AreMarked (s : NextNode) (ends : List Bool) (text : List ℕ) (i : ℕ) (node : Option ℕ) (marks : List Bool) : Type 0 where
  pub count : length marks ≡ i
  pub here : node ≡ follow s 0 (take i text)
  pub marked : (k : ℕ) → k < i → slice_index_or marks k false ≡ flag ends (follow s 0 (take k text))

pub none-marked : (s : NextNode) (ends : List Bool) (text : List ℕ) (marks : List Bool) → marks ≡ [] → AreMarked s ends text 0 (Some 0) marks
none-marked s ends text marks e = record { count = ap length e; here = refl; marked = λ k lt. absurd (omega (arith, lt)) }

pub one-marked : (s : NextNode) (ends : List Bool) (text : List ℕ) (i : ℕ) (node next : Option ℕ) (old new : List Bool) → i < length text → AreMarked s ends text i node old
    → new ≡ old ++ flag ends node ∷ [] → next ≡ option_and_then (λ n. s n (slice_index_or text i 0)) node → AreMarked s ends text (i + 1) next new
one-marked s ends text i node next old new lt h more on = record {
  count = ap length more ∙ length-append old (flag ends node ∷ []) ∙ ap (λ n. n + 1) h.count;
  here = on ∙ ap (option_and_then (λ n. s n (slice_index_or text i 0))) h.here ∙ sym (next-front s text i lt);
  marked = λ k below. ap (λ l. slice_index_or l k false) more ∙ at k (sides k i below);
}
  where
    sides : (k i : ℕ) → k < i + 1 → (k < i) ⊎ (k ≡ i)
    sides k i below = grind arith

    at : (k : ℕ) → (k < i) ⊎ (k ≡ i) → slice_index_or (old ++ flag ends node ∷ []) k false ≡ flag ends (follow s 0 (take k text))
    at k (inl first) = get_or_append_left old (flag ends node ∷ []) false k (omega (arith, first, h.count)) ∙ h.marked k first
    at k (inr last) = get_or_push old (flag ends node) false k (h.count ∙ sym last) ∙ ap (flag ends) (h.here ∙ ap (λ j. follow s 0 (take j text)) (sym last))

pub one-turned : (s : NextNode) (ends : List Bool) (way : Way) (text : List ℕ) (i byte : ℕ) (node next : Option ℕ) (old new : List Bool) (mark : Bool) → i < length text
    → byte ≡ slice_index_or (turned way text) i 0 → AreMarked s ends (turned way text) i node old → mark ≡ flag ends node → new ≡ old ++ mark ∷ [] → next ≡ option_and_then (λ n. s n byte) node
    → AreMarked s ends (turned way text) (i + 1) next new
one-turned s ends way text i byte node next old new mark lt at h is more on =
    one-marked s ends (turned way text) i node next old new (omega (arith, lt, length-turned way text)) h (more ∙ ap (λ b. old ++ b ∷ []) is) (on ∙ ap (λ b. option_and_then (λ n. s n b) node) at)

pub all-marked : (s : NextNode) (ends : List Bool) (text as_turned : List ℕ) (i : ℕ) (at : Option ℕ) (marks : List Bool) → length text ≤ i → AreMarked s ends as_turned i at marks
    → (k : ℕ) → k < length text → slice_index_or marks k false ≡ flag ends (follow s 0 (take k as_turned))
all-marked s ends text as_turned i at marks e h k lt = h.marked k (omega (arith, lt, e))
