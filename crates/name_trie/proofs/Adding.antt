-- A name that is added: its bytes one after another, and the mark at its end.
use Rattle.std.specs.Prelude.{◌≡◌, ℕ, ◌+◌, ◌<◌, ◌≤◌, ◌||◌, true, List, [], ◌∷◌, ◌++◌, Some, bytes_eq, length, slice_index_or, slice_set, take, refl}
use Rattle.std.proofs.Common.{sym, ◌∙◌, ap, arith}
use Rattle.std.proofs.lemmas.List.{length-reverse, take_all, take_more}
use Rattle.name_trie.specs.Tree.{steps_of, follow, flag, has, IsTree, Steps}
use Rattle.name_trie.specs.Turned.{turned}
use Rattle.name_trie.specs.declared.tries.Trie.{Trie}
use Rattle.name_trie.specs.declared.ways.Way.{Way}
use Rattle.name_trie.specs.declared.ways.Way.TheVariants.{Forwards, Backwards}
use Rattle.name_trie.proofs.Growing.{name-added}

pub length-turned : (way : Way) (text : List ℕ) → length (turned way text) ≡ length text
length-turned Forwards text = refl
length-turned Backwards text = length-reverse text

-- so many bytes of a name lead to a node, and the names are still the first ones
pub record IsUnderWay (first now : Trie) (name : List ℕ) (i node : ℕ) : Type 0 where
  pub tree : IsTree now
  pub names : (text : List ℕ) → has now text ≡ has first text
  pub here : follow (steps_of now) 0 (take i name) ≡ Some node
  pub within : node < length now.ends.items

pub at-root : (t : Trie) (name : List ℕ) → IsTree t → IsUnderWay t t name 0 0
at-root t name tree = record { tree = tree; names = λ text. refl; here = refl; within = tree.rooted }

pub one-byte : (first old new : Trie) (way : Way) (name : List ℕ) (i node byte next : ℕ) → i < length name → byte ≡ slice_index_or (turned way name) i 0 → IsUnderWay first old (turned way name) i node
    → Steps old new node byte next → IsUnderWay first new (turned way name) (i + 1) next
one-byte first old new way name i node byte next lt at h s =
    let text = turned way name in
    let below : i < length text = omega (arith, lt, length-turned way name) in
    let more : take (i + 1) text ≡ take i text ++ byte ∷ [] = take_more text i 0 below ∙ ap (λ b. take i text ++ b ∷ []) (sym at) in
    record {
      tree = s.tree;
      names = λ t. s.names t ∙ h.names t;
      here = ap (follow (steps_of new) 0) more ∙ s.leads (take i text) h.here;
      within = s.within;
    }

-- all bytes led to the node, which is marked
pub all-bytes : (first now : Trie) (way : Way) (name : List ℕ) (i node : ℕ) → length name ≤ i → IsUnderWay first now (turned way name) i node
    → (text : List ℕ) → flag (slice_set now.ends.items node true) (follow (steps_of now) 0 text) ≡ (bytes_eq (turned way name) text || has first text)
all-bytes first now way name i node le h text =
    let whole : take i (turned way name) ≡ turned way name = take_all i (turned way name) (omega (arith, le, length-turned way name)) in
    name-added (steps_of now) now.ends.items (turned way name) node h.tree h.within (ap (follow (steps_of now) 0) (sym whole) ∙ h.here) text
    ∙ ap (λ b. bytes_eq (turned way name) text || b) (h.names text)
