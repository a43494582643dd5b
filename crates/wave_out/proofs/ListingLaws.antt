-- Blocks that grow while the marks of their variables are taken.
use Rattle.std.proofs.Common.{◌≡◌, ◌∙◌, sym, ap, subst, ℕ, ◌+◌, ◌*◌, ◌<◌, ◌≤◌, List, [], ◌∷◌, ◌++◌, length, get_or, arith, append_assoc}
use Rattle.std.specs.Prelude.{false, All, replicate}
use Rattle.std.proofs.lemmas.List.{append-nil}
use Rattle.std.proofs.lemmas.List.Concat.{flat_map-append}
use Rattle.std.proofs.lemmas.List.Elements.{All-head, All-tail}
use Rattle.sg_logic.specs.declared.values.Value.{Value}
use Rattle.wave_out.specs.declared.marks.Marks.{Marks}
use Rattle.wave_out.specs.Lines.{bits_line, lines_of}
use Rattle.wave_out.specs.Listing.{HasListed}
use Rattle.wave_out.specs.Marks.{bools, listed, seen, trues, AreClear, AreMarks, IsDone}
use Rattle.wave_out.proofs.ListLaws.{All-second}
use Rattle.wave_out.proofs.MarkLaws.{clear_all_words, no_marks, seen_none, trues_none}

lines_append : (bits : List (List ℕ)) (values : List Value) (xs ys : List ℕ) → lines_of bits (xs ++ ys) values ≡ lines_of bits xs values ++ lines_of bits ys values
lines_append bits values xs ys = flat_map-append (λ k. bits_line values k (get_or bits k [])) xs ys

-- of a word, the first variable that is left, and the others
pub left_first : (bits : List (List ℕ)) (first bit left rest : ℕ) → trues first (bools 64 left) ≡ (first + bit) ∷ trues first (bools 64 rest) → All (λ k. k < length bits) (trues first (bools 64 left)) → first + bit < length bits
left_first bits first bit left rest e h = All-head (λ k. k < length bits) (first + bit) (trues first (bools 64 rest)) (subst (λ ks. All (λ k. k < length bits) ks) e h)

pub left_others : (bits : List (List ℕ)) (first bit left rest : ℕ) → trues first (bools 64 left) ≡ (first + bit) ∷ trues first (bools 64 rest) → All (λ k. k < length bits) (trues first (bools 64 left)) → All (λ k. k < length bits) (trues first (bools 64 rest))
left_others bits first bit left rest e h = All-tail (λ k. k < length bits) (first + bit) (trues first (bools 64 rest)) (subst (λ ks. All (λ k. k < length bits) ks) e h)

pub left_text : (bits : List (List ℕ)) (values : List Value) (first bit left rest : ℕ) (text more whole : List ℕ) → trues first (bools 64 left) ≡ (first + bit) ∷ trues first (bools 64 rest)
    → more ≡ text ++ bits_line values (first + bit) (get_or bits (first + bit) []) → text ++ lines_of bits (trues first (bools 64 left)) values ≡ whole → more ++ lines_of bits (trues first (bools 64 rest)) values ≡ whole
left_text bits values first bit left rest text more whole e line h =
    ap (λ t. t ++ lines_of bits (trues first (bools 64 rest)) values) line
    ∙ (append_assoc text (bits_line values (first + bit) (get_or bits (first + bit) [])) (lines_of bits (trues first (bools 64 rest)) values)
    ∙ (ap (λ ks. text ++ lines_of bits ks values) (sym e) ∙ h))

pub left_none : (bits : List (List ℕ)) (values : List Value) (first left : ℕ) (text whole : List ℕ) → left ≡ 0 → text ++ lines_of bits (trues first (bools 64 left)) values ≡ whole → text ≡ whole
left_none bits values first left text whole e h =
    sym (append-nil text) ∙ (ap (λ ks. text ++ lines_of bits ks values) (sym (ap (λ w. trues first (bools 64 w)) e ∙ no_marks first)) ∙ h)

-- one word more of a group, and the end of all
pub listed_word : (bits : List (List ℕ)) (values : List Value) (groups first word : ℕ) (old m m' : Marks) (before text more : List ℕ) → AreMarks m' → IsDone groups m' → listed m ≡ trues first (bools 64 word) ++ listed m'
    → more ≡ text ++ lines_of bits (trues first (bools 64 word)) values → HasListed bits values groups old m before text → HasListed bits values groups old m' before more
listed_word bits values groups first word old m m' before text more marks done e line h = record {
  marks = marks;
  done = done;
  within = All-second (λ k. k < length bits) (trues first (bools 64 word)) (listed m') (subst (λ ks. All (λ k. k < length bits) ks) e h.within);
  text = ap (λ t. t ++ lines_of bits (listed m') values) line
      ∙ (append_assoc text (lines_of bits (trues first (bools 64 word)) values) (lines_of bits (listed m') values)
      ∙ (ap (λ t. text ++ t) (sym (lines_append bits values (trues first (bools 64 word)) (listed m')))
      ∙ (ap (λ ks. text ++ lines_of bits ks values) (sym e) ∙ h.text)));
}

pub listed_all : (bits : List (List ℕ)) (values : List Value) (g : ℕ) (old m : Marks) (before text : List ℕ) → length m.groups.items ≤ g → HasListed bits values g old m before text → text ≡ before ++ lines_of bits (listed old) values
listed_all bits values g old m before text l h =
    sym (append-nil text) ∙ (ap (λ ks. text ++ lines_of bits ks values) (sym (trues_none 0 m.words.items (clear_all_words m h.marks (λ j k. h.done j (omega arith))))) ∙ h.text)

-- where nothing is marked
pub clear_seen : (count : ℕ) (m : Marks) → AreClear count m → seen m.words.items ≡ replicate (64 * length m.words.items) false
clear_seen count m h = seen_none m.words.items (clear_all_words m h.marks h.none)
