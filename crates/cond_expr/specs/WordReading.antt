-- What reading one word of a condition among other tokens gives. The words that a reader keeps are seen by view.
use Rattle.std.specs.Prelude.{◌≡◌, ℕ, true, false, List, Option, Some, None, Result, Ok, Err, slice_get}
use Rattle.std.specs.Option.{option_map}
use Rattle.grammar.specs.Rule.{stands}
use Rattle.grammar.specs.declared.ReadFault.{ReadFault}
use Rattle.grammar.specs.declared.ReadFault.TheVariants as faults
use Rattle.cond_expr.specs.declared.scan.Phase.{Phase}
use Rattle.cond_expr.specs.ScanSteps.{Next}
use Rattle.cond_expr.specs.Vocabulary.{Vocabulary, is_word}
use Rattle.cond_expr.specs.WordStates.{word_in, next_by}

-- the word that the token at i is alone, or none
abbrev pub IsWordAlone : {T K W X E : Type 0} → Vocabulary T K W → (X → W) → List T → ℕ → Result (Option X) E → Type 0
IsWordAlone v view ts i (Ok None) = stands v.kind (is_word v) ts i ≡ false
IsWordAlone v view ts i (Ok (Some w)) = (stands v.kind (is_word v) ts i ≡ true) × (option_map v.word (slice_get ts i) ≡ Some (view w))
IsWordAlone v view ts i (Err e) = Unit {0}

-- the word that a state allows at i, the position behind it and the next state; or none, where no such word begins there
abbrev pub WordRead : {T K W X : Type 0} → Vocabulary T K W → (X → W) → List T → ℕ → Next → Result (Option (X × ℕ × ℕ × Phase)) ReadFault → Type 0
WordRead v view ts i s (Ok None) = stands v.kind (word_in v s).starts ts i ≡ false
WordRead v view ts i s (Ok (Some w)) = (stands v.kind (word_in v s).starts ts i ≡ true) × ((word_in v s).read ts i ≡ Ok (view w.0, w.1)) × (next_by v s (view w.0) ≡ Some (w.2, w.3))
WordRead v view ts i s (Err faults.Memory) = Unit {0}
WordRead v view ts i s (Err (faults.At e)) = (stands v.kind (word_in v s).starts ts i ≡ true) × ((word_in v s).read ts i ≡ Err e)
