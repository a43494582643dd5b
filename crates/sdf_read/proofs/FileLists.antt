-- Reading the parts of a file, as a loop does that keeps them.
use Rattle.std.proofs.Common.{◌≡◌, ℕ, ◌-◌, ◌<◌, Bool, true, false, List, [], ◌∷◌, ◌++◌, length, map, Result, Ok, refl}
use Rattle.grammar.specs.Reading.{Fails}
use Rattle.grammar.specs.Rule.{stands}
use Rattle.grammar.specs.declared.ReadFault.{ReadFault}
use Rattle.grammar.proofs.LoopsBy.{rest_of_by, by_begins, by_goes_on, by_fails, by_ends, by_advances}
use Rattle.sdf_lex.specs.Tokens.{Lexeme}
use Rattle.sdf_tree.specs.Files.{FileState, file_part, state_after_part, first_state, file_parts_parts}
use Rattle.sdf_tree.specs.Kinds.{kind_of, is_left}
use Rattle.sdf_tree.specs.Written.{FilePart}
use Rattle.sdf_tree.proofs.FilesExact.{file_part-exact}

module _ {X : Type 0} (limited : Bool) (ts : List Lexeme) (view : X → FilePart) where
  abbrev pub rest : List X → FileState → ℕ → Result (List FilePart × ℕ) ℕ
  rest items s i = rest_of_by kind_of is_left (file_part limited) state_after_part (λ s. true) ts view items s i

  pub parts_begin : (i : ℕ) → rest [] first_state i ≡ (file_parts_parts limited).read ts i
  unfolding file_parts_parts
  parts_begin i = by_begins kind_of is_left (file_part limited) state_after_part (λ s. true) (file_part-exact limited) (λ s. refl) ts view first_state i

  pub parts_go_on : (total : Result (List FilePart × ℕ) ℕ) (items : List X) (s : FileState) (i : ℕ) (x : X) (j : ℕ) → stands kind_of is_left ts i ≡ true → (file_part limited s).read ts i ≡ Ok (view x, j) → rest items s i ≡ total
      → rest (items ++ x ∷ []) (state_after_part s (view x)) j ≡ total
  parts_go_on total items s i x j does h so_far = by_goes_on kind_of is_left (file_part limited) state_after_part (λ s. true) (file_part-exact limited) (λ s. refl) ts view total items s i x j does h so_far

  pub parts_fail : (total : Result (List FilePart × ℕ) ℕ) (items : List X) (s : FileState) (i : ℕ) (f : ReadFault) → stands kind_of is_left ts i ≡ true → Fails f ((file_part limited s).read ts i) → rest items s i ≡ total → Fails f total
  parts_fail total items s i f does h so_far = by_fails kind_of is_left (file_part limited) state_after_part (λ s. true) (file_part-exact limited) (λ s. refl) ts view total items s i f does h so_far

  pub parts_advance : (s : FileState) (i : ℕ) (x : FilePart) (j : ℕ) → stands kind_of is_left ts i ≡ true → (file_part limited s).read ts i ≡ Ok (x, j) → length ts - j < length ts - i
  parts_advance s i x j does h = by_advances kind_of is_left (file_part limited) state_after_part (λ s. true) (file_part-exact limited) (λ s. refl) ts view s i x j does h

  pub parts_end : (total : Result (List FilePart × ℕ) ℕ) (items : List X) (s : FileState) (i : ℕ) → stands kind_of is_left ts i ≡ false → rest items s i ≡ total → total ≡ Ok (map view items, i)
  parts_end total items s i none so_far = by_ends kind_of is_left (file_part limited) state_after_part (λ s. true) (file_part-exact limited) (λ s. refl) ts view total items s i none refl so_far
