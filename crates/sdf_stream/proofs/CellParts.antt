-- Groups, parts and cells whose contents were read and told.
use Rattle.std.proofs.Common.{ℕ, ◌≡◌, ◌∙◌, true, false, List, [], ◌∷◌, ◌++◌, map, refl, sym, ap, subst}
use Rattle.std.specs.List.{flat_map}
use Rattle.std.proofs.lemmas.List.{append_assoc, map-append}
use Rattle.sdf_lex.specs.Tokens.{Lexeme}
use Rattle.sdf_tree.specs.declared.keywords.Keyword.TheVariants as keyword
use Rattle.sdf_tree.specs.declared.tree.Cell as code_cell
use Rattle.sdf_tree.specs.declared.words.Divider.{Divider}
use Rattle.sdf_tree.specs.Checks.{check}
use Rattle.sdf_tree.specs.Entries.{entry, group}
use Rattle.sdf_tree.specs.Files.{cell_type, file_part, instance, part}
use Rattle.sdf_tree.specs.Meant as meant
use Rattle.sdf_tree.specs.Seen.{view_instance}
use Rattle.sdf_tree.specs.Written.{Cell, Instance, a_cell, absolute, checks, delays, increment}
use Rattle.sdf_windows.specs.Movable.{Says}
use Rattle.sdf_stream.specs.Scans.{AreClosed, IsCell, IsScanned, check_contents, entry_contents, group_contents, part_contents}
use Rattle.sdf_stream.specs.Told.{Told, told, told_of}
use Rattle.sdf_stream.specs.Windows.{Begins, IsNext, seen}
use Rattle.sdf_stream.specs.declared.window.Window.{Window}
use Rattle.sdf_stream.proofs.Joined.{absolute_says, cell_part_says, cell_says, checks_says, delays_says, increment_says}
use Rattle.sdf_stream.proofs.Passing.{passed_on}

singles : {A B : Type 0} (f : A → B) (xs : List A) → flat_map (λ x. f x ∷ []) xs ≡ map f xs
singles f [] = refl
singles f (x ∷ xs) = ap (λ ys. f x ∷ ys) (singles f xs)

-- told one list after another
pub told_more : {S : Type 0} (came : S → S → List Told → Type 0) → ((a b c : S) (xs ys : List Told) → came a b xs → came b c ys → came a c (xs ++ ys))
    → (cell : code_cell.Cell) (a b c : S) (es fs : List meant.Entry) → came a b (told cell es) → came b c (told cell fs) → came a c (told cell (es ++ fs))
told_more came on cell a b c es fs p q =
    subst (came a c) (sym (map-append (λ (e : meant.Entry). record { cell_type = cell.cell_type.now; instance = view_instance cell.instance; entry = e }) es fs)) (on a b c (told cell es) (told cell fs) p q)

module _ (divider : Divider) (Came : List meant.Entry → Type 0) (a b : Window) where
  pub absolute_scanned : Begins keyword.Absolute (seen a) → AreClosed (entry true divider) (entry_contents false) Came a b → IsScanned (group true divider) group_contents Came a b
  absolute_scanned (t, u, e, left, word) s = record {
    value = absolute s.values;
    more = s.tokens ++ s.ending;
    passed = s.passed;
    says = subst (λ (xs : List Lexeme). Says (group true divider) (xs ++ (s.tokens ++ s.ending)) (absolute s.values)) (sym e) (absolute_says divider t u s.tokens s.ending left s.closes s.values word s.says);
    told = record { fine = record { numbers = s.told.fine.numbers; crossings = s.told.fine.crossings }; came = subst Came (singles (meant.entry_of false) s.values) s.told.came };
  }

  pub increment_scanned : Begins keyword.Increment (seen a) → AreClosed (entry true divider) (entry_contents true) Came a b → IsScanned (group true divider) group_contents Came a b
  increment_scanned (t, u, e, left, word) s = record {
    value = increment s.values;
    more = s.tokens ++ s.ending;
    passed = s.passed;
    says = subst (λ (xs : List Lexeme). Says (group true divider) (xs ++ (s.tokens ++ s.ending)) (increment s.values)) (sym e) (increment_says divider t u s.tokens s.ending left s.closes s.values word s.says);
    told = record { fine = record { numbers = s.told.fine.numbers; crossings = s.told.fine.crossings }; came = subst Came (singles (meant.entry_of true) s.values) s.told.came };
  }

  pub delays_scanned : Begins keyword.Delay (seen a) → AreClosed (group true divider) group_contents Came a b → IsScanned (part true divider) part_contents Came a b
  delays_scanned (t, u, e, left, word) s = record {
    value = delays s.values;
    more = s.tokens ++ s.ending;
    passed = s.passed;
    says = subst (λ (xs : List Lexeme). Says (part true divider) (xs ++ (s.tokens ++ s.ending)) (delays s.values)) (sym e) (delays_says divider t u s.tokens s.ending left s.closes s.values word s.says);
    told = record { fine = record { numbers = s.told.fine.numbers; crossings = s.told.fine.crossings }; came = s.told.came };
  }

  pub checks_scanned : Begins keyword.TimingCheck (seen a) → AreClosed (check divider) check_contents Came a b → IsScanned (part true divider) part_contents Came a b
  checks_scanned (t, u, e, left, word) s = record {
    value = checks s.values;
    more = s.tokens ++ s.ending;
    passed = s.passed;
    says = subst (λ (xs : List Lexeme). Says (part true divider) (xs ++ (s.tokens ++ s.ending)) (checks s.values)) (sym e) (checks_says divider t u s.tokens s.ending left s.closes s.values word s.says);
    told = record { fine = record { numbers = s.told.fine.numbers; crossings = refl }; came = subst Came (singles meant.entry_of_check s.values) s.told.came };
  }

-- a cell from its word on
pub cell_scanned : (divider : Divider) (Came One : List Told → Type 0) (a b c d : Window) (type_is : List ℕ) (instance_is : Instance) → ((ts : List Told) → One ts → Came ts) → Begins keyword.Cell (seen a)
    → IsNext cell_type a b type_is → IsNext (instance divider) b c instance_is → AreClosed (part true divider) part_contents (λ es. One (told_of type_is instance_is es)) c d → IsCell divider Came a d
cell_scanned divider Came One a b c d type_is instance_is on (t, u, e, left, word) p q s = record {
  cell = the_cell;
  more = p.tokens ++ (q.tokens ++ (s.tokens ++ s.ending));
  passed = passed_on a b d p.tokens (q.tokens ++ (s.tokens ++ s.ending)) p.passed (passed_on b c d q.tokens (s.tokens ++ s.ending) q.passed s.passed);
  says = λ heads. subst (λ (xs : List Lexeme). Says (file_part true (record { heads = heads; divider = divider })) (xs ++ (p.tokens ++ (q.tokens ++ (s.tokens ++ s.ending)))) (a_cell the_cell)) (sym e)
      (subst (λ (xs : List Lexeme). Says (file_part true (record { heads = heads; divider = divider })) (t ∷ u ∷ xs) (a_cell the_cell)) regrouped
      (cell_part_says heads divider t (u ∷ (p.tokens ++ (q.tokens ++ s.tokens))) s.ending left s.closes the_cell
      (cell_says divider u p.tokens q.tokens s.tokens type_is instance_is s.values word p.says q.says s.says)));
  fine = s.told.fine;
  came = on (told_of type_is instance_is (flat_map meant.entries_of_part s.values)) s.told.came;
}
  where
    the_cell : Cell
    the_cell = record { cell_type = type_is; instance = instance_is; parts = s.values }

    regrouped : (p.tokens ++ (q.tokens ++ s.tokens)) ++ s.ending ≡ p.tokens ++ (q.tokens ++ (s.tokens ++ s.ending))
    regrouped = append_assoc p.tokens (q.tokens ++ s.tokens) s.ending ∙ ap (λ (xs : List Lexeme). p.tokens ++ xs) (append_assoc q.tokens s.tokens s.ending)
