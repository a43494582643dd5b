-- How each way of building a rule over tokens of SDF files is shown to be movable.
use Rattle.std.proofs.Common.{Bool}
use Rattle.grammar.specs.Rule as rule
use Rattle.grammar.specs.Rule.{◌∙∙◌, ◌▸◌, ◌◂◌}
use Rattle.grammar.specs.States.{many_by}
use Rattle.sdf_lex.specs.Tokens.{Lexeme}
use Rattle.sdf_tree.specs.declared.keywords.Keyword.{Keyword}
use Rattle.sdf_tree.specs.Kinds.{Kind, kind_of, is_word}
use Rattle.sdf_tree.specs.Rules.{Grammar, token, mark, word, placed, either, optional, many}
use Rattle.sdf_windows.specs.Movable.{Moves}
use Rattle.sdf_windows.proofs.Movable as moves

pub the_token : {A : Type 0} (f : Lexeme → A) (is : Kind → Bool) → Moves (token f is)
the_token f is = record { movable = moves.image_moves f (moves.token_moves (λ t. is (kind_of t))) }

pub the_mark : (is : Kind → Bool) → Moves (mark is)
the_mark is = record { movable = moves.image_moves _ (moves.token_moves (λ t. is (kind_of t))) }

pub the_word : (w : Keyword) → Moves (word w)
the_word w = the_mark (is_word w)

pub then : {A B : Type 0} {a : Grammar A} {b : Grammar B} → Moves a → Moves b → Moves (a ∙∙ b)
then ma mb = record { movable = moves.sequence_moves ma.movable mb.movable }

pub made : {A B : Type 0} {a : Grammar A} (f : A → B) → Moves a → Moves (rule.mapped f a)
made f ma = record { movable = moves.image_moves f ma.movable }

pub behind : {A B : Type 0} {a : Grammar A} {b : Grammar B} → Moves a → Moves b → Moves (a ▸ b)
behind ma mb = made _ (then ma mb)

pub before : {A B : Type 0} {a : Grammar A} {b : Grammar B} → Moves a → Moves b → Moves (a ◂ b)
before ma mb = made _ (then ma mb)

pub called : {A : Type 0} {a : Grammar A} (S C : Kind → Bool) → Moves a → Moves (rule.named S C a)
called S C ma = record { movable = ma.movable }

pub with_place : {A : Type 0} {a : Grammar A} → Moves a → Moves (placed a)
with_place ma = record { movable = moves.place_moves _ ma.movable }

pub or : {A : Type 0} {a b : Grammar A} → Moves a → Moves b → Moves (either a b)
or ma mb = record { movable = moves.choice_moves ma.movable mb.movable }

pub perhaps : {A : Type 0} {a : Grammar A} → Moves a → Moves (optional a)
perhaps ma = record { movable = moves.optional_moves ma.movable }

pub repeated : {A : Type 0} {a : Grammar A} → Moves a → Moves (many a)
repeated ma = record { movable = moves.repetition_moves ma.movable }

pub where_so : {A : Type 0} {a : Grammar A} (b : Bool) → Moves a → Moves (rule.only_if b a)
where_so b ma = record { movable = moves.guarded_moves b ma.movable }

pub by_state : {A S : Type 0} (continues : Kind → Bool) (part : S → Grammar A) (next : S → A → S) (ends : S → Bool) → ((s : S) → Moves (part s)) → (s : S) → Moves (many_by kind_of continues part next ends s)
by_state continues part next ends mp s = record { movable = moves.by_state_moves (λ s. (part s).language) next ends (λ s. (mp s).movable) s }
