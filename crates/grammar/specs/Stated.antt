-- Alternatives as a grammar states them, where a reader with one token of lookahead wants them otherwise.
use Rattle.std.specs.Prelude.{◌<◌, Bool, ◌⊎◌, List, ◌∷◌, Option, Some, None}
use Rattle.std.proofs.Common.{inl, inr}
use Rattle.grammar.specs.Language.{Language, sequence, image, choice, at_most_once, repetition, quoted_token}
use Rattle.grammar.specs.Rule.{Rule, ◌∙∙◌, ◌▸◌, mapped, either, optional, many, quoted}

-- a rule's reading for a language
abbrev pub stated : {T K A : Type 0} → Language T A → Rule T K A → Rule T K A
stated l r = record { language = l; starts = r.starts; continues = r.continues; empty = r.empty; read = r.read }

-- ---- a b | a c: the common beginning is read once

abbrev pub joined_with : {A B C D : Type 0} → (A × B → D) → (A × C → D) → A → B ⊎ C → D
joined_with f g x (inl y) = f (x, y)
joined_with f g x (inr z) = g (x, z)

-- two sequences with the same beginning, and what their values make
abbrev pub forked : {T K A B C D : Type 0} → (T → K) → (A × B → D) → (A × C → D) → Rule T K A → Rule T K B → Rule T K C → Rule T K D
forked kind f g a b c =
    stated (choice (image f (sequence a.language b.language)) (image g (sequence a.language c.language)))
    (mapped (λ x. joined_with f g x.0 x.1) (a ∙∙ either kind (mapped inl b) (mapped inr c)))

-- ---- [ a ] { "," [ a ] }, of one token or more

-- what isn't spelled by no token
abbrev pub of_some_token : {T A : Type 0} → Language T A → Language T A
of_some_token a = record {
  Spells = λ ts i x j. (i < j) × a.Spells ts i x j;
  Begins = a.Begins;
}

abbrev pub list_of_options : {T A : Type 0} → Language T A → (T → Bool) → Language T (List (Option A))
list_of_options a comma = image (λ x. x.0 ∷ x.1) (sequence (at_most_once a) (repetition (image (λ x. x.1) (sequence (quoted_token comma) (at_most_once a)))))

-- parts with a quoted token between, where each part may be missing
abbrev pub separated_options : {T K A : Type 0} → (T → K) → Rule T K A → (K → Bool) → Rule T K (List (Option A))
separated_options kind a comma =
    let part = quoted kind comma ▸ optional kind a in
    stated (of_some_token (list_of_options a.language (λ t. comma (kind t))))
    (either kind (mapped (λ x. Some x.0 ∷ x.1) (a ∙∙ many kind part)) (mapped (λ x. None ∷ x.0 ∷ x.1) (part ∙∙ many kind part)))
