-- What is asked for by words, from their arguments.
use Rattle.std.proofs.Common.{◌≡◌, ℕ, List, Bool, true, false, cond, sym, ap, ◌∙◌, Option, None}
use Rattle.run_words.specs.Arguments.{Argument}
use Rattle.run_words.specs.Words.{are_sound, netlists_of}
use Rattle.why_words.specs.Words.{Asked, asked_from, asked_with, options}

-- what sound arguments ask for
pub sound_asked : (own : List (List ℕ)) (arguments : List Argument) (netlists : List (List ℕ)) (found : Option Asked) (sound : Bool) → own ≡ options → sound ≡ are_sound own arguments
    → sound ≡ true → netlists ≡ netlists_of arguments → found ≡ asked_with netlists arguments → found ≡ asked_from arguments
sound_asked own arguments netlists found sound o s t n e =
    e ∙ ap (λ ns. asked_with ns arguments) n
    ∙ sym (ap (λ b. cond b (asked_with (netlists_of arguments) arguments) None) (ap (λ os. are_sound os arguments) (sym o) ∙ sym s ∙ t))

-- what others ask for
pub unsound_asked : (own : List (List ℕ)) (arguments : List Argument) (sound : Bool) → own ≡ options → sound ≡ are_sound own arguments → sound ≡ false → None ≡ asked_from arguments
unsound_asked own arguments sound o s t = sym (ap (λ b. cond b (asked_with (netlists_of arguments) arguments) None) (ap (λ os. are_sound os arguments) (sym o) ∙ sym s ∙ t))
