-- What some words are for.
use Rattle.std.proofs.Common.{◌≡◌, refl, map, [], ◌∷◌, Some, None, true, false}
use Rattle.std.specs.Prelude.{codes}
use Rattle.sg_text.specs.declared.words.Keyword.TheVariants as word
use Rattle.sg_text.specs.declared.words.Reserved.TheVariants as reserved
use Rattle.sg_text.specs.Words.{reserved_rows, reserved_words, is_reserved_word, use_of}

a_modules_word : use_of (codes "macromodule") ≡ Some reserved.Module
unfolding reserved_rows
a_modules_word = refl

a_tri_state_gate : use_of (codes "notif1") ≡ Some (reserved.Keyword word.Notif1)
unfolding reserved_rows
a_tri_state_gate = refl

a_word_left_out : use_of (codes "always") ≡ Some reserved.LeftOut
unfolding reserved_rows
a_word_left_out = refl

a_plain_name : use_of (codes "begin") ≡ None
unfolding reserved_rows
a_plain_name = refl

whole_and_of_small_letters : map is_reserved_word (codes "library" ∷ codes "Module" ∷ codes "modul" ∷ codes "" ∷ []) ≡ true ∷ false ∷ false ∷ false ∷ []
unfolding reserved_rows reserved_words
whole_and_of_small_letters = refl
