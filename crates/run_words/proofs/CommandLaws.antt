-- What is asked for by words, from their arguments.
use Rattle.std.proofs.Common.{◌≡◌, ℕ, ◌-◌, ◌≤◌, List, take, drop, map, length, slice_index_or, Bool, true, false, cond, sym, ap, ◌∙◌, Result, Ok, Err, Option, Some, None, option_map, IfOk}
use Rattle.run_words.proofs.FrontLaws.{front_words}
use Rattle.run_words.specs.declared.subcommands.Subcommand.{Subcommand}
use Rattle.run_words.specs.Arguments.{Argument}
use Rattle.run_words.specs.Words.{Asked, are_sound, asked_after, asked_by, asked_from, asked_with, netlists_of, options_of, subcommand_of}

pub if_ok_same : {A E B : Type 0} (r : Result A E) (f : A → B) (x y : B) → IfOk r (λ c. f c ≡ x) → x ≡ y → IfOk r (λ c. f c ≡ y)
if_ok_same (Ok c) f x y h e = h ∙ e
if_ok_same (Err e) f x y h same = h

pub some_read : {V : Type 0} (seen : V → List Argument) (read : Option V) (v : V) (arguments : Option (List Argument)) → option_map seen read ≡ arguments → read ≡ Some v → Some (seen v) ≡ arguments
some_read seen read v arguments e is = ap (option_map seen) (sym is) ∙ e

pub none_read : {V : Type 0} (seen : V → List Argument) (read : Option V) (arguments : Option (List Argument)) → option_map seen read ≡ arguments → read ≡ None → None ≡ arguments
none_read seen read arguments e is = ap (option_map seen) (sym is) ∙ e

pub subcommand_first : {W : Type 0} (f : W → List ℕ) (words : List W) (word : W) (text : List ℕ) → 1 ≤ length words → word ≡ slice_index_or words 0 word → text ≡ f word
    → asked_after (map f (take (length words - 1) (drop 1 words))) (subcommand_of text) ≡ asked_by (map f words)
subcommand_first f words word text some is spelled = sym (ap asked_by (front_words f words word text some is spelled))

-- what sound arguments ask for
pub sound_asked : (subcommand : Subcommand) (options : List (List ℕ)) (arguments : List Argument) (netlists : List (List ℕ)) (found : Option Asked) (sound : Bool) → options ≡ options_of subcommand → sound ≡ are_sound options arguments
    → sound ≡ true → netlists ≡ netlists_of arguments → found ≡ asked_with subcommand netlists arguments → found ≡ asked_from subcommand arguments
sound_asked subcommand options arguments netlists found sound o s t n e =
    e ∙ ap (λ ns. asked_with subcommand ns arguments) n
    ∙ sym (ap (λ b. cond b (asked_with subcommand (netlists_of arguments) arguments) None) (ap (λ os. are_sound os arguments) (sym o) ∙ sym s ∙ t))

-- what others ask for
pub unsound_asked : (subcommand : Subcommand) (options : List (List ℕ)) (arguments : List Argument) (sound : Bool) → options ≡ options_of subcommand → sound ≡ are_sound options arguments → sound ≡ false
    → None ≡ asked_from subcommand arguments
unsound_asked subcommand options arguments sound o s t = sym (ap (λ b. cond b (asked_with subcommand (netlists_of arguments) arguments) None) (ap (λ os. are_sound os arguments) (sym o) ∙ sym s ∙ t))
