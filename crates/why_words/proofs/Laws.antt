-- What holds of all that the words ask for.
use Rattle.std.proofs.Common.{◌≡◌, ℕ, ◌<◌, ◌≤◌, ◌^◌, List, length, Bool, ◌&&◌, nat_le, refl, sym, subst, arith, Option, Some, None, option_and_then, codes}
use Rattle.std.specs.List.{list_all}
use Rattle.std.proofs.lemmas.Bool.{leb-true}
use Rattle.std.proofs.lemmas.Option.{same_Some}
use Rattle.run_words.specs.Arguments.{Argument, arguments_of}
use Rattle.run_words.specs.Words.{Design, Input, are_sound, default_rounds, design_with, input_of, is_known, is_single, most_digits, most_rounds, most_time_digits, netlists_of, number_up_to, read_or, time_within, value_of}
use Rattle.run_words.proofs.Laws.{both, design_netlists, mapped, rounds_fit, then_some, when_some}
use Rattle.run_words.proofs.NumberLaws.{time_few}
use Rattle.why_words.specs.Words.{Asked, Question, a_net, a_violation, asked_from, asked_of, asked_with, options, question_of}

-- the time of a question
abbrev pub IsSoon : Question → Type 0
IsSoon (a_net name time) = time < 2 ^ 60
IsSoon (a_violation text) = Unit {0}

pub record IsFit (a : Asked) : Type 0 where
  pub netlists : 1 ≤ length a.design.netlists
  pub rounds : 1 ≤ a.rounds
  pub soon : IsSoon a.question

question_fit : (net at violation : Option (List ℕ)) (q : Question) → question_of net at violation ≡ Some q → IsSoon q
question_fit (Some name) (Some text) None q e =
    let found = mapped (a_net name) (time_within most_time_digits text) q e in
    subst IsSoon found.2 (time_few text found.0 found.1)
question_fit (Some name) (Some text) (Some line) q e = cc
question_fit (Some name) None violation q e = cc
question_fit None (Some text) violation q e = cc
question_fit None None violation q e =
    let found = mapped a_violation violation q e in
    subst IsSoon found.2 tt

built : (netlists : List (List ℕ)) (design : Option Design) (input : Option Input) (rounds : Option ℕ) (question : Option Question) (a : Asked)
    → option_and_then (λ d. option_and_then (λ i. option_and_then (λ r. option_and_then (λ q. Some (record { design = d; input = i; rounds = r; question = q })) question) rounds) input) design ≡ Some a
    → 1 ≤ length netlists → ((d : Design) → design ≡ Some d → d.netlists ≡ netlists) → ((r : ℕ) → rounds ≡ Some r → 1 ≤ r) → ((q : Question) → question ≡ Some q → IsSoon q) → IsFit a
built netlists None input rounds question a e some hd hr hq = cc
built netlists (Some d) None rounds question a e some hd hr hq = cc
built netlists (Some d) (Some i) None question a e some hd hr hq = cc
built netlists (Some d) (Some i) (Some r) None a e some hd hr hq = cc
built netlists (Some d) (Some i) (Some r) (Some q) a e some hd hr hq =
    subst IsFit (same_Some (record { design = d; input = i; rounds = r; question = q }) a e)
    (record { netlists = subst (λ (ns : List (List ℕ)). 1 ≤ length ns) (sym (hd d refl)) some; rounds = hr r refl; soon = hq q refl })

with_fit : (netlists : List (List ℕ)) (arguments : List Argument) (a : Asked) → 1 ≤ length netlists → asked_with netlists arguments ≡ Some a → IsFit a
with_fit netlists arguments a some e =
    built netlists (design_with netlists arguments) (input_of (value_of (codes "stim") arguments) (value_of (codes "wave") arguments) (value_of (codes "scope") arguments))
    (read_or default_rounds (number_up_to most_digits most_rounds) (value_of (codes "rounds") arguments)) (question_of (value_of (codes "net") arguments) (value_of (codes "at") arguments) (value_of (codes "violation") arguments))
    a e some (design_netlists netlists arguments) (rounds_fit (value_of (codes "rounds") arguments))
    (question_fit (value_of (codes "net") arguments) (value_of (codes "at") arguments) (value_of (codes "violation") arguments))

from_fit : (arguments : List Argument) (a : Asked) → asked_from arguments ≡ Some a → IsFit a
from_fit arguments a e =
    let parts = when_some (are_sound options arguments) (asked_with (netlists_of arguments) arguments) a e in
    let some = both (list_all (is_known options) arguments && list_all (is_single arguments) options) (nat_le 1 (length (netlists_of arguments))) parts.0 in
    with_fit (netlists_of arguments) arguments a (leb-true 1 (length (netlists_of arguments)) some.1) parts.1

-- what words ask for is fit to be done
pub asked_fit : (words : List (List ℕ)) (a : Asked) → asked_of words ≡ Some a → IsFit a
asked_fit words a e =
    let found = then_some asked_from (arguments_of words) a e in
    from_fit found.0 a found.2
