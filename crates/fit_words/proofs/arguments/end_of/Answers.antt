use Rattle.std.proofs.Common.{◌≡◌, ◌≤◌, ℕ, ap, ◌∙◌, sym, subst, length, string_bytes, unwrap_or}
use Rattle.std.specs.List.{position_or_len}
use Rattle.fit_words.specs.Arguments.{is_end}
use Rattle.fit_words.proofs.ArgumentLaws.{place_or_end, place_within}
use Rattle.fit_words.proofs.arguments.end_of.Goals as goal

pub returns : goal.returns
returns c =
    let words = c.args.words.now in
    let at : c.unwrap_or.result ≡ position_or_len (λ w. is_end (string_bytes w)) words =
    c.unwrap_or.ensures ∙ ap (λ o. unwrap_or o (length words)) c.first_end.ensures ∙ place_or_end (λ w. is_end (string_bytes w)) words in
    record {
      place = at;
      within = let P : ℕ → Type 0 = λ n. n ≤ length words in subst P (sym at) (place_within (λ w. is_end (string_bytes w)) words);
    }
