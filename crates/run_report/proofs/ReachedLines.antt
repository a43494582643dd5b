-- The line of a byte, from that of one before it.
use Rattle.std.proofs.Common.{◌≡◌, ◌∙◌, sym, ap, refl, ℕ, ◌+◌, ◌-◌, ◌≤◌, List, ◌++◌, length, take, drop, min, arith, Bool}
use Rattle.std.proofs.Math.Seq.{take-add}
use Rattle.std.proofs.lemmas.List.{length-append, take_min}
use Rattle.std.proofs.lemmas.List.Elements.{filter-append}
use Rattle.std.proofs.lemmas.List.Sums.{length-filter}
use Rattle.std.specs.Prelude.{count_by, ◌==◌}
use Rattle.std.specs.List.{filter}
use Rattle.sdf_annotate.specs.declared.unmatched.Unmatched.{Unmatched}
use Rattle.run_report.specs.Report as report
use Rattle.run_report.specs.Reporting.{IsReached, unmatched_seen}
use Rattle.run_report.specs.Texts.{line_of}
use Rattle.run_report.specs.declared.unmatched.Reached.{Reached}

count_append : {X : Type 0} (p : X → Bool) (xs ys : List X) → count_by p (xs ++ ys) ≡ count_by p xs + count_by p ys
count_append p xs ys =
    let both : length (filter p (xs ++ ys)) ≡ length (filter p xs) + length (filter p ys) = ap length (filter-append p xs ys) ∙ length-append (filter p xs) (filter p ys) in
    omega (arith, both, length-filter p (xs ++ ys), length-filter p xs, length-filter p ys)

-- more bytes: those before, and those between
line_further : (sdf : List ℕ) (start end : ℕ) → start ≤ end → line_of sdf end ≡ line_of sdf start + count_by (λ b. b == 10) (take (end - start) (drop start sdf))
line_further sdf start end l =
    let sum : end ≡ start + (end - start) = omega arith in
    let parts : take end sdf ≡ take start sdf ++ take (end - start) (drop start sdf) = ap (λ n. take n sdf) sum ∙ take-add start (end - start) sdf in
    let counted : count_by (λ b. b == 10) (take end sdf) ≡ count_by (λ b. b == 10) (take start sdf) + count_by (λ b. b == 10) (take (end - start) (drop start sdf)) =
    ap (count_by (λ b. b == 10)) parts ∙ count_append (λ b. b == 10) (take start sdf) (take (end - start) (drop start sdf)) in
    omega (arith, counted)

-- past the end nothing more is counted
line_within : (sdf : List ℕ) (byte end : ℕ) → end ≡ min (length sdf) byte → line_of sdf end ≡ line_of sdf byte
line_within sdf byte end e =
    let swapped : end ≡ min byte (length sdf) = omega arith in
    ap (λ bytes. 1 + count_by (λ b. b == 10) bytes) (ap (λ n. take n sdf) swapped ∙ take_min byte sdf)

pub front_reached : (sdf : List ℕ) → IsReached sdf (record { end = 0; line = 1 })
front_reached sdf = record { within = omega arith; line = refl }

-- from what was reached on, over the bytes between
pub is_reached : (sdf : List ℕ) (start : Reached) (byte end breaks : ℕ) → IsReached sdf start → end ≡ min (length sdf) byte → start.end ≤ end
    → breaks ≡ count_by (λ b. b == 10) (take (end - start.end) (drop start.end sdf)) → IsReached sdf (record { end = end; line = start.line + breaks })
is_reached sdf start byte end breaks r e l c = record {
  within = omega (arith, e);
  line = ap (λ n. n + breaks) r.line ∙ (ap (λ n. line_of sdf start.end + n) c ∙ sym (line_further sdf start.end end l));
}

pub line_of_byte : (sdf : List ℕ) (byte : ℕ) (r : Reached) → IsReached sdf r → r.end ≡ min (length sdf) byte → r.line ≡ line_of sdf byte
line_of_byte sdf byte r h e = h.line ∙ line_within sdf byte r.end e

-- the line of an entry and its word
pub entry_seen : (sdf : List ℕ) (u : Unmatched) (line : ℕ) → line ≡ line_of sdf u.place.byte → ◌≡◌ {A = report.Unmatched} (record { line = line; word = u.word }) (unmatched_seen sdf u)
entry_seen sdf u line e = ap (λ n. record { line = n; word = u.word }) e
