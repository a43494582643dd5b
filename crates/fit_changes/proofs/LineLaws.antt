-- Laws of lines.
use Rattle.std.specs.Prelude.{ℕ, ◌≡◌, ◌≤◌, ◌<◌, ◌+◌, ◌-◌, ◌||◌, ◌++◌, ◌∷◌, Bool, true, false, List, [], codes, cond, count_by, drop, flat_map, length, map, slice_index_or, take, refl}
use Rattle.std.specs.List.{filter, list_any}
use Rattle.std.specs.List.Sorted.{IsPermutation, IsSortedByKey, IsStableByKey, ties}
use Rattle.std.specs.Ordering.{is_lt}
use Rattle.std.proofs.Common.{◌∙◌, ap, append_assoc, arith, sym}
use Rattle.std.proofs.lemmas.List.{drop-take, drop_more, get_or-map, length-map, take-take}
use Rattle.std.proofs.lemmas.List.Sorted.{IsPermutation-map, length_permutation}
use Rattle.std.proofs.lemmas.List.Sums.{sum_by-take-drop}
use Rattle.fit_changes.specs.Changes.{Change, ChangedText, is_feed}
use Rattle.fit_changes.specs.Lines.{AreSorted, Line, compared, line_of, line_seen, lines_from, lines_of, place_of, told_line}
use Rattle.fit_changes.specs.Report.{count_line, counts_text, rule_line, tells}
use Rattle.fit_changes.specs.Rules.{is_told, rules}
use Rattle.fit_changes.specs.declared.lines.Line as code

-- the line of a byte from that of an earlier one
pub line-later : (text : List ℕ) (from byte : ℕ) → from ≤ byte → line_of text byte ≡ line_of text from + count_by is_feed (take (byte - from) (drop from text))
line-later text from byte le =
    let whole = sum_by-take-drop (λ x. cond (is_feed x) 1 0) (take byte text) from in
    let front : take from (take byte text) ≡ take from text = take-take from byte text le in
    let back : drop from (take byte text) ≡ take (byte - from) (drop from text) = ap (λ n. drop from (take n text)) (let e : byte ≡ from + (byte - from) = omega arith in e) ∙ drop-take from (byte - from) text in
    let one = ap (count_by is_feed) front in
    let two = ap (count_by is_feed) back in
    omega (arith, whole, one, two)

pub any-seen : (lines : List code.Line) → list_any (λ l. is_told l.rule) lines ≡ list_any tells (map line_seen lines)
any-seen [] = refl
any-seen (l ∷ ls) = ap (λ b. is_told l.rule || b) (any-seen ls)

-- ---- one file more

pub file-more : (before now : List Line) (list : List ChangedText) (k : ℕ) (item : ChangedText) (text : List ℕ) (changes : List Change) (file next : ℕ) (all : List Line) → k < length list
    → item ≡ slice_index_or list k item → text ≡ item.text → changes ≡ item.changes → next ≡ file + 1
    → before ++ lines_from file (drop k list) ≡ all → now ≡ before ++ map (λ c. told_line file (line_of text c.byte) c) changes → now ++ lines_from next (drop (k + 1) list) ≡ all
file-more before now list k item text changes file next all lt is t c n e more =
    let own = lines_of file item in
    let rest = lines_from (file + 1) (drop (k + 1) list) in
    let as-own : map (λ c. told_line file (line_of text c.byte) c) changes ≡ own = ap (λ u. map (λ (c : Change). told_line file (line_of u c.byte) c) changes) t ∙ ap (map (λ c. told_line file (line_of item.text c.byte) c)) c in
    ap (λ m. now ++ lines_from m (drop (k + 1) list)) n ∙ ap (λ ls. ls ++ rest) (more ∙ ap (λ ls. before ++ ls) as-own) ∙ append_assoc before own rest
    ∙ ap (λ i. before ++ lines_from file (i ∷ drop (k + 1) list)) is ∙ ap (λ ts. before ++ lines_from file ts) (sym (drop_more list k item lt)) ∙ e

-- ---- lines in order, as the code has them and as they are seen

abbrev place : code.Line → ℕ × ℕ
place l = (l.file, l.number)

filtered : (p : Line → Bool) (b : Bool) (x : code.Line) (xs : List code.Line) (ys : List Line) → ys ≡ map line_seen xs → cond b (line_seen x ∷ ys) ys ≡ map line_seen (cond b (x ∷ xs) xs)
filtered p true x xs ys e = ap (λ ls. line_seen x ∷ ls) e
filtered p false x xs ys e = e

filter-seen : (p : Line → Bool) (xs : List code.Line) → filter p (map line_seen xs) ≡ map line_seen (filter (λ l. p (line_seen l)) xs)
filter-seen p [] = refl
filter-seen p (x ∷ xs) = filtered p (p (line_seen x)) x (filter (λ l. p (line_seen l)) xs) (filter p (map line_seen xs)) (filter-seen p xs)

none-left : (ys : List code.Line) → length ys ≡ 0 → ys ≡ []
none-left [] e = refl
none-left (y ∷ ys) e = absurd (omega arith)

stable-seen : (xs ys : List code.Line) → IsPermutation xs ys → IsStableByKey place compared xs ys → IsStableByKey place_of compared (map line_seen xs) (map line_seen ys)
stable-seen [] ys p s x = ap (λ ls. filter (ties (λ (x y : Line). is_lt (compared (place_of x) (place_of y))) x) (map line_seen ls)) (none-left ys (length_permutation [] ys p))
stable-seen (l ∷ ls) ys p s x =
    let at = ties (λ (x y : Line). is_lt (compared (place_of x) (place_of y))) x in
    filter-seen at ys ∙ ap (map line_seen) (s (record l { file = x.file; number = x.number })) ∙ sym (filter-seen at (l ∷ ls))

sorted-at : (ys : List code.Line) (e : code.Line) (k : ℕ) (d : Line) → k + 1 < length ys → IsSortedByKey place compared ys
    → is_lt (compared (place_of (slice_index_or (map line_seen ys) (k + 1) d)) (place_of (slice_index_or (map line_seen ys) k d))) ≡ false
sorted-at ys e k d lt s =
    let one : slice_index_or (map line_seen ys) k d ≡ line_seen (slice_index_or ys k e) = get_or-map line_seen ys k e d (omega (arith, lt)) in
    let two : slice_index_or (map line_seen ys) (k + 1) d ≡ line_seen (slice_index_or ys (k + 1) e) = get_or-map line_seen ys (k + 1) e d lt in
    ap (λ l. is_lt (compared (place_of l) (place_of (slice_index_or (map line_seen ys) k d)))) two ∙ ap (λ l. is_lt (compared (place_of (line_seen (slice_index_or ys (k + 1) e))) (place_of l))) one
    ∙ s k e (omega arith) lt

sorted-seen : (ys : List code.Line) → IsSortedByKey place compared ys → IsSortedByKey place_of compared (map line_seen ys)
sorted-seen [] s k d low lt = absurd (omega (arith, lt))
sorted-seen (y ∷ ys) s k d low lt = sorted-at (y ∷ ys) y k d (let e = length-map (y ∷ ys) line_seen in omega (arith, e, lt)) s

pub are-sorted : (xs ys : List code.Line) → IsPermutation xs ys → IsSortedByKey place compared ys → IsStableByKey place compared xs ys → AreSorted (map line_seen xs) (map line_seen ys)
are-sorted xs ys p o s = record { same = IsPermutation-map line_seen xs ys p; in_order = sorted-seen ys o; stable = stable-seen xs ys p s }

-- ---- counts

pub counted : (old mid new : List ℕ) (lines : List Line) (n : ℕ) → mid ≡ old ++ flat_map (rule_line lines) rules → n ≡ length lines → new ≡ mid ++ count_line (codes "changes") n → new ≡ old ++ counts_text lines
counted old mid new lines n each number e =
    e ∙ ap (λ m. mid ++ count_line (codes "changes") m) number ∙ ap (λ t. t ++ count_line (codes "changes") (length lines)) each ∙ append_assoc old (flat_map (rule_line lines) rules) (count_line (codes "changes") (length lines))
