-- The lines that the reader has made.
use Rattle.std.proofs.Common.{ℕ, ◌≡◌, ◌+◌, ◌-◌, ◌<◌, ◌≤◌, List, [], ◌∷◌, ◌++◌, length, map, take, drop, refl, sym, ap, ◌∙◌, subst, arith}
use Rattle.std.specs.Prelude.{Some, None, position}
use Rattle.std.specs.List.{slice_split}
use Rattle.std.proofs.lemmas.List.{map-append, length-take, length-drop}
use Rattle.stim_read.specs.declared.lines.Line as code_line
use Rattle.stim_read.specs.Lines.{Line, placed, without_return}
use Rattle.stim_read.specs.Seen.{line_seen}
use Rattle.stim_read.proofs.Slices.{from-place}
use Rattle.stim_read.proofs.LineLaws.{is_feed, next-line, last-line}

one-made : (new old : List code_line.Line) (l : code_line.Line) → new ≡ old ++ l ∷ [] → map (λ x. line_seen x) new ≡ map (λ x. line_seen x) old ++ line_seen l ∷ []
one-made new old l e = ap (map (λ x. line_seen x)) e ∙ map-append (λ x. line_seen x) old (l ∷ [])

row-is : (start size : ℕ) (text : List ℕ) → take (start + size - start) (drop start text) ≡ take size (drop start text)
row-is start size text = ap (λ k. take k (drop start text)) (omega arith)

row-long : (size : ℕ) (rest : List ℕ) → size < length rest → length (take size rest) ≡ size
row-long size rest h = let l = length-take size rest in omega (arith, l)

-- a row stands inside the text
pub row-within : (start size : ℕ) (text : List ℕ) → size < length (take (length text - start) (drop start text)) → (start + size + 1 ≤ length text) × (length (take (start + size - start) (drop start text)) ≡ size)
row-within start size text h =
    let l = length-drop start text in
    let w = ap length (from-place start text) in
    let r = ap length (row-is start size text) in
    let k = length-take size (drop start text) in
    (omega (arith, l, w), omega (arith, l, w, r, k))

pub made-next : (all : List Line) (text : List ℕ) (new old : List code_line.Line) (l : code_line.Line) (start size : ℕ) → new ≡ old ++ l ∷ []
    → Some size ≡ position is_feed (take (length text - start) (drop start text)) → size < length (take (length text - start) (drop start text))
    → l.start ≡ start → l.bytes.now ≡ without_return (take (start + size - start) (drop start text))
    → all ≡ map (λ x. line_seen x) old ++ placed start (slice_split is_feed (drop start text))
    → all ≡ map (λ x. line_seen x) new ++ placed (start + (size + 1)) (slice_split is_feed (drop (start + (size + 1)) text))
made-next all text new old l start size e at lt s b completes =
    let row : List ℕ = take size (drop start text) in
    let whole = from-place start text in
    let same : line_seen l ≡ record { start = start; bytes = without_return row } = rw (s, b) (ap (λ r. record { start = start; bytes = without_return r }) (row-is start size text)) in
    next-line all (map (λ x. line_seen x) old) start size text row (at ∙ ap (position is_feed) whole) refl (row-long size (drop start text) (subst (λ r. size < length r) whole lt)) completes
    ∙ ap (λ x. x ++ placed (start + (size + 1)) (slice_split is_feed (drop (start + (size + 1)) text))) (sym (one-made new old l e ∙ ap (λ x. map (λ y. line_seen y) old ++ x ∷ []) same))

pub made-last : (all : List Line) (text : List ℕ) (new old : List code_line.Line) (l : code_line.Line) (start : ℕ) → new ≡ old ++ l ∷ []
    → None ≡ position is_feed (take (length text - start) (drop start text))
    → l.start ≡ start → l.bytes.now ≡ take (length text - start) (drop start text)
    → all ≡ map (λ x. line_seen x) old ++ placed start (slice_split is_feed (drop start text))
    → map (λ x. line_seen x) new ≡ all
made-last all text new old l start e none s b completes =
    let whole = from-place start text in
    let same : line_seen l ≡ record { start = start; bytes = drop start text } = rw (s, b) (ap (λ r. record { start = start; bytes = r }) whole) in
    one-made new old l e ∙ ap (λ x. map (λ y. line_seen y) old ++ x ∷ []) same ∙ last-line all (map (λ x. line_seen x) old) start text (none ∙ ap (position is_feed) whole) completes

pub none-made : (text : List ℕ) (made : List code_line.Line) → made ≡ [] → placed 0 (slice_split is_feed text) ≡ map (λ x. line_seen x) made ++ placed 0 (slice_split is_feed text)
none-made text made e = rw e refl
