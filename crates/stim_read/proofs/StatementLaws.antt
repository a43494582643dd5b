-- The statements of lines, one after another.
use Rattle.std.proofs.Common.{inl, inr, ℕ, ◌≡◌, ◌++◌, List, [], ◌∷◌, map, true, false, refl, sym, ap, ◌∙◌}
use Rattle.std.proofs.lemmas.Bool.{cases_Bool}
use Rattle.std.proofs.lemmas.List.{append_assoc, append-nil, map-append}
use Rattle.stim_read.specs.declared.lines.Line as code_line
use Rattle.stim_read.specs.declared.statements.Stated as code_stated
use Rattle.stim_read.specs.Lines.{Line, is_passed_over, statement, words, lines}
use Rattle.stim_read.specs.Forms.{Stated, form_in, all_stated}
use Rattle.stim_read.specs.Seen.{decimals, line_seen, stated_seen, stated_lines}

stated-first : (l : Line) (ls : List Line) → stated_lines (l ∷ ls) ≡ stated_lines (l ∷ []) ++ stated_lines ls
stated-first l ls = elim (cases_Bool (is_passed_over (words l.bytes))) [
  | inl y ↦ rw y refl
  | inr n ↦ rw n refl
]

-- a line without a statement
pub none-stated : (l : Line) (old : List Stated) → is_passed_over (words l.bytes) ≡ true → old ≡ old ++ stated_lines (l ∷ [])
none-stated l old e = rw e (sym (append-nil old))

-- a line with one
pub one-stated : (l : Line) (new old : List code_stated.Stated) (s : code_stated.Stated) → new ≡ old ++ s ∷ [] → is_passed_over (words l.bytes) ≡ false → stated_seen s ≡ record { byte = (statement l).byte; form = form_in decimals (words l.bytes) }
    → map (λ x. stated_seen x) new ≡ map (λ x. stated_seen x) old ++ stated_lines (l ∷ [])
one-stated l new old s e n is = ap (map (λ x. stated_seen x)) e ∙ map-append (λ x. stated_seen x) old (s ∷ []) ∙ ap (λ x. map (λ y. stated_seen y) old ++ x ∷ []) is ∙ rw n refl

-- one line more
pub line-stated : (all : List Stated) (rest : List code_line.Line) (l : code_line.Line) (more : List code_line.Line) (new old : List Stated) → rest ≡ l ∷ more → new ≡ old ++ stated_lines (line_seen l ∷ [])
    → all ≡ old ++ stated_lines (map (λ x. line_seen x) rest) → all ≡ new ++ stated_lines (map (λ x. line_seen x) more)
line-stated all rest l more new old e n h =
    h ∙ ap (λ x. old ++ stated_lines (map (λ y. line_seen y) x)) e ∙ ap (λ x. old ++ x) (stated-first (line_seen l) (map (λ y. line_seen y) more))
    ∙ sym (append_assoc old (stated_lines (line_seen l ∷ [])) (stated_lines (map (λ y. line_seen y) more)))
    ∙ ap (λ x. x ++ stated_lines (map (λ y. line_seen y) more)) (sym n)

pub lines-stated : (text : List ℕ) (made : List code_line.Line) → map (λ x. line_seen x) made ≡ lines text → all_stated decimals text ≡ stated_lines (map (λ x. line_seen x) made)
lines-stated text made e = ap stated_lines (sym e)

pub all-lines-stated : (all new : List Stated) (rest : List code_line.Line) → rest ≡ [] → all ≡ new ++ stated_lines (map (λ x. line_seen x) rest) → new ≡ all
all-lines-stated all new rest e h = sym (h ∙ ap (λ x. new ++ stated_lines (map (λ y. line_seen y) x)) e ∙ append-nil new)
