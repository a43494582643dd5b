-- Texts that are no body of any moment.
use Rattle.std.proofs.Common.{◌≡◌, ℕ, ℤ, ◌-◌, List, [], ◌∷◌, ◌++◌, length, refl, sym, ◌∙◌, ap, subst, arith}
use Rattle.std.proofs.lemmas.List.{append-nil, length-append}
use Rattle.sim_rounds.specs.Moments.{Moment}
use Rattle.sim_save.specs.Faults.{BeginBody, IsNoBody, at_end, at_line, lines_in}
use Rattle.sim_save.specs.Lines.{body, joined, save_lines}
use Rattle.sim_save.specs.Steps.{EndsEarly, Head, Leads, Nothing, Takes}
use Rattle.sim_save.proofs.LineLaws.{FirstLine, first_line, lines_of_joined, saved_are_lines}
use Rattle.sim_save.proofs.MomentLaws.{begins, leads_begun, leads_moment}
use Rattle.sim_save.proofs.StepLaws.{leads_lines, leads_one, leads_split, uncons}

-- the lines of a body are a moment's
pub lines_of_body : (tick : ℤ) (elements : ℕ) (m : Moment) (rest : List ℕ) → lines_in (body tick elements m ++ rest) ≡ save_lines tick elements m ++ lines_in rest
lines_of_body tick elements m rest = lines_of_joined (save_lines tick elements m) rest (saved_are_lines tick elements m)

-- a half that ends with the lines so far, which aren't all
no_more : (half : List ℕ) (left : ℕ) (e : EndsEarly Head half left) → e.rest ≡ [] → IsNoBody half (length half - left)
no_more half left e none =
    let lines = e.lines in
    let whole : half ≡ joined lines = e.is ∙ (ap (λ t. joined lines ++ t) none ∙ append-nil (joined lines)) in
    let all : lines_in half ≡ lines =
    ap lines_in (whole ∙ sym (append-nil (joined lines))) ∙ (lines_of_joined lines [] (leads_lines lines e.leads) ∙ append-nil lines) in
    let size : length half ≡ length half - left = let n : length e.rest ≡ 0 = ap length none in omega (arith, e.many, n) in
    subst (IsNoBody half) size
    (at_end (subst BeginBody (sym all) (begins lines e.need e.leads))
    (λ tick elements m h.
    let same : lines_in half ≡ save_lines tick elements m = ap lines_in (h.text ∙ sym (append-nil (body tick elements m))) ∙ (lines_of_body tick elements m [] ∙ append-nil (save_lines tick elements m)) in
    e.early (leads_one lines e.leads (subst (λ ls. Leads Head ls Nothing) (sym same ∙ all) (leads_moment tick elements m h.numbers))) none))

-- a half with a line behind them that doesn't go on
bad_line : (half : List ℕ) (left : ℕ) (e : EndsEarly Head half left) → FirstLine e.rest → IsNoBody half (length half - left)
bad_line half left e f =
    let lines = e.lines in
    let all : lines_in half ≡ lines ++ f.first ∷ f.after =
    ap lines_in e.is ∙ (lines_of_joined lines e.rest (leads_lines lines e.leads) ∙ ap (λ ls. lines ++ ls) f.lines) in
    let size : length (joined lines) ≡ length half - left = let n = ap length e.is in let m = length-append (joined lines) e.rest in omega (arith, e.many, n, m) in
    subst (IsNoBody half) size
    (at_line lines f.first f.after all (begins lines e.need e.leads)
    (λ b.
    let r = leads_begun (lines ++ f.first ∷ []) b in
    let s = leads_split lines (f.first ∷ []) r.1 in
    let u = uncons s.2 in
    let here = leads_one lines s.1 e.leads in
    e.ends f.first f.rest u.0 f.is (subst (λ n. Takes n f.first u.0) here u.1)))

no_body_by : (half : List ℕ) (left : ℕ) (e : EndsEarly Head half left) (rest : List ℕ) → e.rest ≡ rest → IsNoBody half (length half - left)
no_body_by half left e [] same = no_more half left e same
no_body_by half left e (b ∷ bs) same = bad_line half left e (subst FirstLine (sym same) (first_line b bs))

pub no_body : (half : List ℕ) (left : ℕ) → EndsEarly Head half left → IsNoBody half (length half - left)
no_body half left e = no_body_by half left e e.rest refl
