-- Paths of which the bits are in the row stay so when they are put together by their outputs.
use Rattle.std.specs.Prelude.{◌≡◌, ℕ, ◌<◌, ◌==◌, All, List, [], ◌∷◌, ◌++◌, Bool, true, false, length, map, filter, slice_index_or, if◌then◌else◌}
use Rattle.std.specs.List.{AllByRecursion, list_any}
use Rattle.std.proofs.Common.{sym, ap, subst}
use Rattle.std.proofs.lemmas.List.Elements.{All-from_recursion, All-push, recursion_from_All}
use Rattle.elab_laws.specs.Handing.{all_bits}
use Rattle.elab_model.specs.Names.{Variable}
use Rattle.sg_delay.specs.declared.limits.PulseStyle.{PulseStyle}
use Rattle.elab_ends.specs.Seen.{AreInRow}
use Rattle.specify_paths.specs.Seen.{ArePathsInRow, IsInRow, IsPathInRow}
use Rattle.specify_paths.specs.Words.{Output, first_to_each, grouped, output_at, output_kept, paths_at}
use Rattle.specify_paths.specs.declared.grouping.PathOutput as code_output
use Rattle.specify_paths.specs.declared.pairs.ModulePath.{ModulePath}
use Rattle.specify_paths.specs.declared.pairs.PathTo.{PathTo}

pub item-in_row : (vs : List Variable) (xs : List ℕ) (i x : ℕ) → i < length xs → x ≡ slice_index_or xs i x → AreInRow vs xs → x < length (all_bits vs)
item-in_row vs xs i x lt at h = subst (λ k. k < length (all_bits vs)) (sym at) (h i x lt)

module _ (vs : List Variable) (statements : ℕ) where
  pub path-in_row : (p : PathTo) (i o s : ℕ) → p.path.input ≡ i → p.output ≡ o → p.path.statement ≡ s → i < length (all_bits vs) → o < length (all_bits vs) → s < statements → IsPathInRow vs statements p
  path-in_row p i o s input output number i_in o_in s_in = record {
    output_in_row = subst (λ k. k < length (all_bits vs)) (sym output) o_in;
    input_in_row = subst (λ k. k < length (all_bits vs)) (sym input) i_in;
    statement_listed = subst (λ k. k < statements) (sym number) s_in;
  }

  pub one-more_in_row : (list new : List PathTo) (p : PathTo) → new ≡ list ++ p ∷ [] → IsPathInRow vs statements p → ArePathsInRow vs statements list → ArePathsInRow vs statements new
  one-more_in_row list new p grown one all = subst (ArePathsInRow vs statements) (sym grown) (All-push (IsPathInRow vs statements) list p all one)

  -- what holds of all paths holds of those that lead to an output
  paths-in : (Q : ModulePath → Type 0) (b : ℕ) (ps : List PathTo) → ((p : PathTo) → IsPathInRow vs statements p → Q p.path) → AllByRecursion (IsPathInRow vs statements) ps → AllByRecursion Q (paths_at b ps)
  paths-in Q b [] f h = tt
  paths-in Q b (p ∷ ps) f h = by (b == p.output) (f p h.0) (paths-in Q b ps f h.1)
    where
      by : (t : Bool) → Q p.path → AllByRecursion Q (paths_at b ps) → AllByRecursion Q (map (λ q. q.path) (if t then p ∷ filter (λ q. b == q.output) ps else filter (λ q. b == q.output) ps))
      by true here rest = (here, rest)
      by false here rest = rest

  firsts-in : (seen : List ℕ) (ps : List PathTo) → AllByRecursion (IsPathInRow vs statements) ps → AllByRecursion (IsPathInRow vs statements) (first_to_each seen ps)
  firsts-in seen [] h = tt
  firsts-in seen (p ∷ ps) h = by (list_any (λ k. p.output == k) seen) (firsts-in seen ps h.1) (firsts-in (p.output ∷ seen) ps h.1)
    where
      by : (t : Bool) → AllByRecursion (IsPathInRow vs statements) (first_to_each seen ps) → AllByRecursion (IsPathInRow vs statements) (first_to_each (p.output ∷ seen) ps)
          → AllByRecursion (IsPathInRow vs statements) (if t then first_to_each seen ps else p ∷ first_to_each (p.output ∷ seen) ps)
      by true same next = same
      by false same next = (h.0, next)

  one-in : (style : ℕ → PulseStyle) (ps : List PathTo) (f : PathTo) (o : code_output.PathOutput) → output_kept o ≡ output_at style ps f → AllByRecursion (IsPathInRow vs statements) ps → IsPathInRow vs statements f
      → IsInRow vs statements o
  one-in style ps f o e h first =
      let inputs : AllByRecursion (λ m. m.input < length (all_bits vs)) (paths_at f.output ps) = paths-in (λ m. m.input < length (all_bits vs)) f.output ps (λ p r. r.input_in_row) h in
      let numbers : AllByRecursion (λ m. m.statement < statements) (paths_at f.output ps) = paths-in (λ m. m.statement < statements) f.output ps (λ p r. r.statement_listed) h in
      record {
        output_in_row = subst (λ i. i < length (all_bits vs)) (sym (ap (λ k. k.output) e)) first.output_in_row;
        inputs_in_row = All-from_recursion (λ m. m.input < length (all_bits vs)) o.paths.items (subst (AllByRecursion (λ m. m.input < length (all_bits vs))) (sym (ap (λ k. k.paths) e)) inputs);
        statements_listed = All-from_recursion (λ m. m.statement < statements) o.paths.items (subst (AllByRecursion (λ m. m.statement < statements)) (sym (ap (λ k. k.paths) e)) numbers);
      }

  head-is : (o k : Output) (os ks : List Output) → o ∷ os ≡ k ∷ ks → o ≡ k
  head-is o k os ks e = ap (first_or o) e
    where
      first_or : Output → List Output → Output
      first_or d [] = d
      first_or d (x ∷ xs) = x

  tail-is : (o k : Output) (os ks : List Output) → o ∷ os ≡ k ∷ ks → os ≡ ks
  tail-is o k os ks e = ap rest e
    where
      rest : List Output → List Output
      rest [] = []
      rest (x ∷ xs) = xs

  each-in : (style : ℕ → PulseStyle) (ps fs : List PathTo) (os : List code_output.PathOutput) → map output_kept os ≡ map (output_at style ps) fs → AllByRecursion (IsPathInRow vs statements) ps
      → AllByRecursion (IsPathInRow vs statements) fs → AllByRecursion (IsInRow vs statements) os
  each-in style ps fs [] e h g = tt
  each-in style ps [] (o ∷ os) e h g = cc
  each-in style ps (f ∷ fs) (o ∷ os) e h g = (
    one-in style ps f o (head-is (output_kept o) (output_at style ps f) (map output_kept os) (map (output_at style ps) fs) e) h g.0,
    each-in style ps fs os (tail-is (output_kept o) (output_at style ps f) (map output_kept os) (map (output_at style ps) fs) e) h g.1,
  )

  pub outputs-in_row : (style : ℕ → PulseStyle) (ps : List PathTo) (os : List code_output.PathOutput) → map output_kept os ≡ grouped style ps → ArePathsInRow vs statements ps → All (IsInRow vs statements) os
  outputs-in_row style ps os e h =
      let all : AllByRecursion (IsPathInRow vs statements) ps = recursion_from_All (IsPathInRow vs statements) ps h in
      All-from_recursion (IsInRow vs statements) os (each-in style ps (first_to_each [] ps) os e all (firsts-in [] ps all))
