-- The inner nets of an instance stay where they are, and those of the next come behind.
use Rattle.std.specs.Prelude.{◌≡◌, ℕ, List, [], ◌∷◌, ◌++◌, length, map}
use Rattle.std.proofs.Common.{◌∙◌, arith, length-append}
use Rattle.std.proofs.lemmas.List.{length-map}
use Rattle.vl_tree.specs.Tree.{Module, Source}
use Rattle.elab_model.specs.Ends.{path_ends}
use Rattle.elab_model.specs.Hierarchy.{Instance}
use Rattle.elab_nets.specs.Turns.{HasEnds, end_number}
use Rattle.elab_nets.proofs.RowParts.{get-grown, at-end, part-grown, part-behind}

pub kept-ends : (source : Source) (top : Module) (numbers more places later : List ℕ) (s : Instance) → HasEnds source top numbers places s → HasEnds source top (numbers ++ more) (places ++ later) s
kept-ends source top numbers more places later s h =
    let w = h.within in
    let l = length-append numbers more in
    record {
      start = h.start;
      there = get-grown places later s.step.number h.start h.there;
      within = omega arith;
      ends = part-grown numbers more h.start (length (path_ends s.step.definition)) w ∙ h.ends;
    }

pub new-ends : (source : Source) (top : Module) (numbers places : List ℕ) (s : Instance) → length places ≡ s.step.number
    → HasEnds source top (numbers ++ map (end_number source top s) (path_ends s.step.definition)) (places ++ length numbers ∷ []) s
new-ends source top numbers places s e =
    let row = map (end_number source top s) (path_ends s.step.definition) in
    let count : length row ≡ length (path_ends s.step.definition) = length-map (path_ends s.step.definition) (end_number source top s) in
    let l = length-append numbers row in
    record { start = length numbers; there = at-end places (length numbers) s.step.number e; within = omega arith; ends = part-behind numbers row (length (path_ends s.step.definition)) count }
