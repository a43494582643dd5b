-- The specify paths of a module in turn: what those so far say, their paths, and the faults of the others.
use Rattle.std.specs.Prelude.{◌≡◌, ℕ, ◌+◌, ◌<◌, All, List, [], ◌∷◌, ◌++◌, flat_map, length, map, slice_index_or, take}
use Rattle.std.specs.Borrow.{Bor}
use Rattle.std.proofs.Common.{sym, arith, subst}
use Rattle.sg_text.specs.declared.refusals.Refused.{Refused}
use Rattle.elab_model.specs.declared.kinds.ElabKind.{ElabKind}
use Rattle.elab_model.specs.Faults.{RefusesOneOf}
use Rattle.elab_model.specs.Names.{Variable}
use Rattle.vl_tree.specs.Seen.{view_path}
use Rattle.vl_tree.specs.declared.paths.SpecifyPath as code_path
use Rattle.vl_tree.specs.Tree.{SpecifyPath}
use Rattle.specify_model.specs.Faults.{path_faults}
use Rattle.specify_model.specs.Paths.{paths_of}
use Rattle.specify_model.specs.PulseLimits.{Limits}
use Rattle.elab_model.specs.Terms.{pairs}
use Rattle.specify_model.specs.Values.{Measure, Values}
use Rattle.specify_values.proofs.InTurn.{left_from, next-faultless, this-refused}
use Rattle.elab_ends.specs.Seen.{bits_seen}
use Rattle.specify_paths.specs.Seen.{AreEnds, ArePathsInRow, path_to_seen, path_said, said_at, said_by, said_of}
use Rattle.specify_paths.specs.Spelled.{IsSpelled}
use Rattle.specify_paths.specs.declared.ends.Ends.{Ends}
use Rattle.specify_paths.specs.declared.pairs.PathTo.{PathTo}
use Rattle.specify_paths.specs.declared.statements.Statement.{Statement}
use Rattle.specify_paths.proofs.Added.{grown-all}
use Rattle.specify_paths.proofs.Between.{all_said, next-paths, next-said, number-is, said_so_far}

abbrev pub view : Bor code_path.SpecifyPath → SpecifyPath
view p = view_path p.now

module _ (by : Measure) (vs : List Variable) (values : Values) (limits : Limits) (xs : List (Bor code_path.SpecifyPath)) where
  pub record AreSoFar (i : ℕ) (ss : List Statement) (list : List PathTo) : Type 0 where
    pub said : map (said_by vs) ss ≡ said_so_far view by vs values xs i
    pub seen : map (path_to_seen vs (all_said view by vs values xs)) list ≡ flat_map (paths_of by vs values limits) (map view (take i xs))
    pub row : ArePathsInRow vs (length xs) list
    pub spelled : All (λ s. IsSpelled s.condition) ss
    pub left : left_from view (path_faults by vs values) xs i

  -- the number of the next
  next-number : (i n : ℕ) (x : Bor code_path.SpecifyPath) (ss : List Statement) (list : List PathTo) → AreSoFar i ss list → i < length xs → n ≡ length ss → n ≡ i
  next-number i n x ss list h lt count = number-is view by vs values xs i n ss (omega (arith, lt)) count h.said

  -- one more
  pub next-so_far : (i k n : ℕ) (x : Bor code_path.SpecifyPath) (e : Ends) (s : Statement) (ss more : List Statement) (list new : List PathTo) → k ≡ i + 1 → AreSoFar i ss list → i < length xs
      → x ≡ slice_index_or xs i x → n ≡ length ss → AreEnds vs (view x) e → said_by vs s ≡ said_of by vs values (view x) → IsSpelled s.condition
      → map (path_to_seen vs (all_said view by vs values xs)) new ≡ map (path_to_seen vs (all_said view by vs values xs)) list
      ++ map (path_said (said_at (all_said view by vs values xs) n) (view x).place limits) (pairs (view x).arrow (bits_seen vs e.inputs.items) (bits_seen vs e.outputs.items))
      → ((statements : ℕ) → n < statements → ArePathsInRow vs statements list → ArePathsInRow vs statements new) → more ≡ ss ++ s ∷ [] → path_faults by vs values (view x) ≡ [] → AreSoFar k more new
  next-so_far i k n x e s ss more list new next h lt at count ends says spelled grown rows pushed faultless =
      let number : n ≡ i = next-number i n x ss list h lt count in
      subst (λ j. AreSoFar j more new) (sym next)
      (record {
        said = next-said view by vs values xs i x s ss more lt at pushed says h.said;
        seen =
            next-paths view by vs values xs limits i n x (bits_seen vs e.inputs.items) (bits_seen vs e.outputs.items) (map (path_to_seen vs (all_said view by vs values xs)) list)
            (map (path_to_seen vs (all_said view by vs values xs)) new) lt at number grown ends.inputs_are ends.outputs_are h.seen;
        row = rows (length xs) (omega (arith, number, lt)) h.row;
        spelled = grown-all (λ t. IsSpelled t.condition) ss more s pushed h.spelled spelled;
        left = next-faultless view (path_faults by vs values) xs i x lt at faultless h.left;
      })

  pub next-refused : (i : ℕ) (x : Bor code_path.SpecifyPath) (ss : List Statement) (list : List PathTo) (r : Refused ElabKind) → AreSoFar i ss list → i < length xs → x ≡ slice_index_or xs i x
      → RefusesOneOf (path_faults by vs values (view x)) r → RefusesOneOf (flat_map (path_faults by vs values) (map view xs)) r
  next-refused i x ss list r h lt at told = this-refused view (path_faults by vs values) xs i x r lt at h.left told
