-- The latest event through a path, one path more at a time.
use Rattle.std.specs.Prelude.{◌≡◌, ℕ, ◌+◌, ◌<◌, ◌≤◌, List, length, slice_index_or, Option}
use Rattle.std.proofs.Common.{subst, sym}
use Rattle.std.proofs.lemmas.List.{length-map}
use Rattle.cond_expr.specs.Condition.{Condition}
use Rattle.sg_circuit.specs.PathsSeen.{path_seen, paths_seen}
use Rattle.sg_circuit.specs.declared.elements.LegTiming.{LegTiming}
use Rattle.sg_circuit.specs.declared.paths.Path.{Path}
use Rattle.why_causes.specs.declared.changes.Candidate.{Candidate}
use Rattle.why_causes.specs.declared.changes.Change.{Change}
use Rattle.why_causes.specs.Best.{later_of}
use Rattle.why_causes.specs.Causes.{through_path, picked_path}
use Rattle.why_causes.specs.Waveform.{Waveform}
use Rattle.why_causes.proofs.DelayLaws.{mapped-at}
use Rattle.why_causes.proofs.LatestLaws.{latest_to, latest-more, latest-all}

module _ (conditions : List Condition) (timings : List LegTiming) (paths : List Path) (w : Waveform) (change : Change) (i : ℕ) where
  pub picked-more : (path d : Path) (best found new : Option Candidate) → i < length paths → path ≡ slice_index_or paths i d → best ≡ latest_to (through_path w change) (paths_seen conditions timings paths) i
      → found ≡ through_path w change (i, path_seen conditions timings path) → new ≡ later_of best found → new ≡ latest_to (through_path w change) (paths_seen conditions timings paths) (i + 1)
  picked-more path d best found new l is e f n =
      let seen = path_seen conditions timings path in
      latest-more (through_path w change) (paths_seen conditions timings paths) i seen seen best found new (subst (λ m. i < m) (sym (length-map paths (path_seen conditions timings))) l)
      (mapped-at (path_seen conditions timings) paths i path d seen l is) e f n

  pub picked-all : (best : Option Candidate) → length paths ≤ i → best ≡ latest_to (through_path w change) (paths_seen conditions timings paths) i → best ≡ picked_path w change (paths_seen conditions timings paths)
  picked-all best l e = latest-all (through_path w change) (paths_seen conditions timings paths) i best (subst (λ m. m ≤ i) (sym (length-map paths (path_seen conditions timings))) l) e
