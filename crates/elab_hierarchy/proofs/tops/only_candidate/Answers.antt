-- The first candidate, a second one, or none more.
use Rattle.std.proofs.Common.{◌<◌, ◌≡◌, ◌+◌, length, arith, ap, ◌∙◌, sym, refl, subst, map, List, ℕ}
use Rattle.vl_tree.specs.Seen.{view_part}
use Rattle.elab_declared.specs.Words.{is_seen}
use Rattle.elab_hierarchy.specs.Tops.{RefusesChoice, chosen, is_candidate_of}
use Rattle.elab_hierarchy.proofs.Chosen.{FoundSoFar, part-at, not-chosen, is-chosen, is-none, is-some, first-chosen, second-chosen, none-chosen, one-chosen}
use Rattle.std.proofs.lemmas.List.{length-map}
use Rattle.elab_hierarchy.proofs.tops.only_candidate.Goals.{then-is_candidate+else-is_some, else-is_candidate}
use Rattle.elab_hierarchy.proofs.tops.only_candidate.Goals as goal

pub returns-then-is_some-clause-refused : goal.returns-then-is_some-clause-refused
returns-then-is_some-clause-refused c =
    let used = λ (n : List ℕ). is_seen n c.args.used.now.keys in
    let ps = map view_part c.args.parts.now in
    let lt : c.loop-place.place < length c.args.parts.now = omega arith in
    let at = part-at c.index-parts-place.result c.args.parts.now ps c.loop-place.place refl lt in
    let is = is-chosen used ps c.loop-place.place _ c.is_candidate.result at (c.is_candidate.ensures ∙ ap (λ p. is_candidate_of used (view_part p)) c.index-parts-place.is) c.if-is_candidate.true in
    let some = is-some c.loop-place.found c.is_some.result c.is_some.ensures c.if-is_some.true in
    subst (RefusesChoice (chosen used ps)) (sym c.fault.ensures) (second-chosen used ps c.loop-place.place some.0 c.loop-place.found some.1 is c.loop-place.invariant, refl)

pub loop-place-preserved : goal.loop-place-preserved
loop-place-preserved c =
    let used = λ (n : List ℕ). is_seen n c.args.used.now.keys in
    let ps = map view_part c.args.parts.now in
    let lt : c.loop-place.place < length c.args.parts.now = omega arith in
    let at = part-at c.index-parts-place.result c.args.parts.now ps c.loop-place.place refl lt in
    let tells = c.is_candidate.ensures ∙ ap (λ p. is_candidate_of used (view_part p)) c.index-parts-place.is in
    elim c.if-is_candidate.branch [
      | then-is_candidate+else-is_some w ↦
          subst (λ o. FoundSoFar used ps o (c.loop-place.place + 1)) (sym w.found-is)
          (first-chosen used ps c.loop-place.place c.loop-place.found (is-none c.loop-place.found w.is_some.result w.is_some.ensures w.if-is_some.false)
          (is-chosen used ps c.loop-place.place _ c.is_candidate.result at tells w.if-is_candidate.true) c.loop-place.invariant)
      | else-is_candidate w ↦
          subst (λ o. FoundSoFar used ps o (c.loop-place.place + 1)) (sym w.found-is)
          (not-chosen used ps c.loop-place.place _ c.is_candidate.result c.loop-place.found at tells w.if-is_candidate.false c.loop-place.invariant)
    ]

pub returns-in-Some-clause-chosen : goal.returns-in-Some-clause-chosen
returns-in-Some-clause-chosen c =
    let used = λ (n : List ℕ). is_seen n c.args.used.now.keys in
    let ps = map view_part c.args.parts.now in
    let all : c.loop-place.place ≡ length c.args.parts.now = omega arith in
    one-chosen used ps c.loop-place.place c.in-Some.place c.loop-place.found c.in-Some.is (all ∙ sym (length-map c.args.parts.now view_part)) c.loop-place.invariant

pub returns-in-None-clause-refused : goal.returns-in-None-clause-refused
returns-in-None-clause-refused c =
    let used = λ (n : List ℕ). is_seen n c.args.used.now.keys in
    let ps = map view_part c.args.parts.now in
    let all : c.loop-place.place ≡ length c.args.parts.now = omega arith in
    subst (RefusesChoice (chosen used ps)) (sym c.fault-in-None.ensures) (none-chosen used ps c.loop-place.place c.loop-place.found c.in-None.is (all ∙ sym (length-map c.args.parts.now view_part)) c.loop-place.invariant, refl)
