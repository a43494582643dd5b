-- A name has another range than before, or the map knows one declaration more.
use Rattle.std.proofs.Common.{Bor, ℕ, List, nat_eq, ◌<◌, length, arith, add-one, ap, sym, ◌∙◌}
use Rattle.indexmap.specs.IndexMap.{get}
use lib.Pointwise.{pointwise}
use Rattle.elab_names.specs.GivenRanges.{is_other}
use Rattle.elab_names.proofs.KnownRanges.{found-other, next-same}
use Rattle.elab_names.proofs.bounds.first_differing.Goals as goal

pub returns-then-is_another : goal.returns-then-is_another
returns-then-is_another c =
    let lt : c.loop-given.given-index < length c.args.ranges.now = omega arith in
    found-other _ c.args.ranges.now c.loop-given.given-index lt _ (λ q. get (λ (a : Bor (List ℕ)) (b : Bor (List ℕ)). pointwise nat_eq a.now b.now) c.loop-given.known q)
    (ap (is_other _) (sym c.in_ok-before.ensures.old) ∙ sym c.is_another.ensures ∙ c.if-is_another.true) c.loop-given.invariant

pub loop-given-preserved : goal.loop-given-preserved
loop-given-preserved c =
    let lt : c.loop-given.given-index < length c.args.ranges.now = omega arith in
    rw add-one (next-same _ c.args.ranges.now c.loop-given.given-index lt _ (λ q. get (λ (a : Bor (List ℕ)) (b : Bor (List ℕ)). pointwise nat_eq a.now b.now) c.loop-given.known q)
    (λ q. get (λ (a : Bor (List ℕ)) (b : Bor (List ℕ)). pointwise nat_eq a.now b.now) c.insert.new.self q)
    (ap (is_other _) (sym c.in_ok-before.ensures.old) ∙ sym c.is_another.ensures ∙ c.if-is_another.false) c.in_ok-before.ensures.updates.0 c.loop-given.invariant)
