-- One bit more: its net has an inner net, or takes this one.
use Rattle.std.proofs.Common.{sym, ◌∙◌, subst, ℕ, nat_eq, ◌≡◌, ◌+◌, take}
use Rattle.indexmap.specs.IndexMap.{get}
use Rattle.elab_elements.specs.Words.{ends_in, inner_of}
use Rattle.elab_elements.proofs.InnerNets.{ends-more, known-already, known-new, all-known}
use Rattle.elab_elements.proofs.driven.inner_nets.Goals as goal
use Rattle.elab_elements.proofs.driven.inner_nets.Goals.{then-not-contains_key+in_ok-insert, else-not-contains_key}

pub loop-at-preserved : goal.loop-at-preserved
loop-at-preserved c =
    let all = ends_in c.args.row.now c.args.bits.now c.args.ends.now in
    let more = ends-more c.args.row.now c.args.bits.now c.args.ends.now c.loop-at.at c.requires.count c.loop-at-test.true in
    elim c.if-not-contains_key.branch [
      | then-not-contains_key+in_ok-insert w ↦
          subst (λ m. (net : ℕ) → get nat_eq m net ≡ inner_of (take (c.loop-at.at + 1) all) net) (sym w.nets-is)
          (known-new (take c.loop-at.at all) (take (c.loop-at.at + 1) all) _ (get nat_eq c.loop-at.nets) (get nat_eq w.insert.new.self) more (sym c.contains_key.ensures ∙ w.if-not-contains_key.true)
          w.in_ok-insert.ensures.updates.0 c.loop-at.invariant)
      | else-not-contains_key w ↦
          subst (λ m. (net : ℕ) → get nat_eq m net ≡ inner_of (take (c.loop-at.at + 1) all) net) (sym w.nets-is)
          (known-already (take c.loop-at.at all) (take (c.loop-at.at + 1) all) _ (get nat_eq c.loop-at.nets) more (sym c.contains_key.ensures ∙ w.if-not-contains_key.false) c.loop-at.invariant)
    ]

pub returns : goal.returns
returns c = all-known c.args.row.now c.args.bits.now c.args.ends.now c.loop-at.at (get nat_eq c.loop-at.nets) c.requires.count c.loop-at-test.false c.loop-at.invariant
