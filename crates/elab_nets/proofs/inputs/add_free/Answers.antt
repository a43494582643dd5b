-- One place more is tested.
use Rattle.std.proofs.Common.{◌+◌, ◌-◌, ◌∙◌, ap, length, rules, sym}
use Rattle.std.specs.List.{range_with_len}
use Rattle.elab_laws.specs.Handing.{all_bits}
use Rattle.elab_nets.specs.Inputs.{is_free_at}
use Rattle.elab_nets.proofs.Filters.{one-kept, one-dropped, range-first}
use Rattle.elab_nets.proofs.inputs.add_free.Goals as goal
use Rattle.elab_nets.proofs.inputs.add_free.Goals.{then-is_free_at+in_ok-push, else-is_free_at}

pub loop-place-preserved : goal.loop-place-preserved
loop-place-preserved c =
    let vs = c.args.table.now in
    let n = length (all_bits vs) in
    let p = c.loop-place.place in
    let test = is_free_at vs c.args.bits.now in
    let old = c.loop-place.places.items in
    let new = c.if-is_free_at.places.items in
    let left = range_with_len (p + 1) (n - (p + 1)) in
    let first = range-first p n (search rules) in
    elim c.if-is_free_at.branch [
      | then-is_free_at+in_ok-push w ↦ one-kept test p old (range_with_len p (n - p)) left new _ (sym c.is_free_at.ensures ∙ w.if-is_free_at.true) first (ap (λ v. v.items) w.places-is ∙ w.in_ok-push.ensures.items)
          c.loop-place.invariant
      | else-is_free_at w ↦ one-dropped test p old (range_with_len p (n - p)) left new _ (sym c.is_free_at.ensures ∙ w.if-is_free_at.false) first (ap (λ v. v.items) w.places-is) c.loop-place.invariant
    ]
