-- What stands at the top, or nothing.
use Rattle.std.proofs.Common.{rules, ◌≡◌, ◌≤◌, length, arith, sym, subst}
use Rattle.std.proofs.lemmas.Result.{err_from_is_err_and}
use Rattle.elab_model.specs.Hierarchy.{instances}
use Rattle.elab_model.specs.HierarchyFaults.{count_limit}
use Rattle.elab_hierarchy.specs.Children.{IsTree}
use Rattle.elab_hierarchy.proofs.Faulty.{breaks-tree, no-fault}
use Rattle.elab_hierarchy.proofs.Listed.{placed-length}
use Rattle.elab_hierarchy.proofs.Whole.{refuses, none-outside}
use Rattle.elab_hierarchy.proofs.instances.place_instances.Goals as goal

pub returns-then-top-len-clause-instances : goal.returns-then-top-len-clause-instances
returns-then-top-len-clause-instances c m stands =
    let count : c.len.result ≡ length c.in_ok-children.children.items = search rules in
    let past : length c.in_ok-children.children.items ≤ c.args.top = omega arith in
    absurd (none-outside c.args.definitions.now c.in_ok-children.children.items c.args.top m c.in_ok-children.ensures.tree past stands)

pub returns-then-top-len-clause-faultless : goal.returns-then-top-len-clause-faultless
returns-then-top-len-clause-faultless c m stands =
    let count : c.len.result ≡ length c.in_ok-children.children.items = search rules in
    let past : length c.in_ok-children.children.items ≤ c.args.top = omega arith in
    absurd (none-outside c.args.definitions.now c.in_ok-children.children.items c.args.top m c.in_ok-children.ensures.tree past stands)

pub returns-in_err-place_top-clause-refused : goal.returns-in_err-place_top-clause-refused
returns-in_err-place_top-clause-refused c =
    refuses _ c.from_residual-in_err-place_top.result c.in_err-place_top.field-0.0
    (err_from_is_err_and c.from_residual-in_err-place_top.result c.from_residual-in_err-place_top.ensures.1)
    (λ m stands. breaks-tree c.args.definitions.now (instances c.args.definitions.now m) c.in_err-place_top.field-0.0
    (c.in_err-place_top.ensures.refused c.args.definitions.now m (subst (IsTree c.args.definitions.now) (sym c.deref.ensures.value) c.in_ok-children.ensures.tree) stands))

pub returns-clause-faultless : goal.returns-clause-faultless
returns-clause-faultless c m stands =
    let tree = subst (IsTree c.args.definitions.now) (sym c.deref.ensures.value) c.in_ok-children.ensures.tree in
    no-fault c.args.definitions.now (instances c.args.definitions.now m) count_limit (c.in_ok-place_top.ensures.faultless c.args.definitions.now m tree stands)
    (subst (λ n. n ≤ count_limit) (placed-length c.args.definitions.now c.place_top.new.list.items (instances c.args.definitions.now m) (c.in_ok-place_top.ensures.instances c.args.definitions.now m tree stands))
    c.in_ok-place_top.ensures.few)
