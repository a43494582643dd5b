-- More values than ports are refused; of the others each is looked at.
use Rattle.std.proofs.Common.{rules, arith, refl, length, map, ◌≡◌, ◌∙◌, ap}
use Rattle.vl_tree.specs.Seen.{view_name}
use Rattle.elab_modules.proofs.Connected.{more-values, ordered-tells}
use Rattle.elab_modules.proofs.connections.check_all_ordered.Goals as goal

pub returns-then-values-len : goal.returns-then-values-len
returns-then-values-len c = λ m p.
    let n : c.len.result ≡ length c.args.child.now.ports.items = search rules in
    more-values c.args.table.now m c.args.place c.args.child.now.ports.items c.args.values.now (length c.args.values.now) c.len.result p.ports refl n c.if-values-len.true

pub returns : goal.returns
returns c = λ m p.
    let n : c.len.result ≡ length c.args.child.now.ports.items = search rules in
    let k : length c.deref.result.now ≡ length c.args.child.now.ports.items = ap length c.deref.ensures.value in
    let le = c.if-values-len.false in
    ordered-tells c.args.table.now m c.args.place c.deref.result.now c.args.values.now c.check_ordered.result (ap (map view_name) c.deref.ensures.value ∙ p.ports) (omega arith)
    (c.check_ordered.ensures m p.table p.declared)
