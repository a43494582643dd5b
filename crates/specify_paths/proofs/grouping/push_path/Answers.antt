-- The output at the place takes the path; past the end nothing does.
use Rattle.std.specs.Prelude.{List}
use Rattle.std.proofs.Common.{ap, arith, refl}
use Rattle.specify_paths.specs.declared.pairs.ModulePath.{ModulePath}
use Rattle.specify_paths.specs.Words.{Output}
use Rattle.specify_paths.proofs.Grouped.{one-set, none-set}
use Rattle.specify_paths.proofs.grouping.push_path.Goals as goal

pub returns-in_ok-push : goal.returns-in_ok-push
returns-in_ok-push c =
    let old = c.in-Some.output.now in
    let made : List ModulePath → Output = λ l. record { output = old.output; place = old.place; style = old.style; paths = l } in
    one-set c.args.outputs.now.items c.args.at old _ c.args.path (omega (arith, c.in-Some.ensures.variant.0 refl, c.args.outputs.now.ok.0)) c.in-Some.ensures.value (ap made c.in_ok-push.ensures.items)

pub returns-in_default : goal.returns-in_default
returns-in_default c = none-set c.args.outputs.now.items _ c.args.at c.args.path c.args.outputs.now.ok.0 c.in_default.ensures.variant.1
