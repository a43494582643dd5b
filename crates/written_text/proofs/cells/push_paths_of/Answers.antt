use Rattle.std.proofs.Common.{◌≡◌, ◌++◌, subst}
use Rattle.std.specs.Prelude.{OnOk}
use Rattle.written_text.proofs.CellLaws.{no_path, paths_added, paths_of_element}
use Rattle.written_text.proofs.cells.push_paths_of.Goals as goal

pub push_paths_to-requires-clause-paths : goal.push_paths_to-requires-clause-paths
push_paths_to-requires-clause-paths c = paths_of_element c.args.page.now c.args.element.now c.paths_in.result.now c.in-Path.paths c.in-Path.style c.requires.element c.in-Path.is c.paths_in.ensures

pub returns-in-Path : goal.returns-in-Path
returns-in-Path c =
    subst (λ t. OnOk c.push_paths_to.result (c.push_paths_to.new.text.items ≡ c.args.text.now.items ++ t))
    (paths_added c.args.page.now c.args.rank c.args.element.now c.paths_in.result.now c.in-Path.paths c.in-Path.style c.requires.element c.in-Path.is c.paths_in.ensures) c.push_paths_to.ensures

pub returns-in_default : goal.returns-in_default
returns-in_default c = no_path c.args.page.now c.args.rank c.args.element.now c.args.text.now.items c.in_default.not-Path
