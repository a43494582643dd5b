use Rattle.std.proofs.Common.{length, sym, subst}
use Rattle.written_entries.specs.Groups.{AreChecksOf, AreElementsOf}
use Rattle.written_entries.proofs.NumberLaws.{elements_of_scope, checks_of_scope}
use Rattle.written_text.proofs.ScopeLaws.{bits_within, cell_added}
use Rattle.written_text.proofs.scopes.push_named_cell.Goals as goal

pub place_variables-requires-clause-nets : goal.place_variables-requires-clause-nets
place_variables-requires-clause-nets c = bits_within c.args.parts.now c.requires.closed c.args.scope c.index.result.now c.deref.result.now (length c.args.places.now) c.requires.scope c.index.ensures c.deref.ensures.value c.requires.nets

pub push_cell-requires-clause-elements : goal.push_cell-requires-clause-elements
push_cell-requires-clause-elements c =
    subst (λ ns. AreElementsOf c.args.parts.now.elements.items c.args.scope ns) (sym c.of.ensures) (elements_of_scope c.args.parts.now c.args.groups.now c.requires.groups c.args.scope c.requires.scope)

pub push_cell-requires-clause-checks : goal.push_cell-requires-clause-checks
push_cell-requires-clause-checks c =
    subst (λ ns. AreChecksOf c.args.parts.now.checks.items c.args.scope ns) (sym c.of-2.ensures) (checks_of_scope c.args.parts.now c.args.groups.now c.requires.groups c.args.scope c.requires.scope)

pub returns-clause-text : goal.returns-clause-text
returns-clause-text c =
    cell_added c.args.parts.now c.requires.closed c.args.groups.now c.requires.groups c.args.scope c.requires.scope c.push_cell.result c.args.text.now.items c.of.result.now c.of-2.result.now c.push_cell.new.text.items c.of.ensures c.of-2.ensures c.push_cell.ensures
