use Rattle.written_text.proofs.CellLaws.{is_element_of}
use Rattle.written_text.proofs.cells.push_paths_ranked.Goals as goal

pub push_paths_of-requires-clause-element : goal.push_paths_of-requires-clause-element
push_paths_of-requires-clause-element c =
    is_element_of c.args.page.now c.requires.page _ c.index.result.now (c.requires.elements.within c.loop-number.number-index 0 c.loop-number-test.true) c.index.ensures
    (c.requires.elements.scopes c.loop-number.number-index 0 c.loop-number-test.true)
