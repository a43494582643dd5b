use Rattle.std.proofs.Common.{◌∙◌, ap}
use Rattle.fit_words.specs.Paths.{parts_of}
use Rattle.fit_words.proofs.PathLaws.{same_parts}
use Rattle.fit_words.proofs.paths.is_folder_of.Goals as goal

pub returns : goal.returns
returns c = c.eq.ensures ∙ same_parts _ _ _ _ (c.in_ok-own.ensures ∙ ap parts_of c.parent_of.ensures) c.in_ok-other.ensures
