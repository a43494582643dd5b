-- The modules of a netlist that is read have blocks with spelled conditions.
use Rattle.std.specs.Prelude.{ℕ, List, Option, length}
use Rattle.std.specs.List.{AllByRecursion}
use Rattle.sg_circuit.specs.Circuit.{Circuit}
use Rattle.sg_delay.specs.declared.corners.Corner.{Corner}
use Rattle.elab_model.specs.Hierarchy.{instances}
use Rattle.vcd_laws.specs.Reading.{IsRead}
use Rattle.written_names.proofs.DefinedModules.{OfPart, instances_are, top_is}
use Rattle.written_names.proofs.SpelledModules.{IsSpelledModule, source_is}
use Rattle.written_names.proofs.WordLaws.{tokens_are_good}

module _ (texts : List (List ℕ)) (name : Option (List ℕ)) (corner : Corner) (c : Circuit) (read : IsRead texts name corner c) where
  parts_are : AllByRecursion (OfPart IsSpelledModule) read.tree
  parts_are = source_is read.tokens (tokens_are_good texts read.tokens read.are_tokens) 0 (length read.tokens) read.tree read.are_tree

  pub instances_spelled : AllByRecursion (λ s. IsSpelledModule s.step.definition) (instances read.tree read.is_elaborated.top)
  instances_spelled =
      let top = read.is_elaborated.top in
      instances_are IsSpelledModule read.tree parts_are top (top_is IsSpelledModule read.tree parts_are name top read.is_elaborated.is_top)
