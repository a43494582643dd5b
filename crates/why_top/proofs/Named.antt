-- A file on which the shelf failed is one that the words name.
use Rattle.std.proofs.Common.{◌≡◌, refl, lit<, ℕ, List, [], ◌∷◌}
use Rattle.std.proofs.lemmas.List.Elements.{Contains-append_left, Contains-append_right}
use Rattle.std.specs.Prelude.{Option, Some}
use Rattle.sg_io.specs.Files.{File}
use Rattle.run_words.specs.Words.{design_names, file_of}
use Rattle.signoff_phases.specs.Stops.{FailsAtDesign, in_netlist, in_sdf}
use Rattle.signoff_phases.proofs.Named.{netlist_among, sdf_among}
use Rattle.why_words.specs.Words.{Asked, names_of}
use Rattle.why_top.specs.Seen.{FailsAmong}

pub design_named : (asked : Asked) (held : Option (List File)) (last : Option (List ℕ)) → FailsAtDesign asked.design held last → FailsAmong (names_of asked) last
design_named asked held last (in_netlist f) = record {
  name = f.name;
  told = f.told;
  among = Contains-append_left (design_names asked.design) (file_of asked.input ∷ []) f.name (netlist_among asked.design f.before f.after f.name f.split);
}
design_named asked held last (in_sdf circuit h f) = record {
  name = f.name;
  told = f.told;
  among = Contains-append_left (design_names asked.design) (file_of asked.input ∷ []) f.name (sdf_among asked.design f.name f.is);
}

pub input_named : (asked : Asked) (last : Option (List ℕ)) → last ≡ Some (file_of asked.input) → FailsAmong (names_of asked) last
input_named asked last e = record { name = file_of asked.input; told = e; among = Contains-append_right (design_names asked.design) (file_of asked.input ∷ []) (file_of asked.input) (0, lit< tt, refl) }
