-- The output bits to which a module's paths lead, in the order of their first paths, each with its paths and its pulse style.
use Rattle.std.specs.Prelude.{ℤ, List, [], ◌∷◌, Option, Some, None, map, filter, filter_map, unwrap_or, if◌then◌else◌}
use Rattle.std.specs.List.{list_any, last_or}
use Rattle.sg_delay.specs.declared.corners.Corner.{Corner}
use Rattle.sg_delay.specs.declared.limits.PulseStyle.{PulseStyle}
use Rattle.sg_delay.specs.declared.limits.PulseStyle.TheVariants as style
use Rattle.sg_text.specs.declared.places.Place.{Place}
use Rattle.vl_tree.specs.declared.specify.PulseStyle as written
use Rattle.vl_tree.specs.declared.specify.PulseStyle.TheVariants as written_style
use Rattle.vl_tree.specs.Tree.{SpecifyItem, Module}
use Rattle.elab_model.specs.Names.{Variable, variables}
use Rattle.specify_model.specs.Blocks.{specify_items, StyleText, style_texts}
use Rattle.specify_model.specs.Paths.{ModulePath, PathTo, module_paths}
use Rattle.elab_model.specs.Terms.{NetBit, is_same_bit, terms_bits}
use Rattle.specify_model.specs.Values.{Measure}

-- the style that an item chooses (14.6.4); noshowcancelled is the default, and chooses none
abbrev pub chosen_style : written.PulseStyle → Option PulseStyle
chosen_style written_style.OnEvent = Some style.OnEvent
chosen_style written_style.OnDetect = Some style.OnDetect
chosen_style written_style.NoShowCancelled = None

abbrev pub names_bit : List Variable → NetBit → StyleText → Option PulseStyle
names_bit vs b s = if list_any (is_same_bit b) (terms_bits vs s.terms) then chosen_style s.style else None

-- the last item that names the bit holds; without one the style is on event
abbrev pub style_of : List Variable → List StyleText → NetBit → PulseStyle
style_of vs ss b = unwrap_or (last_or None (filter_map (names_bit vs b) ss)) style.OnEvent

-- the first path to each output bit, but for those seen before
abbrev pub first_paths : List NetBit → List PathTo → List PathTo
first_paths seen [] = []
first_paths seen (p ∷ ps) = if list_any (is_same_bit p.output) seen then first_paths seen ps else p ∷ first_paths (p.output ∷ seen) ps

abbrev pub paths_to : NetBit → List PathTo → List ModulePath
paths_to b ps = map (λ p. p.path) (filter (λ p. is_same_bit b p.output) ps)

-- an output bit, the place of its first path, its style, and its paths in text order
pub record PathOutput : Type 0 where
  pub output : NetBit
  pub place : Place
  pub style : PulseStyle
  pub paths : List ModulePath

abbrev pub output_of : List Variable → List StyleText → List PathTo → PathTo → PathOutput
output_of vs ss ps first = record { output = first.output; place = first.place; style = style_of vs ss first.output; paths = paths_to first.output ps }

abbrev pub outputs_by : Measure → List Variable → List SpecifyItem → List PathOutput
outputs_by by vs items =
    let ps = module_paths by vs items in
    map (output_of vs (style_texts items) ps) (first_paths [] ps)

abbrev pub measure : Corner → ℤ → Module → Measure
measure corner tick m = record { corner = corner; tick = tick; scale = m.settings.scale }

abbrev pub path_outputs : Corner → ℤ → Module → List PathOutput
path_outputs corner tick m = outputs_by (measure corner tick m) (variables m) (specify_items m)
