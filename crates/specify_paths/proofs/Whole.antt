-- All of a module's paths.
use Rattle.std.specs.Prelude.{◌≡◌, ℕ, ◌<◌, List, [], ◌∷◌, length, map, flat_map, refl}
use Rattle.std.specs.List.{AllByRecursion}
use Rattle.std.proofs.Common.{◌∙◌, ap}
use Rattle.std.proofs.lemmas.List.Elements.{recursion_from_All}
use Rattle.elab_laws.specs.Handing.{all_bits}
use Rattle.elab_model.specs.Names.{Variable}
use Rattle.sg_delay.specs.declared.limits.PulseStyle.{PulseStyle}
use Rattle.vl_tree.specs.Tree.{SpecifyItem}
use Rattle.specify_model.specs.Blocks.{parameters, pulses, specify_paths, style_texts}
use Rattle.specify_model.specs.Outputs.{output_of, first_paths, outputs_by, style_of}
use Rattle.specify_model.specs.Paths.{paths_of}
use Rattle.specify_model.specs.PulseLimits.{Limits, limits_of}
use Rattle.specify_model.specs.Values.{Measure, Values, value_of}
use Rattle.elab_ends.specs.Seen.{AreApart, bit_seen}
use Rattle.specify_paths.specs.Seen.{ArePathsInRow, IsPathInRow, Said, path_to_seen, output_seen}
use Rattle.specify_paths.specs.Words.{grouped, output_kept}
use Rattle.specify_paths.specs.declared.grouping.PathOutput as code_output
use Rattle.specify_paths.specs.declared.pairs.PathTo.{PathTo}
use Rattle.specify_paths.proofs.Bridged.{kept_seen, grouped-seen}

outputs-in : (vs : List Variable) (statements : ℕ) (ps : List PathTo) → ArePathsInRow vs statements ps → AllByRecursion (λ p. p.output < length (all_bits vs)) ps
outputs-in vs statements ps h = each ps (recursion_from_All (IsPathInRow vs statements) ps h)
  where
    each : (ps : List PathTo) → AllByRecursion (IsPathInRow vs statements) ps → AllByRecursion (λ p. p.output < length (all_bits vs)) ps
    each [] h = tt
    each (p ∷ ps) h = (h.0.output_in_row, each ps h.1)

kept : (vs : List Variable) (apart : AreApart vs) (said : List Said) (os : List code_output.PathOutput) → map (output_seen vs said) os ≡ map (kept_seen vs said apart) (map output_kept os)
kept vs apart said [] = refl
kept vs apart said (o ∷ os) = ap (λ xs. output_seen vs said o ∷ xs) (kept vs apart said os)

pub outputs-whole : (by : Measure) (vs : List Variable) (items : List SpecifyItem) (apart : AreApart vs) (values : Values) (limits : Limits) (statements : ℕ) (said : List Said) (list : List PathTo) (os : List code_output.PathOutput) (style : ℕ → PulseStyle)
    → values ≡ value_of (parameters items) → limits ≡ limits_of by vs (pulses items) → map (path_to_seen vs said) list ≡ flat_map (paths_of by vs values limits) (specify_paths items)
    → ArePathsInRow vs statements list → map output_kept os ≡ grouped style list → ((i : ℕ) → i < length (all_bits vs) → style i ≡ style_of vs (style_texts items) (bit_seen vs i))
    → map (output_seen vs said) os ≡ outputs_by by vs items
outputs-whole by vs items apart values limits statements said list os style v l paths row group styles =
    kept vs apart said os ∙ ap (map (kept_seen vs said apart)) group ∙ grouped-seen vs said apart style (style_texts items) list (outputs-in vs statements list row) styles
    ∙ ap (λ ps. map (output_of vs (style_texts items) ps) (first_paths [] ps)) (paths ∙ ap (λ f. flat_map f (specify_paths items)) (ap (λ v. paths_of by vs v limits) v ∙ ap (paths_of by vs (value_of (parameters items))) l))
