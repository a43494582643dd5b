-- Paths by places of the row are paths by bits.
use Rattle.std.specs.Prelude.{◌≡◌, ℕ, ◌<◌, ◌==◌, List, [], ◌∷◌, Bool, true, false, ◌||◌, map, filter, length, refl, if◌then◌else◌}
use Rattle.std.specs.List.{list_any, AllByRecursion}
use Rattle.std.proofs.Common.{sym, ◌∙◌, ap}
use Rattle.elab_laws.specs.Handing.{all_bits}
use Rattle.elab_model.specs.Names.{Variable}
use Rattle.sg_delay.specs.declared.limits.PulseStyle.{PulseStyle}
use Rattle.specify_model.specs.Blocks.{StyleText}
use Rattle.specify_model.specs.Outputs.{PathOutput, output_of, first_paths, paths_to, style_of}
use Rattle.elab_model.specs.Terms.{is_same_bit}
use Rattle.elab_ends.specs.Seen.{AreApart, bit_seen, bits_seen}
use Rattle.specify_paths.specs.Seen.{Said, path_seen, path_to_seen}
use Rattle.specify_paths.specs.Words.{Output, first_to_each, paths_at, output_at, grouped}
use Rattle.specify_paths.specs.declared.pairs.PathTo.{PathTo}

module _ (vs : List Variable) (said : List Said) (apart : AreApart vs) where
  abbrev InRow : ℕ → Type 0
  InRow i = i < length (all_bits vs)

  abbrev pub ToRow : PathTo → Type 0
  ToRow p = p.output < length (all_bits vs)

  any-same : (i : ℕ) (ks : List ℕ) → InRow i → AllByRecursion InRow ks → list_any (is_same_bit (bit_seen vs i)) (bits_seen vs ks) ≡ list_any (λ k. i == k) ks
  any-same i [] h g = refl
  any-same i (k ∷ ks) h g = ap (λ b. b || list_any (is_same_bit (bit_seen vs i)) (bits_seen vs ks)) (apart i k h g.0) ∙ ap (λ b. (i == k) || b) (any-same i ks h g.1)

  firsts : (seen : List ℕ) (ps : List PathTo) → AllByRecursion InRow seen → AllByRecursion ToRow ps
      → first_paths (bits_seen vs seen) (map (path_to_seen vs said) ps) ≡ map (path_to_seen vs said) (first_to_each seen ps)
  firsts seen [] h g = refl
  firsts seen (p ∷ ps) h g =
      ap (λ b. if b then first_paths (bits_seen vs seen) (map (path_to_seen vs said) ps) else path_to_seen vs said p ∷ first_paths (bits_seen vs (p.output ∷ seen)) (map (path_to_seen vs said) ps)) (any-same p.output seen g.0 h)
      ∙ by (list_any (λ k. p.output == k) seen) (firsts seen ps h g.1) (firsts (p.output ∷ seen) ps (g.0, h) g.1)
    where
      by : (b : Bool) → first_paths (bits_seen vs seen) (map (path_to_seen vs said) ps) ≡ map (path_to_seen vs said) (first_to_each seen ps)
          → first_paths (bits_seen vs (p.output ∷ seen)) (map (path_to_seen vs said) ps) ≡ map (path_to_seen vs said) (first_to_each (p.output ∷ seen) ps)
          → (if b then first_paths (bits_seen vs seen) (map (path_to_seen vs said) ps) else path_to_seen vs said p ∷ first_paths (bits_seen vs (p.output ∷ seen)) (map (path_to_seen vs said) ps))
          ≡ map (path_to_seen vs said) (if b then first_to_each seen ps else p ∷ first_to_each (p.output ∷ seen) ps)
      by true same next = same
      by false same next = ap (λ xs. path_to_seen vs said p ∷ xs) next

  those-to : (i : ℕ) (ps : List PathTo) → InRow i → AllByRecursion ToRow ps → paths_to (bit_seen vs i) (map (path_to_seen vs said) ps) ≡ map (path_seen vs said) (paths_at i ps)
  those-to i [] h g = refl
  those-to i (p ∷ ps) h g =
      ap (λ b. map (λ q. q.path) (if b then path_to_seen vs said p ∷ filter (λ q. is_same_bit (bit_seen vs i) q.output) (map (path_to_seen vs said) ps) else filter (λ q. is_same_bit (bit_seen vs i) q.output) (map (path_to_seen vs said) ps)))
      (apart i p.output h g.0) ∙ by (i == p.output) (those-to i ps h g.1)
    where
      by : (b : Bool) → paths_to (bit_seen vs i) (map (path_to_seen vs said) ps) ≡ map (path_seen vs said) (paths_at i ps)
          → map (λ q. q.path) (if b then path_to_seen vs said p ∷ filter (λ q. is_same_bit (bit_seen vs i) q.output) (map (path_to_seen vs said) ps) else filter (λ q. is_same_bit (bit_seen vs i) q.output) (map (path_to_seen vs said) ps))
          ≡ map (path_seen vs said) (map (λ q. q.path) (if b then p ∷ filter (λ q. i == q.output) ps else filter (λ q. i == q.output) ps))
      by true e = ap (λ xs. path_seen vs said p.path ∷ xs) e
      by false e = e

  -- an output, as it is kept, as the definition sees it
  abbrev pub kept_seen : Output → PathOutput
  kept_seen o = record { output = bit_seen vs o.output; place = o.place; style = o.style; paths = map (path_seen vs said) o.paths }

  firsts-in : (seen : List ℕ) (ps : List PathTo) → AllByRecursion ToRow ps → AllByRecursion ToRow (first_to_each seen ps)
  firsts-in seen [] g = tt
  firsts-in seen (p ∷ ps) g = by (list_any (λ k. p.output == k) seen) (firsts-in seen ps g.1) (firsts-in (p.output ∷ seen) ps g.1)
    where
      by : (b : Bool) → AllByRecursion ToRow (first_to_each seen ps) → AllByRecursion ToRow (first_to_each (p.output ∷ seen) ps) → AllByRecursion ToRow (if b then first_to_each seen ps else p ∷ first_to_each (p.output ∷ seen) ps)
      by true same next = same
      by false same next = (g.0, next)

  pub grouped-seen : (style : ℕ → PulseStyle) (ss : List StyleText) (ps : List PathTo) → AllByRecursion ToRow ps → ((i : ℕ) → InRow i → style i ≡ style_of vs ss (bit_seen vs i))
      → map kept_seen (grouped style ps) ≡ map (output_of vs ss (map (path_to_seen vs said) ps)) (first_paths [] (map (path_to_seen vs said) ps))
  grouped-seen style ss ps g styles = each (first_to_each [] ps) (firsts-in [] ps g) ∙ ap (map (output_of vs ss (map (path_to_seen vs said) ps))) (sym (firsts [] ps tt g))
    where
      each : (fs : List PathTo) → AllByRecursion ToRow fs → map kept_seen (map (output_at style ps) fs) ≡ map (output_of vs ss (map (path_to_seen vs said) ps)) (map (path_to_seen vs said) fs)
      each [] h = refl
      each (f ∷ fs) h =
          ap (λ s. record { output = bit_seen vs f.output; place = f.place; style = s; paths = map (path_seen vs said) (paths_at f.output ps) } ∷ map kept_seen (map (output_at style ps) fs)) (styles f.output h.0)
          ∙ ap (λ l. record { output = bit_seen vs f.output; place = f.place; style = style_of vs ss (bit_seen vs f.output); paths = l } ∷ map kept_seen (map (output_at style ps) fs)) (sym (those-to f.output ps h.0 g))
          ∙ ap (λ xs. output_of vs ss (map (path_to_seen vs said) ps) (path_to_seen vs said f) ∷ xs) (each fs h.1)
