-- The texts of files stay where one of them has other changes.
use Rattle.std.specs.Prelude.{ℕ, ◌≡◌, ◌<◌, List, length, map, slice_index_or, slice_set}
use Rattle.std.proofs.Common.{sym, ◌∙◌, ap}
use Rattle.std.proofs.lemmas.List.{get_or-map, map-set, set-get_or}
use Rattle.fit_changes.specs.Changes.{ChangedText}

pub texts-stay : (files : List ChangedText) (i : ℕ) (file d : ChangedText) → i < length files → file.text ≡ (slice_index_or files i d).text
    → map (λ f. f.text) (slice_set files i file) ≡ map (λ f. f.text) files
texts-stay files i file d l same =
    map-set (λ f. f.text) files i file
    ∙ ap (slice_set (map (λ f. f.text) files) i) (same ∙ sym (get_or-map (λ f. f.text) files i d d.text l))
    ∙ set-get_or (map (λ f. f.text) files) i d.text
