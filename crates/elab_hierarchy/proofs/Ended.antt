-- An instance whose end is written.
use Rattle.std.specs.Prelude.{◌≡◌, ℕ, List, ◌∷◌, ◌++◌, length, slice_index_or, slice_set}
use Rattle.std.proofs.Common.{sym, ◌∙◌, ap}
use Rattle.std.proofs.Math.Seq.{get_or-append_seam}
use Rattle.std.proofs.lemmas.List.{set_at}
use Rattle.elab_hierarchy.specs.Growing.{ended}
use Rattle.elab_hierarchy.specs.declared.instances.Placed.{Placed}

-- the one in the middle gets its end
pub end-set : (old : List Placed) (k m n : ℕ) (q d : Placed) (before after : List Placed) (p : Placed) → q ≡ slice_index_or old k d → m ≡ n → old ≡ before ++ p ∷ after → k ≡ length before
    → slice_set old k (ended q m) ≡ before ++ ended p n ∷ after
end-set old k m n q d before after p read same e at =
    let is : q ≡ p = read ∙ ap (λ xs. slice_index_or xs k d) e ∙ ap (λ i. slice_index_or (before ++ p ∷ after) i d) at ∙ get_or-append_seam before p after d in
    ap (λ l. slice_set old k (ended q l)) same ∙ ap (λ xs. slice_set xs k (ended q n)) e ∙ set_at before p after (ended q n) k (sym at) ∙ ap (λ x. before ++ ended x n ∷ after) is
