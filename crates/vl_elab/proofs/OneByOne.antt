-- Each net is given its driver, one after another.
use Rattle.std.specs.Prelude.{◌≡◌, ℕ, zero, suc, ◌+◌, ◌<◌, List, [], ◌∷◌, length, slice_index_or, slice_set, refl}
use Rattle.std.proofs.Common.{sym, ◌∙◌, ap, arith, subst, add-one}
use Rattle.sg_circuit.specs.declared.nets.Driver.{Driver}
use Rattle.sg_circuit.specs.declared.nets.Net.{Net}
use Rattle.vl_elab.specs.Made.{driven_by}

-- the first nets have their drivers
abbrev pub driven_first : ℕ → List Net → List Driver → List Net
driven_first zero ns ds = ns
driven_first (suc i) [] ds = []
driven_first (suc i) (n ∷ ns) [] = n ∷ ns
driven_first (suc i) (n ∷ ns) (d ∷ ds) = record n { driver = d } ∷ driven_first i ns ds

pub first-length : (i : ℕ) (ns : List Net) (ds : List Driver) → length (driven_first i ns ds) ≡ length ns
first-length zero ns ds = refl
first-length (suc i) [] ds = refl
first-length (suc i) (n ∷ ns) [] = refl
first-length (suc i) (n ∷ ns) (d ∷ ds) = ap suc (first-length i ns ds)

pub one-more : (i : ℕ) (ns : List Net) (ds : List Driver) (x : Net) (e : Driver) → i < length ns → i < length ds
    → slice_set (driven_first i ns ds) i (record (slice_index_or (driven_first i ns ds) i x) { driver = slice_index_or ds i e }) ≡ driven_first (suc i) ns ds
one-more zero [] ds x e l m = absurd (omega arith)
one-more zero (n ∷ ns) [] x e l m = absurd (omega arith)
one-more zero (n ∷ ns) (d ∷ ds) x e l m = refl
one-more (suc i) [] ds x e l m = absurd (omega arith)
one-more (suc i) (n ∷ ns) [] x e l m = absurd (omega arith)
one-more (suc i) (n ∷ ns) (d ∷ ds) x e l m = ap (λ xs. record n { driver = d } ∷ xs) (one-more i ns ds x e (omega arith) (omega arith))

pub all-driven : (ns : List Net) (ds : List Driver) → driven_first (length ds) ns ds ≡ driven_by ns ds
all-driven [] [] = refl
all-driven [] (d ∷ ds) = refl
all-driven (n ∷ ns) [] = refl
all-driven (n ∷ ns) (d ∷ ds) = ap (λ xs. record n { driver = d } ∷ xs) (all-driven ns ds)

pub step : (i : ℕ) (ns : List Net) (ds : List Driver) (now : List Net) (r x : Net) (e : Driver) → now ≡ driven_first i ns ds → r ≡ slice_index_or now i x → length ds ≡ length ns → i < length ds
    → slice_set now i (record r { driver = slice_index_or ds i e }) ≡ driven_first (i + 1) ns ds
step i ns ds now r x e is at same lt =
    let below : i < length ns = subst (λ n. i < n) same lt in
    ap (λ y. slice_set now i (record y { driver = slice_index_or ds i e })) at
    ∙ ap (λ xs. slice_set xs i (record (slice_index_or xs i x) { driver = slice_index_or ds i e })) is
    ∙ one-more i ns ds x e below lt ∙ ap (λ k. driven_first k ns ds) (sym (add-one i))
