-- Elements whose Paths get their paths, one element after another.
use Rattle.std.specs.Prelude.{◌≡◌, ℕ, zero, suc, ◌+◌, ◌<◌, ◌≤◌, List, [], ◌∷◌, ◌++◌, true, false, length, slice_index_or, slice_set, take, drop, refl, if◌then◌else◌}
use Rattle.std.proofs.Common.{sym, ◌∙◌, ap, arith, subst, append_assoc, drop-cons}
use Rattle.std.proofs.Math.ListN.{drop_of_length-le}
use Rattle.std.proofs.lemmas.List.{append-nil, take_all, take_more_set, drop-set-lt}
use Rattle.sg_circuit.specs.declared.elements.Element.{Element}
use Rattle.elab_paths.specs.declared.uses.PathUse.{PathUse}
use Rattle.elab_paths.specs.Filling.{is_path, paths_among, with_use, with_next, filled}

drop-more : {A : Type 0} (n : ℕ) (xs : List A) → drop 1 (drop n xs) ≡ drop (suc n) xs
drop-more zero [] = refl
drop-more zero (x ∷ xs) = refl
drop-more (suc n) [] = refl
drop-more (suc n) (x ∷ xs) = drop-more n xs

-- what the elements so far have become, and what is left, for which there are uses enough
pub record IsFilledTo (uses : List PathUse) (next i : ℕ) (total es : List Element) : Type 0 where
  pub enough : next + paths_among (drop i es) ≤ length uses
  pub whole : take i es ++ filled (drop next uses) (drop i es) ≡ total

pub filled-none : (uses : List PathUse) (es : List Element) → paths_among es ≤ length uses → IsFilledTo uses 0 0 (filled uses es) es
filled-none uses es le = record { enough = omega (arith, le); whole = refl }

pub filled-all : (uses : List PathUse) (next i : ℕ) (total es : List Element) → length es ≤ i → IsFilledTo uses next i total es → es ≡ total
filled-all uses next i total es le h =
    sym (append-nil es) ∙ ap (λ xs. xs ++ []) (sym (take_all i es le)) ∙ ap (λ xs. take i es ++ filled (drop next uses) xs) (sym (drop_of_length-le es le)) ∙ h.whole

module _ (uses : List PathUse) (next i : ℕ) (total es : List Element) (d : Element) (lt : i < length es) (h : IsFilledTo uses next i total es) where
  abbrev e : Element
  e = slice_index_or es i d

  abbrev rest : List Element
  rest = drop (suc i) es

  behind : drop i es ≡ e ∷ rest
  behind = drop-cons es i d lt

  -- the element at the place is set, and what follows is as it was
  set-whole : (us : List PathUse) (y : Element) → take (i + 1) (slice_set es i y) ++ filled us (drop (i + 1) (slice_set es i y)) ≡ take i es ++ (y ∷ filled us rest)
  set-whole us y =
      let more : i + 1 ≡ suc i = omega arith in
      ap (λ zs. zs ++ filled us (drop (i + 1) (slice_set es i y))) (take_more_set es i y lt)
      ∙ ap (λ zs. (take i es ++ y ∷ []) ++ filled us zs) (drop-set-lt (i + 1) es i y (omega arith))
      ∙ append_assoc (take i es) (y ∷ []) (filled us (drop (i + 1) es))
      ∙ ap (λ n. take i es ++ y ∷ filled us (drop n es)) more

  set-left : (y : Element) → paths_among (drop (i + 1) (slice_set es i y)) ≡ paths_among rest
  set-left y = let more : i + 1 ≡ suc i = omega arith in ap paths_among (drop-set-lt (i + 1) es i y (omega arith)) ∙ ap (λ n. paths_among (drop n es)) more

  -- it is a Path
  pub use-there : is_path e.kind ≡ true → next < length uses
  use-there t =
      let k = h.enough in
      let some : paths_among (drop i es) ≡ suc (paths_among rest) = ap paths_among behind ∙ ap (λ b. if b then suc (paths_among rest) else paths_among rest) t in
      omega (arith, k, some)

  pub path-filled : (u : PathUse) (new : List Element) → is_path e.kind ≡ true → u ≡ slice_index_or uses next u → new ≡ slice_set es i (with_use u e) → IsFilledTo uses (next + 1) (i + 1) total new
  path-filled u new t is more = subst (IsFilledTo uses (next + 1) (i + 1) total) (sym more) (record {
    enough =
        let k = h.enough in
        let some : paths_among (drop i es) ≡ suc (paths_among rest) = ap paths_among behind ∙ ap (λ b. if b then suc (paths_among rest) else paths_among rest) t in
        let left = set-left (with_use u e) in
        omega (arith, k, some, left);
    whole =
        let own : drop next uses ≡ u ∷ drop (suc next) uses = drop-cons uses next u (use-there t) ∙ ap (λ x. x ∷ drop (suc next) uses) (sym is) in
        let later : next + 1 ≡ suc next = omega arith in
        set-whole (drop (next + 1) uses) (with_use u e)
        ∙ ap (λ us. take i es ++ (with_use u e ∷ filled us rest)) (ap (λ n. drop n uses) later ∙ sym (drop-more next uses))
        ∙ ap (λ us. take i es ++ (with_next us e ∷ filled (drop 1 (drop next uses)) rest)) (sym own)
        ∙ ap (λ b. take i es ++ (if b then with_next (drop next uses) e ∷ filled (drop 1 (drop next uses)) rest else e ∷ filled (drop next uses) rest)) (sym t)
        ∙ ap (λ xs. take i es ++ filled (drop next uses) xs) (sym behind)
        ∙ h.whole;
  })

  -- or it isn't
  pub other-filled : (new : List Element) → is_path e.kind ≡ false → new ≡ slice_set es i e → IsFilledTo uses next (i + 1) total new
  other-filled new f more = subst (IsFilledTo uses next (i + 1) total) (sym more) (record {
    enough =
        let k = h.enough in
        let some : paths_among (drop i es) ≡ paths_among rest = ap paths_among behind ∙ ap (λ b. if b then suc (paths_among rest) else paths_among rest) f in
        let left = set-left e in
        omega (arith, k, some, left);
    whole =
        set-whole (drop next uses) e
        ∙ ap (λ b. take i es ++ (if b then with_next (drop next uses) e ∷ filled (drop 1 (drop next uses)) rest else e ∷ filled (drop next uses) rest)) (sym f)
        ∙ ap (λ xs. take i es ++ filled (drop next uses) xs) (sym behind)
        ∙ h.whole;
  })
