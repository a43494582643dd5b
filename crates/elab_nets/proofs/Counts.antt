-- Refusals for too many nets, and lists that are made piece by piece.
use Rattle.std.specs.Prelude.{◌≡◌, ◌+◌, List, [], ◌++◌, Result, Ok, Err, IfErr, OnOk, length}
use Rattle.std.proofs.Common.{sym, ◌∙◌, ap, subst, append_assoc, append-nil, length-append}
use Rattle.sg_text.specs.declared.refusals.Refused.{Refused}
use Rattle.elab_model.specs.declared.kinds.ElabKind.{ElabKind}

-- a refusal that is handed on
pub handed-on : {A : Type 0} (result : Result A (Refused ElabKind)) (P : Refused ElabKind → Type 0) (e : Refused ElabKind) → ((x : Refused ElabKind) × (result ≡ Err x) × (x ≡ e)) → P e → IfErr result P
handed-on result P e (x, r, s) h = rw r (subst P (sym s) h)

-- a piece is there, and what is left stands behind it
pub piece-added : {A : Type 0} (old piece left new rest total : List A) → rest ≡ piece ++ left → new ≡ old ++ piece → old ++ rest ≡ total → new ++ left ≡ total
piece-added old piece left new rest total r n h = ap (λ xs. xs ++ left) n ∙ append_assoc old piece left ∙ ap (λ xs. old ++ xs) (sym r) ∙ h

-- nothing is left
pub nothing-left : {A : Type 0} (old rest total : List A) → rest ≡ [] → old ++ rest ≡ total → old ≡ total
nothing-left old rest total r h = sym (append-nil old) ∙ ap (λ xs. old ++ xs) (sym r) ∙ h

-- so many are there when a piece is
pub count-added : {A : Type 0} (old piece new : List A) → new ≡ old ++ piece → length new ≡ length old + length piece
count-added old piece new n = ap length n ∙ length-append old piece

-- of two clauses of a last call
pub on-both : {T E P Q R : Type 0} (r : Result T E) → OnOk r P → OnOk r Q → (P → Q → R) → OnOk r R
on-both (Ok x) p q f = f p q
on-both (Err e) p q f = tt
