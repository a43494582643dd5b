-- Refusals of texts with changes.
use Rattle.std.specs.Prelude.{◌≡◌, ℕ, List, [], ◌∷◌, ◌==◌, true, length, Result, Ok, Err, IfErr, OnOk, refl}
use Rattle.std.proofs.Common.{◌∙◌, ap, arith, subst}
use Rattle.std.proofs.lemmas.Bool.{eqb-true}
use Rattle.sg_text.specs.declared.places.Place.{Place}
use Rattle.sg_text.specs.declared.refusals.Refused.{Refused}
use Rattle.sg_text.specs.declared.refusals.Refused.TheVariants as code
use Rattle.sdf_tree.specs.declared.tree.Sdf as code_sdf
use Rattle.sdf_read.specs.Outcomes.{refused}
use Rattle.sdf_read.specs.Reads.{Reads, Stands}
use Rattle.sdf_read.specs.declared.faults.SdfKind.{SdfKind}
use Rattle.fit_changes.specs.Changes.{Change, AreInOrder, changed}
use Rattle.fit_sdf.specs.declared.unfit.SdfUnfit.{SdfUnfit}
use Rattle.fit_sdf.specs.declared.unfit.SdfUnfit.TheVariants as unfit
use Rattle.fit_sdf.specs.Fitted.{IsReadable, Refuses, RefusesWith}

pub with_changes : (text : List ℕ) (cs : List Change) (e : SdfUnfit) → AreInOrder 0 text cs → Refuses (changed text cs) e → RefusesWith text e
with_changes text cs (unfit.Fault kind line) order fault = (cs, order, fault)
with_changes text cs unfit.NoMemory order fault = tt

pub refused_with : {A : Type 0} (text : List ℕ) (cs : List Change) (r : Result A SdfUnfit) → AreInOrder 0 text cs → IfErr r (Refuses (changed text cs)) → IfErr r (RefusesWith text)
refused_with text cs (Ok a) order fault = tt
refused_with text cs (Err e) order fault = with_changes text cs e order fault

pub no_changes : (text : List ℕ) (cs : List Change) → (length cs == 0) ≡ true → changed text cs ≡ text
no_changes text [] empty = refl
no_changes text (c ∷ cs) empty = absurd (omega (arith, eqb-true (length (c ∷ cs)) 0 empty))

-- a fault that the reader answers is one that the text has
pub fault_read : (text : List ℕ) (r : Result code_sdf.Sdf (Refused SdfKind)) (e : Refused SdfKind) (kind : SdfKind) (place : Place) → r ≡ Err e → e ≡ code.Fault kind place → Stands (Reads text) r → Reads text (refused kind place)
fault_read text r e kind place a b h = let s : Stands (Reads text) (Err (code.Fault kind place)) = subst (λ x. Stands (Reads text) x) (a ∙ ap (λ y. Err y) b) h in s

-- the same text under another name
pub read_as : {A : Type 0} (r : Result A SdfUnfit) (text same : List ℕ) → text ≡ same → OnOk r (IsReadable text) → OnOk r (IsReadable same)
read_as r text same e h = subst (λ x. OnOk r (IsReadable x)) e h
