-- A table's faults are those of the primitive.
use Rattle.std.specs.Prelude.{◌≡◌, ℕ, List, Bool}
use Rattle.std.proofs.Common.{subst, inl, inr}
use Rattle.sg_text.specs.declared.refusals.Refused.{Refused}
use Rattle.sg_text.specs.declared.refusals.Refused.TheVariants as refused
use Rattle.udp_rows.specs.declared.cells.RawRow.{RawRow}
use Rattle.udp_rows.specs.Faults.{HasNoFault}
use Rattle.vl_tree.specs.Tree.{Primitive}
use Rattle.elab_model.specs.declared.kinds.ElabKind.{ElabKind}
use Rattle.elab_model.specs.Faults.{RefusesOneOf}
use Rattle.elab_model.specs.Primitives.{input_count, is_sequential}
use Rattle.elab_model.specs.PrimitiveFaults.{primitive_faults}
use Rattle.elab_primitives.specs.Refusals.{RefusesPrimitive, RefusesTable}

pub table-faultless : (p : Primitive) (n : ℕ) (s : Bool) (rows : List RawRow) → n ≡ input_count p → s ≡ is_sequential p → rows ≡ p.rows → HasNoFault n s rows
    → HasNoFault (input_count p) (is_sequential p) p.rows
table-faultless p n s rows e f g h =
    subst (λ xs. HasNoFault (input_count p) (is_sequential p) xs) g (subst (λ b. HasNoFault (input_count p) b rows) f (subst (λ k. HasNoFault k s rows) e h))

pub refuses-declarations : (p : Primitive) (r : Refused ElabKind) → RefusesOneOf (primitive_faults p) r → RefusesPrimitive p r
refuses-declarations p (refused.Fault kind place) h = inl h
refuses-declarations p refused.NoMemory h = tt

pub refuses-table : (p : Primitive) (r : Refused ElabKind) → RefusesTable p r → RefusesPrimitive p r
refuses-table p (refused.Fault kind place) h = inr h
refuses-table p refused.NoMemory h = tt
