-- What is refused of a name or a select is a fault of the leaf, and where nothing is it has none.
use Rattle.std.specs.Prelude.{◌≡◌, ℕ, List, [], ◌∷◌, Bool, true, false, not, Option, Some, None, refl}
use Rattle.std.proofs.Common.{sym, ◌∙◌, ap, arith, subst}
use Rattle.sg_text.specs.declared.refusals.Refused.TheVariants as refused
use Rattle.vl_tree.specs.Tree.{Named}
use Rattle.vl_tree.specs.declared.expressions.Select.{Select}
use Rattle.elab_model.specs.declared.kinds.ElabKind.{ElabKind}
use Rattle.elab_model.specs.declared.kinds.ElabKind.TheVariants.{UnknownName, BadTerminal}
use Rattle.elab_model.specs.Faults.{Fault, fault, fault_if, RefusesOneOf}
use Rattle.elab_model.specs.Leaves.{leaf_of, part, whole}
use Rattle.elab_model.specs.Names.{Variable}
use Rattle.elab_model.specs.TerminalFaults.{is_missing, has_index, part_faults, leaf_faults}
use Rattle.elab_variables.specs.Seen.{variable_at, place_named}
use Rattle.elab_bits.specs.Words.{ends}
use Rattle.elab_bits.proofs.NamedAt.{named-at, not-named}
use Rattle.elab_bits.proofs.Selects.{out-of-range, in-range}

-- the only fault is refused
only : (fs : List Fault) (k : ElabKind) (n : Named) → fs ≡ fault k n.place ∷ [] → RefusesOneOf fs (refused.Fault k n.place)
only fs k n e = subst (λ gs. RefusesOneOf gs (refused.Fault k n.place)) (sym e) (0, (omega arith, refl))

pub unknown-refused : (vs : List Variable) (n : Named) (s : Option Select) → None ≡ place_named vs n.text → RefusesOneOf (leaf_faults vs (leaf_of n s)) (refused.Fault UnknownName n.place)
unknown-refused vs n None e = only (leaf_faults vs (whole n)) UnknownName n (ap (λ o. fault_if (is_missing o) UnknownName n.place) (not-named vs n.text e))
unknown-refused vs n (Some s) e = only (leaf_faults vs (part n s)) UnknownName n (ap (part_faults n s) (not-named vs n.text e))

part-is : (vs : List Variable) (n : Named) (s : Select) (i : ℕ) (b : Bool) → Some i ≡ place_named vs n.text → has_index (variable_at vs i).range s ≡ b
    → leaf_faults vs (part n s) ≡ fault_if (not b) BadTerminal n.place
part-is vs n s i b f h = ap (part_faults n s) (named-at vs n.text i f).found ∙ ap (λ b. fault_if (not b) BadTerminal n.place) h

pub index-refused : (vs : List Variable) (n : Named) (o : Option Select) (s : Select) (i : ℕ) → o ≡ Some s → Some i ≡ place_named vs n.text → None ≡ ends (variable_at vs i).range s
    → RefusesOneOf (leaf_faults vs (leaf_of n o)) (refused.Fault BadTerminal n.place)
index-refused vs n o s i e f g =
    subst (λ p. RefusesOneOf (leaf_faults vs (leaf_of n p)) (refused.Fault BadTerminal n.place)) (sym e)
    (only (leaf_faults vs (part n s)) BadTerminal n (part-is vs n s i false f (out-of-range (variable_at vs i).range s g)))

pub name-faultless : (vs : List Variable) (n : Named) (o : Option Select) (i : ℕ) → o ≡ None → Some i ≡ place_named vs n.text → leaf_faults vs (leaf_of n o) ≡ []
name-faultless vs n o i e f = ap (λ p. leaf_faults vs (leaf_of n p)) e ∙ ap (λ q. fault_if (is_missing q) UnknownName n.place) (named-at vs n.text i f).found

pub part-faultless : (vs : List Variable) (n : Named) (o : Option Select) (s : Select) (i : ℕ) (x : ℕ × ℕ) → o ≡ Some s → Some i ≡ place_named vs n.text
    → Some x ≡ ends (variable_at vs i).range s → leaf_faults vs (leaf_of n o) ≡ []
part-faultless vs n o s i x e f g = ap (λ p. leaf_faults vs (leaf_of n p)) e ∙ part-is vs n s i true f (in-range (variable_at vs i).range s x g)
