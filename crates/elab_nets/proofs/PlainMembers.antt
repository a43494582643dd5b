-- Assignments and supplies have no nets of their own, and no instance in them.
use Rattle.std.specs.Prelude.{◌≡◌, ◌⊎◌, ℕ, [], None, refl}
use Rattle.std.specs.Borrow.{Bor}
use Rattle.std.proofs.Common.{sym, inl, inr, subst}
use Rattle.sg_logic.specs.declared.values.Value.{Value}
use Rattle.vl_tree.specs.declared.expressions.Expression as code_expression
use Rattle.vl_tree.specs.declared.items.Join as code_join
use Rattle.vl_tree.specs.declared.names.Name as code_name
use Rattle.vl_tree.specs.Tree.{Source}
use Rattle.elab_model.specs.Ends.{first_ends}
use Rattle.elab_model.specs.Hierarchy.{Instance, child_of_member}
use Rattle.elab_model.specs.Members.{Member}
use Rattle.elab_model.specs.Nets.{member_nets}
use Rattle.elab_variables.specs.Seen.{view_member}
use Rattle.elab_variables.specs.declared.member_list.Member as code_member
use Rattle.elab_variables.specs.declared.member_list.Member.TheVariants as member

pub record IsPlain (source : Source) (s : Instance) (k : ℕ) (x : Member) : Type 0 where
  pub none : child_of_member source k x ≡ None
  pub no_nets : member_nets source s (k, x) ≡ []
  pub no_ends : first_ends s.step.definition (k, x) ≡ []

pub is-plain : (source : Source) (s : Instance) (k : ℕ) (m : code_member.Member)
    → ((n : code_name.Name) × (e : Bor code_expression.Expression) × (m ≡ member.Declared n e)) ⊎ (((j : Bor code_join.Join) × (m ≡ member.Assignment j)) ⊎ ((n : code_name.Name) × (v : Value) × (m ≡ member.Supply n v)))
    → IsPlain source s k (view_member m)
is-plain source s k m (inl (n, e, is)) = subst (λ y. IsPlain source s k (view_member y)) (sym is) (record { none = refl; no_nets = refl; no_ends = refl })
is-plain source s k m (inr (inl (j, is))) = subst (λ y. IsPlain source s k (view_member y)) (sym is) (record { none = refl; no_nets = refl; no_ends = refl })
is-plain source s k m (inr (inr (n, v, is))) = subst (λ y. IsPlain source s k (view_member y)) (sym is) (record { none = refl; no_nets = refl; no_ends = refl })
