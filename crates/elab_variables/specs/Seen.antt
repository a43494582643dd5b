-- The members and the variables of the code, as the definitions see them.
use Rattle.std.specs.Prelude.{ℕ, List, [], false, Option, None, option_map, slice_index_or, bytes_eq}
use Rattle.std.specs.List.{position_from}
use Rattle.sg_circuit.specs.declared.scopes.Port.TheVariants as port
use Rattle.vl_tree.specs.Tree.{signal}
use Rattle.vl_tree.specs.Seen.{view_name, view_expression, view_join, view_delay, view_gate_instance, view_instance, view_path, view_check}
use Rattle.elab_model.specs.Members.{Member, assignment, supply, gate, instance, path, check}
use Rattle.elab_model.specs.Names.{Variable}
use Rattle.elab_variables.specs.declared.member_list.Member as code_member
use Rattle.elab_variables.specs.declared.member_list.Member.TheVariants as member

abbrev pub view_member : code_member.Member → Member
view_member (member.Declared n e) = assignment (record { place = n.place; left = signal (view_name n) None; right = view_expression e.now })
view_member (member.Assignment j) = assignment (view_join j.now)
view_member (member.Supply n v) = supply (view_name n) v
view_member (member.Gate g d i) = gate g (option_map view_delay d.now) (view_gate_instance i.now)
view_member (member.Instance n d i) = instance (view_name n) (option_map view_delay d.now) (view_instance i.now)
view_member (member.Path p) = path (view_path p.now)
view_member (member.Check c) = check (view_check c.now)

-- what stands at a place; past the end a blank
abbrev pub variable_at : List Variable → ℕ → Variable
variable_at vs i = slice_index_or vs i (record { name = []; range = None; is_reg = false; port = port.Inner })

-- the place of the variable of a name
abbrev pub place_named : List Variable → List ℕ → Option ℕ
place_named vs n = position_from (λ v. bytes_eq n v.name) 0 vs
