-- The declarations of the code, as the definitions see them, and the first name that stands twice.
use Rattle.std.specs.Prelude.{◌≡◌, ℕ, Bool, List, [], ◌∷◌, Option, Some, None, bytes_eq}
use Rattle.std.specs.Borrow.{Bor}
use Rattle.std.specs.List.{list_any}
use Rattle.sg_text.specs.declared.places.Place.{Place}
use Rattle.vl_tree.specs.Seen.{view_name}
use Rattle.vl_tree.specs.Tree.{Named, PortDeclaration, HeadPort, declared_port, named_port}
use Rattle.elab_model.specs.Faults.{places_again}
use Rattle.elab_model.specs.Ports.{NetDeclaration, with_name}
use Rattle.elab_declared.specs.declared.nets.NetDeclaration as code_net

abbrev pub view_net : code_net.NetDeclaration → NetDeclaration
view_net d = record { name = view_name d.name; range = d.range; is_reg = d.reg }

-- the port that comes after another in a list of ports
abbrev pub one_after : PortDeclaration → HeadPort → PortDeclaration
one_after before (declared_port d) = d
one_after before (named_port n) = with_name before n

abbrev pub first_of : List Place → Option Place
first_of [] = None
first_of (p ∷ ps) = Some p

-- it is the place of the first name that stands earlier too
abbrev pub IsFirstAgain : List Named → Option Place → Type 0
IsFirstAgain names place = place ≡ first_of (places_again [] names)

-- whether a text is one of those that the code keeps
abbrev pub is_seen : List ℕ → List (Bor (List ℕ)) → Bool
is_seen n keys = list_any (λ y. bytes_eq n y.now) keys
