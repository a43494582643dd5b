-- What declarations say of variables, and the rows that stand for it.
use Rattle.std.specs.Prelude.{ℕ, ◌+◌, List, [], ◌∷◌, false, Option, Some, None, bytes_eq, if◌then◌else◌, find, map, sum_by}
use Rattle.std.specs.Borrow.{Bor}
use Rattle.std.specs.Option.{option_map}
use Rattle.sg_circuit.specs.Closed.{width_of}
use Rattle.sg_circuit.specs.declared.scopes.Port.TheVariants as port
use Rattle.elab_model.specs.Names.{bounds, port_of_direction}
use Rattle.elab_declared.specs.declared.nets.NetDeclaration.{NetDeclaration}
use Rattle.vl_tree.specs.declared.modules.PortDeclaration.{PortDeclaration}
use Rattle.elab_variables.specs.declared.tables.Row.{Row}

-- a variable of which nothing is said
abbrev pub blank : Row
blank = record { range = None; reg = false; port = port.Inner; start = 0 }

-- what a declaration of a net or a port says
abbrev pub net_said : NetDeclaration → Row → Row
net_said d r = record { range = option_map bounds d.range; reg = d.reg; port = r.port; start = r.start }

abbrev pub port_said : PortDeclaration → Row → Row
port_said d r = record { range = option_map bounds d.range; reg = r.reg; port = port_of_direction d.direction; start = r.start }

abbrev pub said_by : {D : Type 0} → (D → Row → Row) → Option D → Row → Row
said_by said None r = r
said_by said (Some d) r = said d r

-- what the first declaration of each name says
abbrev pub first_said : {D : Type 0} → (D → List ℕ) → (D → Row → Row) → List D → List ℕ → Row → Row
first_said text said ds n r = said_by said (find (λ d. bytes_eq n (text d)) ds) r

-- what is said of one name
abbrev pub said_of : List ℕ → (Row → Row) → List ℕ → Row → Row
said_of t said n r = if bytes_eq n t then said r else r

-- each row as it is told by its name
abbrev pub rows_with : (List ℕ → Row → Row) → List (Bor (List ℕ)) → List Row → List Row
rows_with told [] rs = []
rows_with told (k ∷ ks) [] = []
rows_with told (k ∷ ks) (r ∷ rs) = told k.now r ∷ rows_with told ks rs

-- what a module's declarations say of a name
abbrev pub row_said : List PortDeclaration → List NetDeclaration → List ℕ → Row
row_said ports nets n = first_said (λ d. d.name.text.now) port_said ports n (first_said (λ d. d.name.text.now) net_said nets n blank)

abbrev pub rows_said : List PortDeclaration → List NetDeclaration → List (Bor (List ℕ)) → List Row
rows_said ports nets keys = map (λ k. row_said ports nets k.now) keys

-- each variable's bits start where those before it end
abbrev pub placed : ℕ → List Row → List Row
placed next [] = []
placed next (r ∷ rs) = record { range = r.range; reg = r.reg; port = r.port; start = next } ∷ placed (next + width_of r.range) rs

abbrev pub bit_count : List Row → ℕ
bit_count rs = sum_by (λ r. width_of r.range) rs
