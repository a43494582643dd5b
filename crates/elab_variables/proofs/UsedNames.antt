-- The names that are used whole, by the parts of the code's tree.
use Rattle.std.specs.Prelude.{◌≡◌, ℕ, ◌≤◌, List, [], ◌∷◌, ◌++◌, Option, Some, None, length, map, flat_map, refl}
use Rattle.std.specs.List.{cons_option}
use Rattle.std.specs.Option.{option_map}
use Rattle.std.proofs.Common.{sym, ◌∙◌, ap, drop, Vec, Global}
use Rattle.std.proofs.lemmas.List.Concat.{flat_map-append}
use Rattle.std.proofs.lemmas.List.Folds.{flat_map-map}
use Rattle.sg_text.specs.declared.places.Place.{Place}
use Rattle.vl_tree.specs.declared.expressions.Expression as code
use Rattle.vl_tree.specs.declared.expressions.Select.{Select}
use Rattle.vl_tree.specs.declared.names.Name as code_name
use Rattle.vl_tree.specs.declared.items.Connections.{Connections as CodeConnections}
use Rattle.vl_tree.specs.declared.items.Connections.TheVariants as connections
use Rattle.vl_tree.specs.declared.items.NamedConnection.{NamedConnection as CodeConnection}
use Rattle.vl_token.specs.declared.constants.Constant.{Constant}
use Rattle.vl_tree.specs.declared.expressions.Expression.TheVariants as variant
use Rattle.vl_tree.specs.declared.expressions.Expression.TheVariants.{rolls-Sized, rolls-Concatenation}
use Rattle.vl_tree.specs.declared.expressions.Expression.TheOpen as layer
use Rattle.vl_tree.specs.declared.expressions.Expression.TheFolds.{fold-roll-Expression}
use Rattle.vl_tree.specs.Seen.{view_expression, view_layer, view_name, view_connections, view_named_connection}
use Rattle.vl_tree.specs.Tree.{Expression, expressions, NamedConnection, by_order, by_name}
use Rattle.elab_model.specs.Leaves.{leaves, leaves_of, leaf_of}
use Rattle.elab_model.specs.Members.{connection_values}
use Rattle.elab_model.specs.Names.{whole_name}
use Rattle.elab_variables.specs.Naming.{with_names, names_in, names_if, names_at_net}
use Rattle.elab_variables.proofs.WithNames.{with-none, one-more, no-more-parts}

-- ---- expressions

names-listed : (es : List Expression) → flat_map whole_name (leaves_of (expressions es)) ≡ flat_map names_in es
names-listed [] = refl
names-listed (e ∷ es) = flat_map-append whole_name (leaves e) (leaves_of (expressions es)) ∙ ap (λ ns. names_in e ++ ns) (names-listed es)

view-concatenation : (place : Place) (parts : Vec code.Expression Global)
    → names_in (view_expression (variant.Concatenation place parts)) ≡ flat_map (λ e. names_in (view_expression e)) parts.items
view-concatenation place parts =
    ap (λ e. names_in (view_expression e)) (sym (rolls-Concatenation place parts))
    ∙ ap names_in (fold-roll-Expression Expression view_layer (layer.Concatenation place parts))
    ∙ names-listed (map view_expression parts.items)
    ∙ flat_map-map names_in view_expression parts.items

pub concatenation-named : (now known : List (List ℕ)) (e : code.Expression) (place : Place) (parts : Vec code.Expression Global) → e ≡ variant.Concatenation place parts
    → (es : List code.Expression) → es ≡ parts.items → (i : ℕ) → length es ≤ i
    → with_names now (flat_map (λ x. names_in (view_expression x)) (drop i es)) ≡ with_names known (flat_map (λ x. names_in (view_expression x)) es) → now ≡ with_names known
    (names_in (view_expression e))
concatenation-named now known e place parts is es same i le h =
    no-more-parts (λ x. names_in (view_expression x)) es i now _ le h
    ∙ ap (λ xs. with_names known (flat_map (λ x. names_in (view_expression x)) xs)) same
    ∙ ap (with_names known) (sym (ap (λ x. names_in (view_expression x)) is ∙ view-concatenation place parts))

pub sized-named : (known : List (List ℕ)) (e : code.Expression) (place : Place) (c : Constant) → e ≡ variant.Sized place c → known ≡ with_names known (names_in (view_expression e))
sized-named known e place c is =
    with-none known
    ∙ ap (with_names known) (sym (ap (λ x. names_in (view_expression x)) (is ∙ sym (rolls-Sized place c)) ∙ ap names_in (fold-roll-Expression Expression view_layer (layer.Sized place c))))

pub selected : (known : List (List ℕ)) (n : code_name.Name) (select : Option Select) (given : Select) → select ≡ Some given → known ≡ with_names known (whole_name (leaf_of (view_name n) select))
selected known n select given is = with-none known ∙ ap (λ o. with_names known (whole_name (leaf_of (view_name n) o))) (sym is)

-- ---- members

pub of-option : (e : Option Expression) (es : List Expression) → flat_map names_in (cons_option e es) ≡ names_if e ++ flat_map names_in es
of-option None es = refl
of-option (Some e) es = refl

pub of-order : (es : List (Option Expression)) → flat_map names_in (connection_values (by_order es)) ≡ flat_map names_if es
of-order [] = refl
of-order (e ∷ es) = of-option e (connection_values (by_order es)) ∙ ap (λ ns. names_if e ++ ns) (of-order es)

pub of-names : (cs : List NamedConnection) → flat_map names_in (connection_values (by_name cs)) ≡ flat_map (λ c. names_if c.value) cs
of-names [] = refl
of-names (c ∷ cs) = of-option c.value (connection_values (by_name cs)) ∙ ap (λ ns. names_if c.value ++ ns) (of-names cs)

-- ---- what the code adds

pub terminals-named : (known after : List (List ℕ)) (items now : List code.Expression) → now ≡ items → after ≡ with_names known (flat_map (λ e. names_in (view_expression e)) now)
    → after ≡ with_names known (flat_map names_in (map view_expression items))
terminals-named known after items now same h = h ∙ ap (λ es. with_names known (flat_map (λ e. names_in (view_expression e)) es)) same ∙ ap (with_names known)
    (sym (flat_map-map names_in view_expression items))

pub ordered-named : (known after : List (List ℕ)) (cs : CodeConnections) (vs : Vec (Option code.Expression) Global) → cs ≡ connections.Ordered vs → (now : List (Option code.Expression))
    → now ≡ vs.items
    → after ≡ with_names known (flat_map (λ e. names_if (option_map view_expression e)) now) → after ≡ with_names known (flat_map names_in (connection_values (view_connections cs)))
ordered-named known after cs vs is now same h =
    h
    ∙ ap (λ es. with_names known (flat_map (λ e. names_if (option_map view_expression e)) es)) same
    ∙ ap (with_names known) (sym (flat_map-map names_if (option_map view_expression) vs.items) ∙ sym (of-order (map (option_map view_expression) vs.items)))
    ∙ ap (λ c. with_names known (flat_map names_in (connection_values (view_connections c)))) (sym is)

pub connected-named : (known after : List (List ℕ)) (cs : CodeConnections) (vs : Vec CodeConnection Global) → cs ≡ connections.Named vs → (now : List CodeConnection) → now ≡ vs.items
    → after ≡ with_names known (flat_map (λ c. names_if (option_map view_expression c.value)) now) → after ≡ with_names known (flat_map names_in (connection_values (view_connections cs)))
connected-named known after cs vs is now same h =
    h
    ∙ ap (λ es. with_names known (flat_map (λ c. names_if (option_map view_expression c.value)) es)) same
    ∙ ap (with_names known) (sym (flat_map-map (λ c. names_if c.value) view_named_connection vs.items) ∙ sym (of-names (map view_named_connection vs.items)))
    ∙ ap (λ c. with_names known (flat_map names_in (connection_values (view_connections c)))) (sym is)

pub none-named : (known : List (List ℕ)) (o : Option code.Expression) → o ≡ None → known ≡ with_names known (names_if (option_map view_expression o))
none-named known o is = with-none known ∙ ap (λ e. with_names known (names_if (option_map view_expression e))) (sym is)

pub net-unnamed : (known : List (List ℕ)) (n : List ℕ) (o : Option code.Expression) → o ≡ None → known ≡ with_names known (names_at_net n (option_map view_expression o))
net-unnamed known n o is = with-none known ∙ ap (λ e. with_names known (names_at_net n (option_map view_expression e))) (sym is)

pub net-named : (known mid after : List (List ℕ)) (n : List ℕ) (o : Option code.Expression) (e : code.Expression) → o ≡ Some e → mid ≡ with_names known (n ∷ [])
    → after ≡ with_names mid (names_in (view_expression e)) → after ≡ with_names known (names_at_net n (option_map view_expression o))
net-named known mid after n o e is h g = one-more known mid after (n ∷ []) (names_in (view_expression e)) h g ∙ ap (λ e. with_names known (names_at_net n (option_map view_expression e))) (sym is)
