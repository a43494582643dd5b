-- What is wrong with what is connected to ports.
use Rattle.std.specs.Prelude.{◌≡◌, ℕ, ◌<◌, ◌≤◌, List, [], ◌∷◌, ◌++◌, Bool, true, false, not, nat_lt, Option, Some, None, Result, map, flat_map, filter_map, option_map, length, zip, refl}
use Rattle.std.specs.List.{cons_option}
use Rattle.std.proofs.Common.{sym, ◌∙◌, ap, arith, subst, append-nil}
use Rattle.std.proofs.lemmas.List.{length-map}
use Rattle.std.proofs.lemmas.Bool.Decides.{nat_tests}
use Rattle.std.specs.Option.{is_some}
use Rattle.std.proofs.lemmas.List.Folds.{flat_map-map}
use Rattle.sg_circuit.specs.Closed.{width_of}
use Rattle.sg_circuit.specs.declared.scopes.Port.{Port}
use Rattle.sg_circuit.specs.declared.scopes.Port.TheVariants as port
use Rattle.sg_text.specs.declared.places.Place.{Place}
use Rattle.sg_text.specs.declared.refusals.Refused.{Refused}
use Rattle.sg_text.specs.declared.refusals.Refused.TheVariants as refused
use Rattle.vl_tree.specs.declared.expressions.Expression as code
use Rattle.vl_tree.specs.declared.names.Name as code_name
use Rattle.vl_tree.specs.declared.items.NamedConnection as code_connection
use Rattle.vl_tree.specs.Seen.{view_expression, view_name, view_named_connection}
use Rattle.vl_tree.specs.Tree.{Named, Expression, Delay, NamedConnection, Instance, Module}
use Rattle.elab_model.specs.declared.kinds.ElabKind.{ElabKind}
use Rattle.elab_model.specs.declared.kinds.ElabKind.TheVariants.{UnknownName, BadTerminal, BadDelay}
use Rattle.elab_model.specs.Faults.{fault_if, RefusesOneOf, duplicates}
use Rattle.elab_model.specs.Homes.{is_output}
use Rattle.elab_model.specs.Members.{connection_values}
use Rattle.elab_model.specs.ModuleFaults.{directed_faults, value_faults, port_faults, connection_faults, delay_on_module}
use Rattle.elab_model.specs.Names.{Variable, variable, is_among}
use Rattle.elab_model.specs.Ports.{port_list, port_names}
use Rattle.elab_model.specs.TerminalFaults.{expression_faults, width_faults, is_missing}
use Rattle.elab_variables.specs.declared.tables.Row.{Row}
use Rattle.elab_declared.proofs.Refusals.{refused-left, refused-right}
use Rattle.elab_modules.specs.Telling.{Tells, is_port, joined_faults, joined_value_faults}
use Rattle.elab_modules.specs.Connecting.{IsPortRow, own_faults, connected_faults, ordered_faults, named_faults, connections_faults, instance_of_module_faults}
use Rattle.elab_modules.proofs.InTurn.{fault-told, no-fault}
use Rattle.elab_modules.proofs.SameFaults.{Same, same-as, same-then, same-beside, same-each, same-front, same-parted, tells-same}

-- ---- one connection

connected-same : (vs : List Variable) (m : Module) (n : Named) (o : Option Expression) → Same (connected_faults vs m n o) (own_faults vs o ++ port_faults vs m n o)
connected-same vs m n o = same-front (fault_if (not (is_among n.text (port_names m))) UnknownName n.place) (own_faults vs o) (value_faults vs (variable m n.text) o)

pub unknown-port : (vs : List Variable) (m : Module) (n : Named) (o : Option Expression) → is_among n.text (port_names m) ≡ false
    → RefusesOneOf (connected_faults vs m n o) (refused.Fault UnknownName n.place)
unknown-port vs m n o h =
    refused-left (fault_if (not (is_among n.text (port_names m))) UnknownName n.place) (own_faults vs o ++ value_faults vs (variable m n.text) o) (refused.Fault UnknownName n.place)
    (fault-told (not (is_among n.text (port_names m))) UnknownName n.place (ap not h))

-- what is joined to a port that has a direction
joined-port : (vs : List Variable) (v : Variable) (o : Option Expression) (p : Port) → v.port ≡ p → is_port p ≡ true → joined_value_faults vs (width_of v.range) (is_output v.port) o ≡ own_faults vs o ++ value_faults vs v o
joined-port vs v None p e h = refl
joined-port vs v (Some x) p e h =
    ap (λ b. joined_faults vs w (is_output b) x) e ∙ by p h ∙ ap (λ b. expression_faults vs x ++ directed_faults vs b w x) (sym e)
  where
    w : ℕ
    w = width_of v.range

    by : (p : Port) → is_port p ≡ true → joined_faults vs w (is_output p) x ≡ expression_faults vs x ++ directed_faults vs p w x
    by port.Input h = ap (λ fs. expression_faults vs x ++ fs) (append-nil (width_faults vs w x))
    by port.Output h = refl
    by port.Inner h = cc

pub known-port : {A : Type 0} (vs : List Variable) (m : Module) (n : Named) (o : Option Expression) (width : ℕ) (out : Bool) (result : Result A (Refused ElabKind)) (r : Row) → IsPortRow m n.text (Some r)
    → width ≡ width_of r.range → out ≡ is_output r.port → Tells (joined_value_faults vs width out o) result → Tells (connected_faults vs m n o) result
known-port vs m n o width out result r (there, (range, (port, directed))) w i t =
    let v = variable m n.text in
    let all : joined_value_faults vs width out o ≡ connected_faults vs m n o =
    ap (λ k. joined_value_faults vs k out o) (w ∙ ap width_of range) ∙ ap (λ b. joined_value_faults vs (width_of v.range) b o) (i ∙ ap is_output port)
    ∙ joined-port vs v o v.port refl (ap is_port (sym port) ∙ directed)
    ∙ ap (λ fs. fs ++ (own_faults vs o ++ value_faults vs v o)) (sym (no-fault (not (is_among n.text (port_names m))) UnknownName n.place (ap not there))) in
    subst (λ fs. Tells fs result) all t

-- ---- all of them

each-connected : {A : Type 0} (vs : List Variable) (m : Module) (name : A → Named) (value : A → Option Expression) (xs : List A)
    → Same (flat_map (λ x. connected_faults vs m (name x) (value x)) xs) (flat_map (λ x. own_faults vs (value x)) xs ++ flat_map (λ x. port_faults vs m (name x) (value x)) xs)
each-connected vs m name value xs =
    same-then _ (flat_map (λ x. own_faults vs (value x) ++ port_faults vs m (name x) (value x)) xs) _
    (same-each (λ x. connected_faults vs m (name x) (value x)) (λ x. own_faults vs (value x) ++ port_faults vs m (name x) (value x)) xs (λ x. connected-same vs m (name x) (value x)))
    (same-parted (λ x. own_faults vs (value x)) (λ x. port_faults vs m (name x) (value x)) xs)

kept : {A : Type 0} (vs : List Variable) (value : A → Option Expression) (xs : List A) → flat_map (λ x. own_faults vs (value x)) xs ≡ flat_map (expression_faults vs) (filter_map value xs)
kept vs value [] = refl
kept vs value (x ∷ xs) = by (value x) (kept vs value xs)
  where
    by : (o : Option Expression) → flat_map (λ x. own_faults vs (value x)) xs ≡ flat_map (expression_faults vs) (filter_map value xs)
        → own_faults vs o ++ flat_map (λ x. own_faults vs (value x)) xs ≡ flat_map (expression_faults vs) (cons_option o (filter_map value xs))
    by None h = h
    by (Some e) h = ap (λ fs. expression_faults vs e ++ fs) h

zip-kept : (vs : List Variable) (ps : List Named) (es : List (Option Expression)) → length es ≤ length ps → flat_map (λ x. own_faults vs x.1) (zip ps es) ≡ flat_map (own_faults vs) es
zip-kept vs [] [] h = refl
zip-kept vs [] (e ∷ es) h = absurd (omega arith)
zip-kept vs (p ∷ ps) [] h = refl
zip-kept vs (p ∷ ps) (e ∷ es) h = ap (λ fs. own_faults vs e ++ fs) (zip-kept vs ps es (omega arith))

zip-map : {A B C D : Type 0} (f : A → C) (g : B → D) (xs : List A) (ys : List B) → zip (map f xs) (map g ys) ≡ map (λ x. (f x.0, g x.1)) (zip xs ys)
zip-map f g [] ys = refl
zip-map f g (x ∷ xs) [] = refl
zip-map f g (x ∷ xs) (y ∷ ys) = ap (λ zs. (f x, g y) ∷ zs) (zip-map f g xs ys)

abbrev many : Module → List (Option Expression) → Bool
many m es = nat_lt (length (port_list m)) (length es)

pub too-many : (vs : List Variable) (m : Module) (p : Place) (es : List (Option Expression)) → many m es ≡ true → RefusesOneOf (ordered_faults vs m p es) (refused.Fault BadTerminal p)
too-many vs m p es h =
    let f = fault_if (many m es) BadTerminal p in
    let each = flat_map (λ x. port_faults vs m x.0 x.1) (zip (port_list m) es) in
    refused-right (flat_map (expression_faults vs) (filter_map (λ e. e) es)) (f ++ each) (refused.Fault BadTerminal p)
    (refused-left f each (refused.Fault BadTerminal p) (fault-told (many m es) BadTerminal p h))

pub ordered-tells : {A : Type 0} (vs : List Variable) (m : Module) (p : Place) (ns : List code_name.Name) (es : List (Option code.Expression)) (result : Result A (Refused ElabKind))
    → map view_name ns ≡ port_list m → length es ≤ length ns
    → Tells (flat_map (λ x. connected_faults vs m (view_name x.0) (option_map view_expression x.1)) (zip ns es)) result
    → Tells (ordered_faults vs m p (map (option_map view_expression) es)) result
ordered-tells vs m p ns es result names le h =
    let ves = map (option_map view_expression) es in
    let ps = port_list m in
    let xs = zip ps ves in
    let own = flat_map (λ x. own_faults vs x.1) xs in
    let each = flat_map (λ x. port_faults vs m x.0 x.1) xs in
    let ln : length ps ≡ length ns = ap length (sym names) ∙ length-map ns view_name in
    let le-seen : length ves ≡ length es = length-map es (option_map view_expression) in
    let fits : length ves ≤ length ps = omega arith in
    let begun : flat_map (λ x. connected_faults vs m (view_name x.0) (option_map view_expression x.1)) (zip ns es) ≡ flat_map (λ x. connected_faults vs m x.0 x.1) xs =
    sym (flat_map-map (λ x. connected_faults vs m x.0 x.1) (λ x. (view_name x.0, option_map view_expression x.1)) (zip ns es))
    ∙ ap (flat_map (λ x. connected_faults vs m x.0 x.1)) (sym (zip-map view_name (option_map view_expression) ns es)) ∙ ap (λ qs. flat_map (λ x. connected_faults vs m x.0 x.1) (zip qs ves)) names in
    let few : many m ves ≡ false = not-less (length ps) (length ves) fits in
    let ended : own ++ each ≡ ordered_faults vs m p ves =
    ap (λ fs. fs ++ each) (zip-kept vs ps ves fits ∙ kept vs (λ e. e) ves)
    ∙ ap (λ fs. flat_map (expression_faults vs) (filter_map (λ e. e) ves) ++ (fs ++ each)) (sym (no-fault (many m ves) BadTerminal p few)) in
    tells-same _ (ordered_faults vs m p ves) result
    (same-then _ (flat_map (λ x. connected_faults vs m x.0 x.1) xs) _ (same-as _ _ begun)
    (same-then _ (own ++ each) _ (each-connected vs m (λ x. x.0) (λ x. x.1) xs) (same-as _ _ ended))) h
  where
    not-less : (a b : ℕ) → b ≤ a → nat_lt a b ≡ false
    not-less a b h = grind (arith, nat_tests)

pub named-tells : {A : Type 0} (vs : List Variable) (m : Module) (cs : List code_connection.NamedConnection) (result : Result A (Refused ElabKind))
    → Tells (duplicates (map (λ c. view_name c.port) cs) ++ flat_map (λ c. connected_faults vs m (view_name c.port) (option_map view_expression c.value)) cs) result
    → Tells (named_faults vs m (map view_named_connection cs)) result
named-tells vs m cs result h =
    let vcs = map view_named_connection cs in
    let own = flat_map (λ c. own_faults vs c.value) vcs in
    let each = flat_map (λ c. port_faults vs m c.port c.value) vcs in
    let twice = duplicates (map (λ c. c.port) vcs) in
    let whole = λ (c : NamedConnection). connected_faults vs m c.port c.value in
    let begun : duplicates (map (λ c. view_name c.port) cs) ++ flat_map (λ c. connected_faults vs m (view_name c.port) (option_map view_expression c.value)) cs ≡ twice ++ flat_map whole vcs =
    ap (λ ns. duplicates ns ++ flat_map (λ c. connected_faults vs m (view_name c.port) (option_map view_expression c.value)) cs) (sym (names-seen cs))
    ∙ ap (λ fs. twice ++ fs) (sym (flat_map-map whole view_named_connection cs)) in
    tells-same _ (named_faults vs m vcs) result
    (same-then _ (twice ++ flat_map whole vcs) _ (same-as _ _ begun)
    (same-then _ (twice ++ (own ++ each)) _ (same-beside twice twice (flat_map whole vcs) (own ++ each) (same-as twice twice refl) (each-connected vs m (λ c. c.port) (λ c. c.value) vcs))
    (same-then _ (own ++ (twice ++ each)) _ (same-front twice own each) (same-as _ _ (ap (λ fs. fs ++ (twice ++ each)) (kept vs (λ c. c.value) vcs)))))) h
  where
    names-seen : (cs : List code_connection.NamedConnection) → map (λ c. c.port) (map view_named_connection cs) ≡ map (λ c. view_name c.port) cs
    names-seen [] = refl
    names-seen (c ∷ cs) = ap (λ ns. view_name c.port ∷ ns) (names-seen cs)

-- ---- an instance of a module

pub no-name : (vs : List Variable) (m : Module) (d : Option Delay) (i : Instance) → is_missing i.name ≡ true → RefusesOneOf (instance_of_module_faults vs m d i) (refused.Fault BadTerminal i.place)
no-name vs m d i h =
    let f = fault_if (is_missing i.name) BadTerminal i.place in
    let rest = delay_on_module d ++ connection_faults vs m i.place i.connections in
    refused-right (flat_map (expression_faults vs) (connection_values i.connections)) (f ++ rest) (refused.Fault BadTerminal i.place)
    (refused-left f rest (refused.Fault BadTerminal i.place) (fault-told (is_missing i.name) BadTerminal i.place h))

pub module-tells : {A : Type 0} (vs : List Variable) (m : Module) (d : Option Delay) (i : Instance) (result : Result A (Refused ElabKind)) → is_missing i.name ≡ false → d ≡ None
    → Tells (connections_faults vs m i.place i.connections) result → Tells (instance_of_module_faults vs m d i) result
module-tells vs m d i result named none h =
    let e = flat_map (expression_faults vs) (connection_values i.connections) in
    let k = connection_faults vs m i.place i.connections in
    let all : connections_faults vs m i.place i.connections ≡ instance_of_module_faults vs m d i =
    ap (λ o. e ++ (delay_on_module o ++ k)) (sym none) ∙ ap (λ fs. e ++ (fs ++ (delay_on_module d ++ k))) (sym (no-fault (is_missing i.name) BadTerminal i.place named)) in
    subst (λ fs. Tells fs result) all h

pub delayed : (vs : List Variable) (m : Module) (o : Option Delay) (d : Delay) (i : Instance) → o ≡ Some d → RefusesOneOf (instance_of_module_faults vs m o i) (refused.Fault BadDelay d.place)
delayed vs m o d i e =
    let f = fault_if (is_missing i.name) BadTerminal i.place in
    let k = connection_faults vs m i.place i.connections in
    let one : RefusesOneOf (delay_on_module (Some d)) (refused.Fault BadDelay d.place) = (0, (omega arith, refl)) in
    refused-right (flat_map (expression_faults vs) (connection_values i.connections)) (f ++ (delay_on_module o ++ k)) (refused.Fault BadDelay d.place)
    (refused-right f (delay_on_module o ++ k) (refused.Fault BadDelay d.place)
    (refused-left (delay_on_module o) k (refused.Fault BadDelay d.place) (subst (λ x. RefusesOneOf (delay_on_module x) (refused.Fault BadDelay d.place)) (sym e) one)))

pub name-missing : (o : Option code_name.Name) (b : Bool) → is_some o ≡ not b → b ≡ true → is_missing (option_map view_name o) ≡ true
name-missing None b e h = refl
name-missing (Some n) b e h = let f : true ≡ false = e ∙ ap not h in cc

pub name-given : (o : Option code_name.Name) (b : Bool) → is_some o ≡ not b → b ≡ false → is_missing (option_map view_name o) ≡ false
name-given None b e h = let f : false ≡ true = e ∙ ap not h in cc
name-given (Some n) b e h = refl

-- more values than ports, as the code counts them
pub more-values : (vs : List Variable) (m : Module) (p : Place) (ns : List code_name.Name) (es : List (Option code.Expression)) (a b : ℕ) → map view_name ns ≡ port_list m → a ≡ length es
    → b ≡ length ns → b < a
    → RefusesOneOf (ordered_faults vs m p (map (option_map view_expression) es)) (refused.Fault BadTerminal p)
more-values vs m p ns es a b names ea eb lt =
    let ves = map (option_map view_expression) es in
    let ln : length (port_list m) ≡ length ns = ap length (sym names) ∙ length-map ns view_name in
    let le : length ves ≡ length es = length-map es (option_map view_expression) in
    too-many vs m p ves (less (length (port_list m)) (length ves) (omega arith))
  where
    less : (a b : ℕ) → a < b → nat_lt a b ≡ true
    less a b h = grind (arith, nat_tests)

-- names that the code has
pub names-tell : {A : Type 0} (vs : List Variable) (m : Module) (ns : List Named) (cs : List code_connection.NamedConnection) (result : Result A (Refused ElabKind))
    → ns ≡ map (λ c. view_name c.port) cs
    → Tells (duplicates ns ++ flat_map (λ c. connected_faults vs m (view_name c.port) (option_map view_expression c.value)) cs) result
    → Tells (named_faults vs m (map view_named_connection cs)) result
names-tell vs m ns cs result e h =
    named-tells vs m cs result
    (subst (λ ns. Tells (duplicates ns ++ flat_map (λ c. connected_faults vs m (view_name c.port) (option_map view_expression c.value)) cs) result) e h)
