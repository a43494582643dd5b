-- What the rows say is what the module says.
use Rattle.std.specs.Prelude.{◌≡◌, ℕ, suc, ◌+◌, List, [], ◌∷◌, ◌++◌, Bool, true, false, not, Option, Some, None, length, map, find, refl, bytes_eq, if◌then◌else◌}
use Rattle.std.specs.Borrow.{Bor}
use Rattle.std.specs.List.{AllByRecursion, IsDistinct}
use Rattle.std.specs.Option.{option_map}
use Rattle.std.proofs.Common.{sym, ◌∙◌, ap, subst, cond}
use Rattle.std.proofs.lemmas.Slice.Eq.{bytes_eq-Decides}
use Rattle.sg_circuit.specs.Closed.{width_of}
use Rattle.sg_circuit.specs.declared.scopes.Port.TheVariants as port
use Rattle.vl_tree.specs.declared.modules.PortDeclaration.{PortDeclaration}
use Rattle.vl_tree.specs.Seen.{view_port_declaration}
use Rattle.vl_tree.specs.Tree.{Named, Module, PortDeclaration as ModelPort}
use Rattle.elab_laws.proofs.Apart.{first-apart}
use Rattle.elab_laws.proofs.Lists.{Pairwise, in-map, found-is, all-in}
use Rattle.elab_laws.proofs.NoFaults.{back}
use Rattle.elab_model.specs.Faults.{fault_if, missing, texts_of}
use Rattle.elab_model.specs.Names.{Variable, variable, variables, variable_names, is_among, range_of, is_reg_of, port_of}
use Rattle.elab_model.specs.Ports as model
use Rattle.elab_model.specs.NameFaults.{declared_ports, no_port}
use Rattle.elab_model.specs.declared.kinds.ElabKind.TheVariants.{UnknownName}
use Rattle.elab_declared.specs.declared.nets.NetDeclaration.{NetDeclaration}
use Rattle.elab_declared.specs.Words.{view_net}
use Rattle.elab_variables.specs.Naming.{key_texts}
use Rattle.elab_variables.specs.Rows.{blank, said_by, net_said, port_said, row_said, rows_said, placed}
use Rattle.elab_variables.specs.Tables.{variable_seen, variables_seen}

-- ---- names are distinct

from-pairs : (ns : List (List ℕ)) → Pairwise (λ n m. bytes_eq n m ≡ false) ns → IsDistinct bytes_eq ns
unfolding IsDistinct
from-pairs [] h = tt
from-pairs (n ∷ ns) h = (h.0, from-pairs ns h.1)

pub names-distinct : (m : Module) (keys : List (Bor (List ℕ))) → key_texts keys ≡ variable_names m → IsDistinct bytes_eq (key_texts keys)
names-distinct m keys e = subst (IsDistinct bytes_eq) (sym e) (from-pairs (variable_names m) (first-apart [] _))

-- ---- a port that is declared is in the list

none-missing : (ns others : List Named) → missing UnknownName ns others ≡ [] → AllByRecursion (λ n. is_among n.text (texts_of others) ≡ true) ns
none-missing [] others h = tt
none-missing (n ∷ ns) others h = (
  by (is_among n.text (texts_of others)) h,
  none-missing ns others
      (back (fault_if (not (is_among n.text (texts_of others))) UnknownName n.place) (missing UnknownName ns others) h),
)
  where
    by : (b : Bool) → fault_if (not b) UnknownName n.place ++ missing UnknownName ns others ≡ [] → b ≡ true
    by true h = refl
    by false h = cc

declared-listed : (m : Module) (n : List ℕ) (p : ModelPort) → no_port m ≡ [] → find (λ d. bytes_eq n d.name.text) (model.port_declarations m) ≡ Some p → is_among n (model.port_names m) ≡ true
declared-listed m n p none e =
    let f = found-is (λ d. bytes_eq n d.name.text) (model.port_declarations m) p e in
    let a = all-in (λ n. is_among n.text (model.port_names m) ≡ true) p.name (declared_ports m) (none-missing (declared_ports m) (model.port_list m) none)
    (in-map (λ d. d.name) p (model.port_declarations m) f.there) in
    subst (λ t. is_among t (model.port_names m) ≡ true) (sym ((bytes_eq-Decides n p.name.text).0 f.passes)) a

-- ---- one variable

find-seen : {A B : Type 0} (view : A → B) (p : B → Bool) (xs : List A) → find p (map view xs) ≡ option_map view (find (λ x. p (view x)) xs)
find-seen view p [] = refl
find-seen view p (x ∷ xs) = by (p (view x)) (find-seen view p xs)
  where
    by : (b : Bool) → find p (map view xs) ≡ option_map view (find (λ x. p (view x)) xs) → cond b (Some (view x)) (find p (map view xs)) ≡ option_map view (cond b (Some x) (find (λ x. p (view x)) xs))
    by true h = refl
    by false h = h

abbrev told : List ℕ → Option ModelPort → Option model.NetDeclaration → Bool → Variable
told n p d listed = record { name = n; range = range_of p d; is_reg = is_reg_of d; port = if listed then port_of p else port.Inner }

by-case : (n : List ℕ) (p : Option PortDeclaration) (d : Option NetDeclaration) (listed : Bool) → ((q : PortDeclaration) → p ≡ Some q → listed ≡ true)
    → variable_seen n (said_by port_said p (said_by net_said d blank)) ≡ told n (option_map view_port_declaration p) (option_map view_net d) listed
by-case n (Some p) (Some d) listed h = ap (told n (Some (view_port_declaration p)) (Some (view_net d))) (sym (h p refl))
by-case n (Some p) None listed h = ap (told n (Some (view_port_declaration p)) None) (sym (h p refl))
by-case n None (Some d) true h = refl
by-case n None (Some d) false h = refl
by-case n None None true h = refl
by-case n None None false h = refl

one-said : (m : Module) (ports : List PortDeclaration) (nets : List NetDeclaration) → no_port m ≡ [] → map view_port_declaration ports ≡ model.port_declarations m
    → map view_net nets ≡ model.net_declarations m
    → (n : List ℕ) → variable_seen n (row_said ports nets n) ≡ variable m n
one-said m ports nets none ps ds n =
    let p : find (λ d. bytes_eq n d.name.text) (model.port_declarations m) ≡ option_map view_port_declaration (find (λ d. bytes_eq n d.name.text.now) ports) =
    ap (find (λ d. bytes_eq n d.name.text)) (sym ps) ∙ find-seen view_port_declaration (λ d. bytes_eq n d.name.text) ports in
    let d : find (λ d. bytes_eq n d.name.text) (model.net_declarations m) ≡ option_map view_net (find (λ d. bytes_eq n d.name.text.now) nets) =
    ap (find (λ d. bytes_eq n d.name.text)) (sym ds) ∙ find-seen view_net (λ d. bytes_eq n d.name.text) nets in
    by-case n (find (λ d. bytes_eq n d.name.text.now) ports) (find (λ d. bytes_eq n d.name.text.now) nets) (is_among n (model.port_names m))
    (λ q e. declared-listed m n (view_port_declaration q) none (p ∙ ap (option_map view_port_declaration) e))
    ∙ ap (λ o. told n o (option_map view_net (find (λ d. bytes_eq n d.name.text.now) nets)) (is_among n (model.port_names m))) (sym p)
    ∙ ap (λ o. told n (find (λ d. bytes_eq n d.name.text) (model.port_declarations m)) o (is_among n (model.port_names m))) (sym d)

-- ---- all variables

all-seen : (ports : List PortDeclaration) (nets : List NetDeclaration) (keys : List (Bor (List ℕ))) (next : ℕ)
    → variables_seen keys (placed next (rows_said ports nets keys)) ≡ map (λ n. variable_seen n (row_said ports nets n)) (key_texts keys)
all-seen ports nets [] next = refl
all-seen ports nets (k ∷ ks) next = ap (λ vs. variable_seen k.now (row_said ports nets k.now) ∷ vs) (all-seen ports nets ks (next + width_of (row_said ports nets k.now).range))

same-map : {A B : Type 0} (f g : A → B) (xs : List A) → ((x : A) → f x ≡ g x) → map f xs ≡ map g xs
same-map f g [] h = refl
same-map f g (x ∷ xs) h = ap (λ y. y ∷ map f xs) (h x) ∙ ap (λ ys. g x ∷ ys) (same-map f g xs h)

pub variables-said : (m : Module) (ports : List PortDeclaration) (nets : List NetDeclaration) (keys : List (Bor (List ℕ))) → no_port m ≡ []
    → map view_port_declaration ports ≡ model.port_declarations m
    → map view_net nets ≡ model.net_declarations m → key_texts keys ≡ variable_names m → variables_seen keys (placed 0 (rows_said ports nets keys)) ≡ variables m
variables-said m ports nets keys none ps ds ns =
    all-seen ports nets keys 0 ∙ same-map (λ n. variable_seen n (row_said ports nets n)) (variable m) (key_texts keys) (one-said m ports nets none ps ds) ∙ ap (map (variable m)) ns

pub length-said : (ports : List PortDeclaration) (nets : List NetDeclaration) (keys : List (Bor (List ℕ))) → length keys ≡ length (rows_said ports nets keys)
length-said ports nets [] = refl
length-said ports nets (k ∷ ks) = ap suc (length-said ports nets ks)
