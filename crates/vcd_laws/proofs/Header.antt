-- What the header of a written dump declares in the top's scope.
use Rattle.std.specs.Prelude.{◌≡◌, ℕ, zero, suc, ◌+◌, ◌<◌, ◌≤◌, true, false, if◌then◌else◌, List, [], ◌∷◌, ◌++◌, length, filter_map, flat_map, bytes_eq, Option, Some, None, refl}
use Rattle.std.specs.List.{cons_option}
use Rattle.std.proofs.Common.{sym, ◌∙◌, ap, subst, arith}
use Rattle.std.proofs.lemmas.Bool.{false_from_ne_true}
use Rattle.std.proofs.lemmas.List.{append_assoc, length-append}
use Rattle.std.proofs.lemmas.Slice.Eq.{bytes_eq-Decides}
use Rattle.sg_circuit.specs.Circuit.{Circuit, Variable, scope_at}
use Rattle.wave_out.specs.declared.scopes.Visit.{Visit}
use Rattle.wave_out.specs.declared.scopes.Visit.TheVariants.{Enters, Leaves}
use Rattle.wave_out.specs.Scopes.{children_of, variables_at, visits_in}
use Rattle.wave_out.specs.Texts.{written_name}
use Rattle.vcd_form.specs.Written.{Declaration, Section, declares, enters, leaves}
use Rattle.vcd_model.specs.Inputs.{bare, declared_at, is_at, own, path, scopes_after, with_scopes}
use Rattle.vcd_laws.proofs.Entries.{declared_as}
use Rattle.vcd_laws.proofs.Items.{numbered}

-- ---- declarations in scopes of a path, from open scopes on

abbrev pub Placed : Type 0
Placed = List (List ℕ) × Section

abbrev pub own_from : List ℕ → List (List ℕ) → List Section → List Declaration
own_from scope scopes [] = []
own_from scope scopes (s ∷ ss) = cons_option (declared_at scope scopes s) (own_from scope (scopes_after scopes s) ss)

own_is_from : (scope : List ℕ) (scopes : List (List ℕ)) (ss : List Section) → filter_map (λ (p : Placed). declared_at scope p.0 p.1) (with_scopes scopes ss) ≡ own_from scope scopes ss
own_is_from scope scopes [] = refl
own_is_from scope scopes (s ∷ ss) = ap (cons_option (declared_at scope scopes s)) (own_is_from scope (scopes_after scopes s) ss)

pub own_is : (scope : List ℕ) (ss : List Section) → own scope ss ≡ own_from scope [] ss
own_is scope ss = own_is_from scope [] ss

abbrev pub stack_after : List (List ℕ) → List Section → List (List ℕ)
stack_after scopes [] = scopes
stack_after scopes (s ∷ ss) = stack_after (scopes_after scopes s) ss

pub own-append : (scope : List ℕ) (scopes : List (List ℕ)) (xs ys : List Section) → own_from scope scopes (xs ++ ys) ≡ own_from scope scopes xs ++ own_from scope (stack_after scopes xs) ys
own-append scope scopes [] ys = refl
own-append scope scopes (x ∷ xs) ys = ap (cons_option (declared_at scope scopes x)) (own-append scope (scopes_after scopes x) xs ys) ∙ at (declared_at scope scopes x) (own_from scope (scopes_after scopes x) xs) (own_from scope (stack_after (scopes_after scopes x) xs) ys)
  where
    at : (o : Option Declaration) (xs bs : List Declaration) → cons_option o (xs ++ bs) ≡ cons_option o xs ++ bs
    at None xs bs = refl
    at (Some d) xs bs = refl

pub stack-append : (scopes : List (List ℕ)) (xs ys : List Section) → stack_after scopes (xs ++ ys) ≡ stack_after (stack_after scopes xs) ys
stack-append scopes [] ys = refl
stack-append scopes (x ∷ xs) ys = stack-append (scopes_after scopes x) xs ys

-- ---- sections of visits

abbrev pub declared_one : ℕ → Variable → List Declaration
declared_one k v = declared_as k v ∷ []

abbrev pub section_one : ℕ → Variable → List Section
section_one k v = declares (declared_as k v) ∷ []

abbrev pub visit_sections : Circuit → ℕ → List Visit → List Section
visit_sections circuit k [] = []
visit_sections circuit k (Enters s ∷ rest) =
    enters (written_name (scope_at circuit s).name) ∷ (numbered section_one k (scope_at circuit s).variables ++ visit_sections circuit (k + length (scope_at circuit s).variables) rest)
visit_sections circuit k (Leaves ∷ rest) = leaves ∷ visit_sections circuit k rest

-- how many variables some visits show
abbrev pub count_of : Circuit → List Visit → ℕ
count_of circuit vs = length (flat_map (variables_at circuit) vs)

pub visits-append : (circuit : Circuit) (k : ℕ) (xs ys : List Visit) → visit_sections circuit k (xs ++ ys) ≡ visit_sections circuit k xs ++ visit_sections circuit (k + count_of circuit xs) ys
visits-append circuit k [] ys = ap (λ n. visit_sections circuit n ys) (let q : k ≡ k + 0 = omega arith in q)
visits-append circuit k (Enters s ∷ xs) ys =
    let vars = (scope_at circuit s).variables in
    let here = numbered section_one k vars in
    let many : k + length vars + count_of circuit xs ≡ k + count_of circuit (Enters s ∷ xs) = more k vars (flat_map (variables_at circuit) xs) in
    ap (λ t. enters (written_name (scope_at circuit s).name) ∷ (here ++ t)) (visits-append circuit (k + length vars) xs ys)
    ∙ (ap (λ t. enters (written_name (scope_at circuit s).name) ∷ t) (sym (append_assoc here (visit_sections circuit (k + length vars) xs) (visit_sections circuit (k + length vars + count_of circuit xs) ys)))
    ∙ ap (λ n. enters (written_name (scope_at circuit s).name) ∷ (here ++ visit_sections circuit (k + length vars) xs ++ visit_sections circuit n ys)) many)
  where
    more : (n : ℕ) (xs bs : List Variable) → n + length xs + length bs ≡ n + length (xs ++ bs)
    more n xs bs = (let q : length (xs ++ bs) ≡ length xs + length bs = length-append xs bs in omega arith)
visits-append circuit k (Leaves ∷ xs) ys = ap (λ t. leaves ∷ t) (visits-append circuit k xs ys)

-- ---- declarations under open scopes

pub decls_stack : (scopes : List (List ℕ)) (k : ℕ) (vs : List Variable) → stack_after scopes (numbered section_one k vs) ≡ scopes
decls_stack scopes k [] = refl
decls_stack scopes k (v ∷ vs) = decls_stack scopes (suc k) vs

pub decls_none : (scope : List ℕ) (scopes : List (List ℕ)) (k : ℕ) (vs : List Variable) → is_at scope scopes ≡ false → own_from scope scopes (numbered section_one k vs) ≡ []
decls_none scope scopes k [] e = refl
decls_none scope scopes k (v ∷ vs) e =
    ap (λ b. cons_option (if b then Some (declared_as k v) else None) (own_from scope scopes (numbered section_one (suc k) vs))) e ∙ decls_none scope scopes (suc k) vs e

pub decls_all : (scope : List ℕ) (scopes : List (List ℕ)) (k : ℕ) (vs : List Variable) → is_at scope scopes ≡ true → own_from scope scopes (numbered section_one k vs) ≡ numbered declared_one k vs
decls_all scope scopes k [] e = refl
decls_all scope scopes k (v ∷ vs) e =
    ap (λ b. cons_option (if b then Some (declared_as k v) else None) (own_from scope scopes (numbered section_one (suc k) vs))) e
    ∙ ap (λ ds. declared_as k v ∷ ds) (decls_all scope scopes (suc k) vs e)

-- ---- nested scopes declare nothing in a shorter path

pub record Silent (scope : List ℕ) (scopes : List (List ℕ)) (ss : List Section) : Type 0 where
  pub none : own_from scope scopes ss ≡ []
  pub stack : stack_after scopes ss ≡ scopes

silent_none : (scope : List ℕ) (scopes : List (List ℕ)) → Silent scope scopes []
silent_none scope scopes = record { none = refl; stack = refl }

silent_append : (scope : List ℕ) (scopes : List (List ℕ)) (xs ys : List Section) → Silent scope scopes xs → Silent scope scopes ys → Silent scope scopes (xs ++ ys)
silent_append scope scopes xs ys h k = record {
  none = own-append scope scopes xs ys ∙ (ap (λ ds. ds ++ own_from scope (stack_after scopes xs) ys) h.none ∙ (ap (λ ns. own_from scope ns ys) h.stack ∙ k.none));
  stack = stack-append scopes xs ys ∙ (ap (λ ns. stack_after ns ys) h.stack ∙ k.stack);
}

-- the path of a scope in open ones is longer than theirs
longer_path : (n : List ℕ) (m : List ℕ) (ns : List (List ℕ)) → length (path (m ∷ ns)) < length (path (n ∷ m ∷ ns))
longer_path n m ns = (let q : length (path (m ∷ ns) ++ 46 ∷ n) ≡ length (path (m ∷ ns)) + suc (length n) = length-append (path (m ∷ ns)) (46 ∷ n) in omega arith)

other_path : (scope : List ℕ) (n : List ℕ) (ns : List (List ℕ)) → length scope < length (path (n ∷ ns)) → is_at scope (n ∷ ns) ≡ false
other_path scope n ns l = false_from_ne_true (bytes_eq (path (n ∷ ns)) scope) (λ e. (let q : length (path (n ∷ ns)) ≡ length scope = ap length ((bytes_eq-Decides (path (n ∷ ns)) scope).0 e) in omega arith))

pub nested_list : (scope : List ℕ) (circuit : Circuit) (turns : ℕ) (cs : List ℕ) (k : ℕ) (m : List ℕ) (ns : List (List ℕ))
    → ((s n : ℕ) → Silent scope (m ∷ ns) (visit_sections circuit n (visits_in turns circuit s))) → Silent scope (m ∷ ns) (visit_sections circuit k (flat_map (visits_in turns circuit) cs))
nested_list scope circuit turns [] k m ns each = silent_none scope (m ∷ ns)
nested_list scope circuit turns (c ∷ cs) k m ns each =
    subst (Silent scope (m ∷ ns)) (sym (visits-append circuit k (visits_in turns circuit c) (flat_map (visits_in turns circuit) cs)))
    (silent_append scope (m ∷ ns) (visit_sections circuit k (visits_in turns circuit c)) (visit_sections circuit (k + count_of circuit (visits_in turns circuit c)) (flat_map (visits_in turns circuit) cs)) (each c k)
    (nested_list scope circuit turns cs (k + count_of circuit (visits_in turns circuit c)) m ns each))

nested_step : (scope : List ℕ) (circuit : Circuit) (turns s k : ℕ) (m : List ℕ) (ns : List (List ℕ)) → length scope < length (path (bare (written_name (scope_at circuit s).name) ∷ m ∷ ns))
    → ((c n : ℕ) → Silent scope (bare (written_name (scope_at circuit s).name) ∷ m ∷ ns) (visit_sections circuit n (visits_in turns circuit c))) → Silent scope (m ∷ ns) (visit_sections circuit k (visits_in (suc turns) circuit s))
nested_step scope circuit turns s k m ns long each = record { none = none_is; stack = stack_is }
  where
    name : List ℕ
    name = bare (written_name (scope_at circuit s).name)

    vars : List Variable
    vars = (scope_at circuit s).variables

    inner : List Section
    inner = visit_sections circuit (k + length vars) (flat_map (visits_in turns circuit) (children_of circuit s))

    children : Silent scope (name ∷ m ∷ ns) inner
    children = nested_list scope circuit turns (children_of circuit s) (k + length vars) name (m ∷ ns) each

    decls : Silent scope (name ∷ m ∷ ns) (numbered section_one k vars)
    decls = record { none = decls_none scope (name ∷ m ∷ ns) k vars (other_path scope name (m ∷ ns) long); stack = decls_stack (name ∷ m ∷ ns) k vars }

    both : Silent scope (name ∷ m ∷ ns) (numbered section_one k vars ++ inner)
    both = silent_append scope (name ∷ m ∷ ns) (numbered section_one k vars) inner decls children

    is : numbered section_one k vars ++ visit_sections circuit (k + length vars) (flat_map (visits_in turns circuit) (children_of circuit s) ++ Leaves ∷ []) ≡ (numbered section_one k vars ++ inner) ++ leaves ∷ []
    is = ap (λ t. numbered section_one k vars ++ t) (visits-append circuit (k + length vars) (flat_map (visits_in turns circuit) (children_of circuit s)) (Leaves ∷ [])) ∙ sym (append_assoc (numbered section_one k vars) inner (leaves ∷ []))

    none_is : own_from scope (name ∷ m ∷ ns) (numbered section_one k vars ++ visit_sections circuit (k + length vars) (flat_map (visits_in turns circuit) (children_of circuit s) ++ Leaves ∷ [])) ≡ []
    none_is = ap (own_from scope (name ∷ m ∷ ns)) is ∙ (own-append scope (name ∷ m ∷ ns) (numbered section_one k vars ++ inner) (leaves ∷ []) ∙ ap (λ ds. ds ++ []) both.none)

    stack_is : stack_after (name ∷ m ∷ ns) (numbered section_one k vars ++ visit_sections circuit (k + length vars) (flat_map (visits_in turns circuit) (children_of circuit s) ++ Leaves ∷ [])) ≡ m ∷ ns
    stack_is = ap (stack_after (name ∷ m ∷ ns)) is ∙ (stack-append (name ∷ m ∷ ns) (numbered section_one k vars ++ inner) (leaves ∷ []) ∙ ap (λ xs. stack_after xs (leaves ∷ [])) both.stack)

pub nested : (scope : List ℕ) (circuit : Circuit) (turns s k : ℕ) (m : List ℕ) (ns : List (List ℕ)) → length scope ≤ length (path (m ∷ ns)) → Silent scope (m ∷ ns) (visit_sections circuit k (visits_in turns circuit s))
nested scope circuit zero s k m ns l = silent_none scope (m ∷ ns)
nested scope circuit (suc turns) s k m ns l =
    let name : List ℕ = bare (written_name (scope_at circuit s).name) in
    let longer : length (path (m ∷ ns)) < length (path (name ∷ m ∷ ns)) = longer_path name m ns in
    nested_step scope circuit turns s k m ns (omega arith) (λ c n. nested scope circuit turns c n name (m ∷ ns) (omega arith))
