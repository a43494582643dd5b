-- The header of a run's dump, read: its unit is the tick, and the top's scope declares the top's variables.
use Rattle.std.specs.Prelude.{◌≡◌, ℕ, zero, suc, ◌+◌, ◌≤◌, ◌||◌, nat_lt, Bool, true, false, if◌then◌else◌, List, [], ◌∷◌, ◌++◌, length, map, flat_map, bytes_eq, Some, None, refl}
use Rattle.std.specs.List.{cons_option, list_any}
use Rattle.std.proofs.Common.{sym, ◌∙◌, ap, subst, arith}
use Rattle.std.proofs.lemmas.Bool.{lt-ltb, or_left}
use Rattle.std.proofs.lemmas.List.{append-nil, append_assoc}
use Rattle.std.proofs.lemmas.Slice.Eq.{bytes_eq-Decides}
use Rattle.sg_circuit.specs.Circuit.{Circuit, Variable, scope_at}
use Rattle.wave_out.specs.declared.scopes.Visit.{Visit}
use Rattle.wave_out.specs.declared.scopes.Visit.TheVariants.{Enters, Leaves}
use Rattle.wave_out.specs.Scopes.{children_of, variables_at, variables_of, visits, visits_in}
use Rattle.wave_out.specs.Texts.{written_name}
use Rattle.vcd_form.specs.Rules.{Came, came_after, came_first}
use Rattle.vcd_form.specs.Written.{Section, declares, enters, leaves, remark, timescale}
use Rattle.vcd_model.specs.Inputs.{bare, has_scope, is_at, opens_at, own, path, scopes_after, with_scopes}
use Rattle.vcd_model.specs.Values.{first_or, powers, scale_of}
use Rattle.vcd_laws.proofs.Dumps.{MayAll}
use Rattle.vcd_laws.proofs.Entries.{declaration_entry, header_entries, numbered_said, said, said-append, visit_entries}
use Rattle.vcd_laws.proofs.Header.{count_of, decls_all, decls_stack, declared_one, nested, nested_list, own-append, own_from, own_is, section_one, stack_after, visit_sections, visits-append, Placed, Silent}
use Rattle.vcd_laws.proofs.Items.{numbered}
use Rattle.vcd_laws.proofs.Names.{bare_written}
use Rattle.vcd_laws.proofs.Own.{AreOwn, tops, unplaced_declaration}
use Rattle.vcd_laws.proofs.ReadLines.{plain}

-- ---- what the lines say

visits_said : (circuit : Circuit) (k : ℕ) (vs : List Visit) → said (visit_entries circuit k vs) ≡ visit_sections circuit k vs
visits_said circuit k [] = refl
visits_said circuit k (Enters s ∷ rest) =
    let vars = (scope_at circuit s).variables in
    ap (λ t. enters (written_name (scope_at circuit s).name) ∷ t)
    (said-append (numbered declaration_entry k vars) (visit_entries circuit (k + length vars) rest)
    ∙ (ap (λ t. t ++ said (visit_entries circuit (k + length vars) rest)) (numbered_said declaration_entry section_one k vars (λ n x. refl))
    ∙ ap (λ t. numbered section_one k vars ++ t) (visits_said circuit (k + length vars) rest)))
visits_said circuit k (Leaves ∷ rest) = ap (λ t. leaves ∷ t) (visits_said circuit k rest)

abbrev pub header_sections : Circuit → List Section
header_sections circuit = remark ∷ timescale circuit.tick ∷ visit_sections circuit 0 (visits circuit)

pub header_said : (circuit : Circuit) → said (header_entries circuit) ≡ header_sections circuit
header_said circuit = ap (λ t. remark ∷ timescale circuit.tick ∷ t) (visits_said circuit 0 (visits circuit))

-- ---- places don't matter

own_plain : (scope : List ℕ) (scopes : List (List ℕ)) (ss : List Section) → map unplaced_declaration (own_from scope scopes ss) ≡ own_from scope scopes (map plain ss)
own_plain scope scopes [] = refl
own_plain scope scopes (remark ∷ ss) = own_plain scope scopes ss
own_plain scope scopes (timescale p ∷ ss) = own_plain scope scopes ss
own_plain scope scopes (enters n ∷ ss) = own_plain scope (bare n ∷ scopes) ss
own_plain scope scopes (leaves ∷ ss) = own_plain scope (scopes_after scopes leaves) ss
own_plain scope scopes (declares d ∷ ss) = at (is_at scope scopes) (own_plain scope scopes ss)
  where
    at : (b : Bool) → map unplaced_declaration (own_from scope scopes ss) ≡ own_from scope scopes (map plain ss)
        → map unplaced_declaration (cons_option (if b then Some d else None) (own_from scope scopes ss)) ≡ cons_option (if b then Some (unplaced_declaration d) else None) (own_from scope scopes (map plain ss))
    at true e = ap (λ ds. unplaced_declaration d ∷ ds) e
    at false e = e

powers_plain : (ss : List Section) → flat_map powers (map plain ss) ≡ flat_map powers ss
powers_plain [] = refl
powers_plain (remark ∷ ss) = powers_plain ss
powers_plain (timescale p ∷ ss) = ap (λ ps. p ∷ ps) (powers_plain ss)
powers_plain (enters n ∷ ss) = powers_plain ss
powers_plain (leaves ∷ ss) = powers_plain ss
powers_plain (declares d ∷ ss) = powers_plain ss

abbrev opened : List ℕ → Placed → Bool
opened scope p = opens_at scope p.0 p.1

opens_plain : (scope : List ℕ) (scopes : List (List ℕ)) (ss : List Section) → list_any (opened scope) (with_scopes scopes (map plain ss)) ≡ list_any (opened scope) (with_scopes scopes ss)
opens_plain scope scopes [] = refl
opens_plain scope scopes (remark ∷ ss) = opens_plain scope scopes ss
opens_plain scope scopes (timescale p ∷ ss) = opens_plain scope scopes ss
opens_plain scope scopes (enters n ∷ ss) = ap (λ b. bytes_eq (path (bare n ∷ scopes)) scope || b) (opens_plain scope (bare n ∷ scopes) ss)
opens_plain scope scopes (leaves ∷ ss) = opens_plain scope (scopes_after scopes leaves) ss
opens_plain scope scopes (declares d ∷ ss) = opens_plain scope scopes ss

-- ---- the top

top_at : (circuit : Circuit) → is_at (scope_at circuit 0).name (bare (written_name (scope_at circuit 0).name) ∷ []) ≡ true
top_at circuit = ap (λ n. bytes_eq n (scope_at circuit 0).name) (bare_written (scope_at circuit 0).name) ∙ (bytes_eq-Decides (scope_at circuit 0).name (scope_at circuit 0).name).1 refl

top_long : (circuit : Circuit) → length (scope_at circuit 0).name ≤ length (path (bare (written_name (scope_at circuit 0).name) ∷ []))
top_long circuit = (let q : length (bare (written_name (scope_at circuit 0).name)) ≡ length (scope_at circuit 0).name = ap length (bare_written (scope_at circuit 0).name) in omega arith)

top_own : (circuit : Circuit) (turns k : ℕ) → own_from (scope_at circuit 0).name [] (visit_sections circuit k (visits_in (suc turns) circuit 0)) ≡ numbered declared_one k (tops circuit)
top_own circuit turns k =
    ap (own_from scope (top ∷ [])) is
    ∙ (own-append scope (top ∷ []) (numbered section_one k (tops circuit)) (inner ++ leaves ∷ [])
    ∙ (ap (λ ds. ds ++ own_from scope (stack_after (top ∷ []) (numbered section_one k (tops circuit))) (inner ++ leaves ∷ [])) (decls_all scope (top ∷ []) k (tops circuit) (top_at circuit))
    ∙ (ap (λ ns. numbered declared_one k (tops circuit) ++ own_from scope ns (inner ++ leaves ∷ [])) (decls_stack (top ∷ []) k (tops circuit))
    ∙ (ap (λ ds. numbered declared_one k (tops circuit) ++ ds) (own-append scope (top ∷ []) inner (leaves ∷ []) ∙ ap (λ ds. ds ++ own_from scope (stack_after (top ∷ []) inner) (leaves ∷ [])) children.none)
    ∙ append-nil (numbered declared_one k (tops circuit))))))
  where
    scope : List ℕ
    scope = (scope_at circuit 0).name

    top : List ℕ
    top = bare (written_name scope)

    inner : List Section
    inner = visit_sections circuit (k + length (tops circuit)) (flat_map (visits_in turns circuit) (children_of circuit 0))

    children : Silent scope (top ∷ []) inner
    children = nested_list scope circuit turns (children_of circuit 0) (k + length (tops circuit)) top [] (λ s n. nested scope circuit turns s n top [] (top_long circuit))

    is : numbered section_one k (tops circuit) ++ visit_sections circuit (k + length (tops circuit)) (flat_map (visits_in turns circuit) (children_of circuit 0) ++ Leaves ∷ []) ≡ numbered section_one k (tops circuit) ++ (inner ++ leaves ∷ [])
    is = ap (λ t. numbered section_one k (tops circuit) ++ t) (visits-append circuit (k + length (tops circuit)) (flat_map (visits_in turns circuit) (children_of circuit 0)) (Leaves ∷ []))

-- sections that say what the header's lines say
pub record IsHeader (circuit : Circuit) (ss : List Section) : Type 0 where
  pub turns : ℕ
  pub scopes : length circuit.scopes ≡ suc turns
  pub are : map plain ss ≡ header_sections circuit

pub are_own : (circuit : Circuit) (ss : List Section) → IsHeader circuit ss → AreOwn circuit (own (scope_at circuit 0).name ss)
are_own circuit ss h =
    let scope : List ℕ = (scope_at circuit 0).name in
    ap (map unplaced_declaration) (own_is scope ss)
    ∙ (own_plain scope [] ss
    ∙ (ap (own_from scope []) h.are ∙ (ap (λ n. own_from scope [] (visit_sections circuit 0 (visits_in n circuit 0))) h.scopes ∙ top_own circuit h.turns 0)))

pub unit_is : (circuit : Circuit) (ss : List Section) → IsHeader circuit ss → (scale_of circuit ss).unit ≡ circuit.tick
unit_is circuit ss h = ap (first_or _) (sym (powers_plain ss) ∙ ap (flat_map powers) h.are)

pub scope_there : (circuit : Circuit) (ss : List Section) → IsHeader circuit ss → has_scope (scope_at circuit 0).name ss ≡ true
scope_there circuit ss h =
    let scope : List ℕ = (scope_at circuit 0).name in
    sym (opens_plain scope [] ss)
    ∙ (ap (λ xs. list_any (opened scope) (with_scopes [] xs)) h.are
    ∙ (ap (λ n. list_any (opened scope) (with_scopes [] (visit_sections circuit 0 (visits_in n circuit 0)))) h.scopes
    ∙ or_left (bytes_eq (path (bare (written_name scope) ∷ [])) scope) _ (top_at circuit)))

-- the variables: the top's first
pub variables_are : (circuit : Circuit) (turns : ℕ) → length circuit.scopes ≡ suc turns → variables_of circuit ≡ tops circuit ++ flat_map (variables_at circuit) (flat_map (visits_in turns circuit) (children_of circuit 0) ++ Leaves ∷ [])
variables_are circuit turns e = ap (λ n. flat_map (variables_at circuit) (visits_in n circuit 0)) e

-- ---- each section may come behind those before it

abbrev came_over : Came → List Section → Came
came_over came [] = came
came_over came (s ∷ ss) = came_over (came_after came s) ss

record Closes (came : Came) (ss : List Section) : Type 0 where
  may : MayAll came ss
  after : came_over came ss ≡ came

may_append : (came : Came) (xs ys : List Section) → MayAll came xs → MayAll (came_over came xs) ys → MayAll came (xs ++ ys)
may_append came [] ys h k = k
may_append came (x ∷ xs) ys h k = (h.0, may_append (came_after came x) xs ys h.1 k)

over_append : (came : Came) (xs ys : List Section) → came_over came (xs ++ ys) ≡ came_over (came_over came xs) ys
over_append came [] ys = refl
over_append came (x ∷ xs) ys = over_append (came_after came x) xs ys

closes_append : (came : Came) (xs ys : List Section) → Closes came xs → Closes came ys → Closes came (xs ++ ys)
closes_append came xs ys h k = record {
  may = may_append came xs ys h.may (subst (λ c. MayAll c ys) (sym h.after) k.may);
  after = over_append came xs ys ∙ (ap (λ c. came_over c ys) h.after ∙ k.after);
}

closes_decls : (came : Came) (k : ℕ) (vs : List Variable) → Closes came (numbered section_one k vs)
closes_decls came k [] = record { may = tt; after = refl }
closes_decls came k (v ∷ vs) = let r = closes_decls came (suc k) vs in record { may = (refl, r.may); after = r.after }

closes_list : (circuit : Circuit) (turns : ℕ) (cs : List ℕ) (k : ℕ) (came : Came) → ((s n : ℕ) → Closes came (visit_sections circuit n (visits_in turns circuit s))) → Closes came (visit_sections circuit k (flat_map (visits_in turns circuit) cs))
closes_list circuit turns [] k came each = record { may = tt; after = refl }
closes_list circuit turns (c ∷ cs) k came each =
    subst (Closes came) (sym (visits-append circuit k (visits_in turns circuit c) (flat_map (visits_in turns circuit) cs)))
    (closes_append came (visit_sections circuit k (visits_in turns circuit c)) (visit_sections circuit (k + count_of circuit (visits_in turns circuit c)) (flat_map (visits_in turns circuit) cs)) (each c k)
    (closes_list circuit turns cs (k + count_of circuit (visits_in turns circuit c)) came each))

closes : (circuit : Circuit) (turns s k : ℕ) (came : Came) → Closes came (visit_sections circuit k (visits_in turns circuit s))
closes circuit zero s k came = record { may = tt; after = refl }
closes circuit (suc turns) s k came =
    let name : List ℕ = written_name (scope_at circuit s).name in
    let vars = (scope_at circuit s).variables in
    let inside : Came = came_after came (enters name) in
    let inner : List Section = visit_sections circuit (k + length vars) (flat_map (visits_in turns circuit) (children_of circuit s)) in
    let both : Closes inside (numbered section_one k vars ++ inner) = closes_append inside (numbered section_one k vars) inner (closes_decls inside k vars) (closes_list circuit turns (children_of circuit s) (k + length vars) inside (λ c n. closes circuit turns c n inside)) in
    closed s k came vars inner both (ap (λ t. numbered section_one k vars ++ t) (visits-append circuit (k + length vars) (flat_map (visits_in turns circuit) (children_of circuit s)) (Leaves ∷ [])))
  where
    positive : (d : ℕ) → nat_lt 0 (suc d) ≡ true
    positive d = lt-ltb 0 (suc d) (omega arith)

    closed : (n j : ℕ) (c : Came) (vars : List Variable) (inner : List Section) → Closes (came_after c (enters (written_name (scope_at circuit n).name))) (numbered section_one j vars ++ inner)
        → numbered section_one j vars ++ visit_sections circuit (j + length vars) (flat_map (visits_in turns circuit) (children_of circuit n) ++ Leaves ∷ []) ≡ numbered section_one j vars ++ (inner ++ leaves ∷ [])
        → Closes c (enters (written_name (scope_at circuit n).name) ∷ (numbered section_one j vars ++ visit_sections circuit (j + length vars) (flat_map (visits_in turns circuit) (children_of circuit n) ++ Leaves ∷ [])))
    closed n j c vars inner h e =
        let inside : Came = came_after c (enters (written_name (scope_at circuit n).name)) in
        let decls : List Section = numbered section_one j vars in
        let is = e ∙ sym (append_assoc decls inner (leaves ∷ [])) in
        record {
          may = (refl, subst (MayAll inside) (sym is) (may_append inside (decls ++ inner) (leaves ∷ []) h.may (subst (λ q. MayAll q (leaves ∷ [])) (sym h.after) (positive c.depth, tt))));
          after = ap (came_over inside) is ∙ (over_append inside (decls ++ inner) (leaves ∷ []) ∙ ap (λ q. came_over q (leaves ∷ [])) h.after);
        }

pub header_may : (circuit : Circuit) → MayAll came_first (header_sections circuit)
header_may circuit = (refl, (refl, (closes circuit (length circuit.scopes) 0 0 (record { scaled = true; depth = 0 })).may))
