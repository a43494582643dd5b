-- The lines of a header.
use Rattle.std.proofs.Common.{◌≡◌, ◌∙◌, sym, ap, subst, ℕ, ◌+◌, ◌<◌, List, [], ◌∷◌, ◌++◌, length, get_or, map, append_assoc}
use Rattle.std.proofs.lemmas.List.{get_or-map, length-map}
use Rattle.std.specs.Prelude.{All, codes, Result, Ok, Err, IfOk, OnOk}
use Rattle.sg_circuit.specs.declared.circuits.Parts.{Parts}
use Rattle.sg_circuit.specs.declared.scopes.Scope as code_scope
use Rattle.sg_circuit.specs.Circuit.{Circuit, Scope, scope_at}
use Rattle.sg_circuit.specs.Closed.{IsClosed}
use Rattle.sg_circuit.specs.Seen.{circuit_seen, scope_seen, variable_seen}
use Rattle.wave_out.specs.declared.scopes.Visit.{Visit}
use Rattle.wave_out.specs.declared.scopes.Visit.TheVariants.{Enters}
use Rattle.sg_circuit.proofs.SeenLaws.{map-mapped}
use Rattle.sg_circuit.specs.declared.scopes.Variable as code_variable
use Rattle.wave_out.specs.Scopes.{variables_at, visits}
use Rattle.wave_out.specs.Texts.{by_number}
use Rattle.wave_out.specs.Vcd.{declaration, header, scope_line, tick_text, visit_lines}
use Rattle.wave_out.specs.Walk.{IsVisit}
use Rattle.wave_out.proofs.TextLaws.{add_five, line_end}
use Rattle.wave_out.proofs.WalkLaws.{are_visits}

-- the scope that the code has is that of the definition
pub scope_is : (parts : Parts) (s : ℕ) (scope : code_scope.Scope) → s < length parts.scopes.items → scope ≡ get_or parts.scopes.items s scope → scope_at (circuit_seen parts) s ≡ scope_seen scope
scope_is parts s scope l e = get_or-map (λ x. scope_seen x) parts.scopes.items s scope _ l ∙ ap (λ x. scope_seen x) (sym e)

pub entered_lines : {E : Type 0} (c : Circuit) (s k n : ℕ) (x : Scope) (old new : List ℕ) (r : Result ℕ E) → scope_at c s ≡ x → length x.variables ≡ n
    → OnOk r (new ≡ old ++ (scope_line x.name ++ by_number declaration k x.variables)) → IfOk r (λ next. next ≡ k + n)
    → IfOk r (λ next. (rest : List Visit) → new ++ visit_lines c next rest ≡ old ++ visit_lines c k (Enters s ∷ rest))
entered_lines c s k n x old new (Ok next) e many t count = λ rest.
    ap (λ u. u ++ visit_lines c next rest) t
    ∙ (append_assoc old (scope_line x.name ++ by_number declaration k x.variables) (visit_lines c next rest)
    ∙ (ap (λ m. old ++ (scope_line x.name ++ by_number declaration k x.variables ++ visit_lines c m rest)) (count ∙ ap (λ m. k + m) (sym many))
    ∙ ap (λ y. old ++ (scope_line y.name ++ by_number declaration k y.variables ++ visit_lines c (k + length y.variables) rest)) (sym e)))
entered_lines c s k n x old new (Err why) e many t count = count

-- the header, written out
pub header_is : (c : Circuit) → header c ≡ codes "$version signoff 1 $end\n$timescale " ++ tick_text c.tick ++ codes " $end\n" ++ visit_lines c 0 (visits c) ++ codes "$enddefinitions $end\n"
unfolding header
header_is c = ap (λ t. t ++ visit_lines c 0 (visits c) ++ codes "$enddefinitions $end\n")
    (ap (λ t. codes "$version signoff 1 $end\n" ++ t) (line_end (codes "$timescale " ++ tick_text c.tick)))

pub header_made : (parts : Parts) (circuit : Circuit) (order : List Visit) {t u v w x : List ℕ} → circuit_seen parts ≡ circuit → order ≡ visits circuit
    → t ≡ codes "$version signoff 1 $end\n$timescale " → u ≡ t ++ tick_text parts.tick.power → v ≡ u ++ codes " $end\n" → w ≡ v ++ visit_lines (circuit_seen parts) 0 order → x ≡ w ++ codes "$enddefinitions $end\n"
    → x ≡ header circuit
header_made parts circuit order seen same p q r s last =
    add_five [] (codes "$version signoff 1 $end\n$timescale ") (tick_text parts.tick.power) (codes " $end\n") (visit_lines (circuit_seen parts) 0 order) (codes "$enddefinitions $end\n") p q r s last
    ∙ (ap (λ o. codes "$version signoff 1 $end\n$timescale " ++ tick_text parts.tick.power ++ codes " $end\n" ++ visit_lines (circuit_seen parts) 0 o ++ codes "$enddefinitions $end\n") same
    ∙ (ap (λ c. codes "$version signoff 1 $end\n$timescale " ++ tick_text c.tick ++ codes " $end\n" ++ visit_lines c 0 (visits circuit) ++ codes "$enddefinitions $end\n") seen
    ∙ sym (header_is circuit)))

pub visits_known : (parts : Parts) (circuit : Circuit) (order : List Visit) → circuit_seen parts ≡ circuit → IsClosed circuit → order ≡ visits circuit → All (λ v. IsVisit (length parts.scopes.items) v) order
visits_known parts circuit order seen closed same =
    subst (λ n. All (λ v. IsVisit n v) order) (ap (λ c. length c.scopes) (sym seen) ∙ length-map parts.scopes.items (λ s. scope_seen s))
    (subst (λ o. All (λ v. IsVisit (length circuit.scopes) v) o) (sym same) (are_visits circuit closed))

-- the bits of a scope's variables
pub entered_bits : (parts : Parts) (s : ℕ) (scope : code_scope.Scope) (vs : List code_variable.Variable) → s < length parts.scopes.items → scope ≡ get_or parts.scopes.items s scope
    → vs ≡ scope.variables.items → map (λ v. v.bits.items) vs ≡ map (λ x. x.bits) (variables_at (circuit_seen parts) (Enters s))
entered_bits parts s scope vs l e same =
    ap (λ ws. map (λ v. v.bits.items) ws) same
    ∙ (sym (map-mapped (λ x. x.bits) (λ v. variable_seen v) scope.variables.items)
    ∙ ap (λ (x : Scope). map (λ y. y.bits) x.variables) (sym (scope_is parts s scope l e)))
