-- What reading a condition tells.
use Rattle.std.specs.Prelude.{◌≡◌, ℕ, List, [], ◌++◌, true, Result, Ok, Err, is_err, flat_map, refl}
use Rattle.std.proofs.Common.{sym, ◌∙◌, ap, subst}
use Rattle.cond_expr.specs.declared.faults.CondFault.{CondFault}
use Rattle.cond_expr.specs.declared.faults.CondFault.TheVariants as cond
use Rattle.cond_expr.specs.Condition.{Condition, IsReadAs, Spelled}
use Rattle.cond_expr.specs.Exactness.{expression-exact}
use Rattle.cond_expr.specs.Grammar.{expression}
use Rattle.cond_expr.specs.Kinds.{kind_of}
use Rattle.cond_expr.specs.Token.{Tok}
use Rattle.cond_expr.specs.Tree.{Cond}
use Rattle.cond_expr.proofs.WholeConditions.{spelled_if_read}
use Rattle.grammar.proofs.Whole.{all_again}
use Rattle.sg_text.specs.declared.places.Place.{Place}
use Rattle.sg_text.specs.declared.refusals.Refused.{Refused}
use Rattle.vl_tree.specs.Tree.{Word}
use Rattle.elab_model.specs.declared.kinds.ElabKind.{ElabKind}
use Rattle.elab_model.specs.declared.kinds.ElabKind.TheVariants.{TooDeep}
use Rattle.elab_model.specs.Faults.{fault_if, RefusesOneOf}
use Rattle.elab_model.specs.Names.{Variable}
use Rattle.elab_declared.proofs.Refusals.{refused-left, refused-right}
use Rattle.specify_model.specs.Conditions.{If, bound_to, condition_over, over, operand_bit, operands, tokens, tree_of}
use Rattle.specify_model.specs.Faults.{operand_faults, condition_faults, first_place}
use Rattle.specify_values.proofs.InTurn.{fault-told}
use Rattle.specify_paths.specs.Seen.{IsRead}
use Rattle.specify_paths.specs.Words.{refusal_of}

-- ---- reading

pub read-as : (ts : List Tok) (e : Condition) → (e.tokens ≡ ts) × Spelled ts e.tree → IsRead ts e
read-as ts e h = record { tokens_are = h.0; tree_is = all_again kind_of (expression 64) (expression-exact 64) ts e.tree h.1 }

-- what was read has no fault
pub read-faultless : (ts : List Tok) (e : Condition) (p : Place) → IsRead ts e → fault_if (is_err (tree_of ts)) TooDeep p ≡ []
read-faultless ts e p h = ap (λ r. fault_if (is_err r) TooDeep p) h.tree_is

none-spelled : (ts : List Tok) → ((c : Cond ℕ) → Spelled ts c → ⊥) → is_err (tree_of ts) ≡ true
none-spelled ts h = by (tree_of ts) refl
  where
    by : (r : Result (Cond ℕ) ℕ) → tree_of ts ≡ r → is_err r ≡ true
    by (Ok c) e = absurd (h c (spelled_if_read ts c e))
    by (Err at) e = refl

pub deep-told : (ts : List Tok) (f : CondFault) (p : Place) → ((c : Cond ℕ) → Spelled ts c → IsReadAs (record { tokens = ts; tree = c }) (Err f)) → RefusesOneOf (fault_if (is_err (tree_of ts)) TooDeep p) (refusal_of f p)
deep-told ts cond.NoMemory p h = tt
deep-told ts (cond.Syntax at) p h = fault-told (is_err (tree_of ts)) TooDeep p (none-spelled ts h)
deep-told ts cond.TooDeep p h = fault-told (is_err (tree_of ts)) TooDeep p (none-spelled ts h)

-- ---- a condition whole

pub condition-read : (ws : List Word) (ts : List Tok) (e : Condition) → ts ≡ tokens ws → (e.tokens ≡ ts) × Spelled ts e.tree → IsRead (tokens ws) e
condition-read ws ts e is h = subst (λ us. IsRead us e) is (read-as ts e h)

pub condition-faultless : (vs : List Variable) (p : Place) (ws : List Word) (e : Condition) → flat_map (operand_faults vs) (operands ws) ≡ [] → IsRead (tokens ws) e → condition_faults vs p ws ≡ []
condition-faultless vs p ws e h read = ap (λ fs. fs ++ fault_if (is_err (tree_of (tokens ws))) TooDeep (first_place p ws)) h ∙ read-faultless (tokens ws) e (first_place p ws) read

pub operands-told : (vs : List Variable) (p : Place) (ws : List Word) (r : Refused ElabKind) → RefusesOneOf (flat_map (operand_faults vs) (operands ws)) r → RefusesOneOf (condition_faults vs p ws) r
operands-told vs p ws r h = refused-left (flat_map (operand_faults vs) (operands ws)) _ r h

pub condition-told : (vs : List Variable) (p : Place) (ws : List Word) (ts : List Tok) (f : CondFault) → ts ≡ tokens ws
    → ((c : Cond ℕ) → Spelled ts c → IsReadAs (record { tokens = ts; tree = c }) (Err f)) → RefusesOneOf (condition_faults vs p ws) (refusal_of f (first_place p ws))
condition-told vs p ws ts f is h =
    refused-right (flat_map (operand_faults vs) (operands ws)) _ (refusal_of f (first_place p ws))
    (subst (λ us. RefusesOneOf (fault_if (is_err (tree_of us)) TooDeep (first_place p ws)) (refusal_of f (first_place p ws))) is (deep-told ts f (first_place p ws) h))

-- as the definition binds it
pub condition-bound : (vs : List Variable) (ts : List Tok) (e : Condition) → IsRead ts e → If e.tokens (over (operand_bit vs e.tokens) e.tree) ≡ condition_over vs ts
condition-bound vs ts e h = ap (λ us. If us (over (operand_bit vs us) e.tree)) h.tokens_are ∙ ap (λ r. If ts (bound_to vs ts r)) (sym h.tree_is)
