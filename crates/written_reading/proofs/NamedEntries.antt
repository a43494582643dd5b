-- What is written of a circuit whose names lead back, and that has no fault, is of tokens of their own.
use Rattle.std.specs.Prelude.{◌≡◌, ◌≢◌, ℕ, zero, suc, pos, false, All, IfSome, List, [], ◌∷◌, length, Option, Some, None}
use Rattle.std.proofs.Common.{refl, sym, ap, subst, ◌∙◌, arith, inl, inr}
use Rattle.std.proofs.lemmas.Bool.{cases_lt}
use Rattle.std.proofs.lemmas.List.{get_or_past}
use Rattle.std.proofs.lemmas.List.Elements.{All-nil, recursion_from_All}
use Rattle.cond_expr.specs.Token.{Tok}
use Rattle.sg_circuit.specs.Circuit.{Circuit, Variable, Scope, scope_at}
use Rattle.sg_circuit.specs.Closed.{IsClosed}
use Rattle.sdf_tree.specs.Written.{PathCondition, always, otherwise, if_words}
use Rattle.written_model.specs.Entries.{LegEntry, PathEntry, EventKey, CheckEntry, legs, paths, checks}
use Rattle.written_model.specs.Faults.{AreFaultless}
use Rattle.written_model.specs.Names.{name_of, below, names_in}
use Rattle.written_model.specs.Tree.{datum_of}
use Rattle.written_reading.specs.Named.{IsNameText, IsVariableText, IsNamed}
use Rattle.written_reading.proofs.CellTokens.{each_of}
use Rattle.written_reading.proofs.CheckTokens.{IsGoodEvent, IsGoodCheck}
use Rattle.written_reading.proofs.Clauses.{some_none, name_of_text, clause_is}
use Rattle.written_reading.proofs.EntryTokens.{IsGoodWords, IsGoodCondition, IsGoodLeg, IsGoodPath}
use Rattle.written_reading.proofs.GoodScopes.{good_scope}
use Rattle.written_reading.proofs.Indexes.{IsWide, port_is}
use Rattle.written_reading.proofs.Letters.{AreNames}
use Rattle.written_reading.proofs.Lists.{all_append}
use Rattle.written_reading.proofs.SoundFile.{IsWritable}
use Rattle.written_reading.proofs.Writable.{IsPort, IsPathClause, IsEventClause, IsLeg, IsPath, IsEvent, IsCheck}

-- ---- scopes

-- what holds of all scopes and of one that isn't there
scope_has : (P : Scope → Type 0) (c : Circuit) (s : ℕ) → P (record { parent = None; name = []; module_name = []; unit = pos 0; precision = pos 0; is_leaf = false; variables = [] }) → All P c.scopes → P (scope_at c s)
scope_has P c s none h = elim (cases_lt s (length c.scopes)) [
  | inl lt ↦ h s _ lt
  | inr le ↦ subst P (sym (get_or_past c.scopes s _ le)) none
]

name_is : (c : Circuit) (s p : ℕ) → IsNamed c → (scope_at c s).parent ≡ Some p → IsNameText (scope_at c s).name
name_is c zero p h e = absurd (some_none (sym e ∙ h.top))
name_is c (suc s) p h e = elim (cases_lt (suc s) (length c.scopes)) [
  | inl lt ↦ h.scope_names (suc s) (omega arith) lt
  | inr le ↦ absurd (some_none (sym e ∙ ap (λ (x : Scope). x.parent) (get_or_past c.scopes (suc s) _ le)))
]

names_are : (turns : ℕ) (c : Circuit) (s : ℕ) → IsNamed c → AreNames (names_in turns c s)
names_are zero c s h = tt
names_are (suc turns) c s h = by (scope_at c s).parent refl (λ p. names_are turns c p h)
  where
    by : (o : Option ℕ) → (scope_at c s).parent ≡ o → ((p : ℕ) → AreNames (names_in turns c p)) → AreNames (below (names_in turns c) (scope_at c s).name o)
    by None e rest = tt
    by (Some p) e rest = all_append _ (names_in turns c p) ((scope_at c s).name ∷ []) (rest p) (name_of_text (scope_at c s).name (name_is c s p h e), tt)

-- ---- conditions

path_clause : (p : PathCondition) → IsGoodCondition p → IsPathClause p
path_clause always h = tt
path_clause (if_words words) h = clause_is words h.written
path_clause otherwise h = tt

event_clause : (o : Option (List Tok)) → IfSome o IsGoodWords → IsEventClause o
event_clause None h = tt
event_clause (Some words) h = clause_is words h.written

-- ---- entries

module _ (vs : List Variable) (port : (net : ℕ) → (name_of vs net).name ≢ [] → IsPort vs net) where
  leg_is : (e : LegEntry) → IsGoodLeg vs e → IsLeg vs e
  leg_is e h = record { port = port e.net h.named; numbers = h.short }

  path_is : (e : PathEntry) → IsGoodPath vs e → IsPath vs e
  path_is e h = record { input = port e.key.input h.input; output = port e.key.output h.output; condition = path_clause e.key.condition h.condition; numbers = h.short }

  event_is : (k : EventKey) → IsGoodEvent vs k → IsEvent vs k
  event_is k h = record { port = port k.net h.named; condition = event_clause k.condition h.condition }

  check_is : (e : CheckEntry) → IsGoodCheck vs e → IsCheck vs e
  check_is e h = record { refer = event_is e.key.refer h.refer; datum = event_is (datum_of e.key) h.datum; limit = h.limit }

pub writable : (c : Circuit) → IsClosed c → IsNamed c → AreFaultless c → (s : ℕ) → IsWritable c s
writable c closed named clean s =
    let vs = (scope_at c s).variables in
    let texts = recursion_from_All IsVariableText vs (scope_has (λ x. All IsVariableText x.variables) c s (All-nil IsVariableText) named.variables) in
    let wide = recursion_from_All IsWide vs (scope_has (λ x. All IsWide x.variables) c s (All-nil IsWide) closed.widths) in
    let port : (net : ℕ) → (name_of vs net).name ≢ [] → IsPort vs net = λ net some. port_is vs net texts wide some in
    let good = good_scope c named closed clean s in
    record {
      names = names_are (length c.scopes) c s named;
      legs = each_of (IsGoodLeg vs) (IsLeg vs) (leg_is vs port) (legs c s) good.legs;
      paths = each_of (IsGoodPath vs) (IsPath vs) (path_is vs port) (paths c s) good.paths;
      checks = each_of (IsGoodCheck vs) (IsCheck vs) (check_is vs port) (checks c s) good.checks;
    }
