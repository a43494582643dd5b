-- Joins the definitions to the checker: an expression as the list of its symbols, parts before what joins them, by which proofs
-- tell expressions apart. No clause speaks of it.
use Rattle.std.specs.Prelude.{◌≡◌, refl, ◌⊎◌, ℕ, List, [], ◌∷◌, ◌++◌, Bool, true, false, Option}
use Rattle.std.specs.Coded.{Coded, coded_list, coded_option, coded_bool, coded_ℕ, coded×, coded⊎, code_by}
use Rattle.std.proofs.Common.{◌∙◌, ap, append_assoc, append-nil, sym, inl, inr}
use Rattle.sg_logic.specs.declared.values.Value.{Value}
use Rattle.sg_logic.specs.contracts.values.Value as value
use Rattle.sg_text.specs.declared.places.Place.{Place}
use Rattle.sg_text.specs.contracts.places.Place as place
use Rattle.vl_tree.specs.declared.expressions.Select.{Select}
use Rattle.vl_tree.specs.contracts.expressions.Select as select
use Rattle.vl_tree.specs.Tree.{Named, Expression, signal, sized, concatenation, Expressions, no_more, one_more}

-- a name, a constant, a concatenation of the latest list; and a list that is empty, or gets one more in front
abbrev pub Symbol : Type 0
Symbol = (Named × Option Select) ⊎ ((Place × List Value) ⊎ (Place ⊎ Bool))

abbrev mutual
  pub symbols : Expression → List Symbol
  symbols (signal n s) = inl (n, s) ∷ []
  symbols (sized p vs) = inr (inl (p, vs)) ∷ []
  symbols (concatenation p es) = list_symbols es ++ inr (inr (inl p)) ∷ []

  pub list_symbols : Expressions → List Symbol
  list_symbols no_more = inr (inr (inr false)) ∷ []
  list_symbols (one_more e es) = list_symbols es ++ (symbols e ++ inr (inr (inr true)) ∷ [])

-- the expressions and the lists that are whole, the latest first
abbrev pub Whole : Type 0
Whole = List Expression × List Expressions

abbrev pub after_symbol : Symbol → Whole → Whole
after_symbol (inl (n, s)) (es, ls) = (signal n s ∷ es, ls)
after_symbol (inr (inl (p, vs))) (es, ls) = (sized p vs ∷ es, ls)
after_symbol (inr (inr (inl p))) (es, l ∷ ls) = (concatenation p l ∷ es, ls)
after_symbol (inr (inr (inr true))) (e ∷ es, l ∷ ls) = (es, one_more e l ∷ ls)
after_symbol (inr (inr (inr false))) (es, ls) = (es, no_more ∷ ls)
after_symbol _ whole = whole

abbrev pub after_symbols : List Symbol → Whole → Whole
after_symbols [] whole = whole
after_symbols (s ∷ ss) whole = after_symbols ss (after_symbol s whole)

abbrev pub latest : Whole → Expression
latest ([], ls) = concatenation (record { file = 0; byte = 0 }) no_more
latest (e ∷ es, ls) = e

abbrev pub of_symbols : List Symbol → Expression
of_symbols ss = latest (after_symbols ss ([], []))

mutual
  after-symbols : (e : Expression) (ss : List Symbol) (es : List Expression) (ls : List Expressions) → after_symbols (symbols e ++ ss) (es, ls) ≡ after_symbols ss (e ∷ es, ls)
  after-symbols (signal n s) ss es ls = refl
  after-symbols (sized p vs) ss es ls = refl
  after-symbols (concatenation p l) ss es ls =
      ap (λ xs. after_symbols xs (es, ls)) (append_assoc (list_symbols l) (inr (inr (inl p)) ∷ []) ss)
      ∙ after-list l (inr (inr (inl p)) ∷ ss) es ls

  after-list : (l : Expressions) (ss : List Symbol) (es : List Expression) (ls : List Expressions) → after_symbols (list_symbols l ++ ss) (es, ls) ≡ after_symbols ss (es, l ∷ ls)
  after-list no_more ss es ls = refl
  after-list (one_more e l) ss es ls =
      ap (λ xs. after_symbols xs (es, ls)) (append_assoc (list_symbols l) (symbols e ++ inr (inr (inr true)) ∷ []) ss)
      ∙ after-list l ((symbols e ++ inr (inr (inr true)) ∷ []) ++ ss) es ls
      ∙ ap (λ xs. after_symbols xs (es, l ∷ ls)) (append_assoc (symbols e) (inr (inr (inr true)) ∷ []) ss)
      ∙ after-symbols e (inr (inr (inr true)) ∷ ss) es (l ∷ ls)

pub of_symbols-symbols : (e : Expression) → of_symbols (symbols e) ≡ e
of_symbols-symbols e = ap of_symbols (sym (append-nil (symbols e))) ∙ ap latest (after-symbols e [] [] [])

abbrev pub coded_name : Coded Named
coded_name = code_by (List ℕ × Place) (coded× (coded_list coded_ℕ) place.the_row.coded) (λ n. (n.text, n.place)) (λ p. record { text = p.0; place = p.1 }) (λ _. refl)

abbrev pub coded_expression : Coded Expression
coded_expression =
    code_by (List Symbol)
    (coded_list (coded⊎ (coded× coded_name (coded_option select.the_row.coded)) (coded⊎ (coded× place.the_row.coded (coded_list value.the_row.coded)) (coded⊎ place.the_row.coded coded_bool))))
    symbols of_symbols of_symbols-symbols
