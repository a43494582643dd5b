-- The toggles of nets, one after another.
use Rattle.std.specs.Prelude.{◌≡◌, ℕ, ◌+◌, ◌<◌, List, [], ◌∷◌, ◌++◌, length, slice_index_or, take, refl}
use Rattle.std.proofs.Common.{sym, ◌∙◌, ap}
use Rattle.std.proofs.lemmas.List.{take_more}
use Rattle.sg_logic.specs.declared.values.Value.{Value}
use Rattle.sg_logic.specs.declared.values.Value.TheVariants.{Zero, One, X, Z}
use Rattle.sg_model.specs.Time.{toggle as toggle_of, toggles as toggles_of}
use Rattle.sg_model.specs.Values.{value_at}
use Rattle.sim_machine.specs.Notifiers.{toggled_value, toggle_to}

toggle_is : (v : Value) (net : ℕ) (rest : List (ℕ × Value)) → toggle_of v net rest ≡ toggle_to (toggled_value v) net rest
toggle_is Zero net rest = refl
toggle_is One net rest = refl
toggle_is X net rest = refl
toggle_is Z net rest = refl

toggle_append : (v : Value) (net : ℕ) (xs ys : List (ℕ × Value)) → toggle_of v net (xs ++ ys) ≡ toggle_of v net xs ++ ys
toggle_append Zero net xs ys = refl
toggle_append One net xs ys = refl
toggle_append X net xs ys = refl
toggle_append Z net xs ys = refl

toggles_append : (nets : List ℕ) (net : ℕ) (values : List Value) → toggles_of (nets ++ net ∷ []) values ≡ toggles_of nets values ++ toggle_of (value_at values net) net []
toggles_append [] net values = refl
toggles_append (n ∷ ns) net values =
    ap (λ cs. toggle_of (value_at values n) n cs) (toggles_append ns net values) ∙ toggle_append (value_at values n) n (toggles_of ns values) (toggle_of (value_at values net) net [])

-- one more
pub toggled_more : (values : List Value) (nets : List ℕ) (i blank : ℕ) (old new : List (ℕ × Value)) → i < length nets → old ≡ toggles_of (take i nets) values
    → new ≡ old ++ toggle_to (toggled_value (value_at values (slice_index_or nets i blank))) (slice_index_or nets i blank) [] → new ≡ toggles_of (take (i + 1) nets) values
toggled_more values nets i blank old new l e f =
    let net : ℕ = slice_index_or nets i blank in
    f ∙ (ap (λ cs. cs ++ toggle_to (toggled_value (value_at values net)) net []) e
    ∙ (ap (λ cs. toggles_of (take i nets) values ++ cs) (sym (toggle_is (value_at values net) net []))
    ∙ (sym (toggles_append (take i nets) net values) ∙ ap (λ ns. toggles_of ns values) (sym (take_more nets i blank l)))))
