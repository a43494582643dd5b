-- The macros after one is defined, and after one is no more.
use Rattle.std.proofs.Common.{Bor, ◌≡◌, ℕ, List, Bool, true, false, refl, ap, ◌∙◌}
use Rattle.std.specs.Prelude.{Option, Some, None, cond, if◌then◌else◌}
use Rattle.std.specs.Option.{option_map}
use Rattle.std.proofs.Math.Path.{fun_ext}
use Rattle.vl_pieces.specs.Bytes.{same_bytes}
use Rattle.vl_lex.specs.Directives.{with_text, without}
use Rattle.vl_lex.specs.declared.macros.MacroText.{MacroText}

-- a name, as a key
abbrev pub key : List ℕ → Bor (List ℕ)
key name = record { ref_ptr = (0, 0); now = name }

abbrev pub bytes_of : Option MacroText → Option (List ℕ)
bytes_of o = option_map (λ t. t.bytes.now) o

some_there : (b : Bool) (t : MacroText) (o : Option MacroText) → bytes_of (cond b (Some t) o) ≡ (if b then Some t.bytes.now else bytes_of o)
some_there true t o = refl
some_there false t o = refl

none_there : (b : Bool) (o : Option MacroText) → bytes_of (cond b None o) ≡ (if b then None else bytes_of o)
none_there true o = refl
none_there false o = refl

-- tables of texts, before and after
module _ (name : List ℕ) (old new : Bor (List ℕ) → Option MacroText) where
  pub text_put : (t : MacroText) → ((q : Bor (List ℕ)) → new q ≡ cond (same_bytes name q.now) (Some t) (old q))
      → (λ other. bytes_of (new (key other))) ≡ with_text name t.bytes.now (λ other. bytes_of (old (key other)))
  text_put t h = fun_ext (λ other. ap bytes_of (h (key other)) ∙ some_there (same_bytes name other) t (old (key other)))

  pub text_gone : ((q : Bor (List ℕ)) → new q ≡ cond (same_bytes name q.now) None (old q))
      → (λ other. bytes_of (new (key other))) ≡ without name (λ other. bytes_of (old (key other)))
  text_gone h = fun_ext (λ other. ap bytes_of (h (key other)) ∙ none_there (same_bytes name other) (old (key other)))
