-- Of two faults that stand both are of the meaning, or they are the same.
use Rattle.std.proofs.Common.{◌≡◌, ℕ, List, refl, sym, ap, ◌∙◌, subst, inl, inr}
use Rattle.std.specs.Prelude.{◌⊎◌, Option, Result, Err, length, slice_get}
use Rattle.grammar.proofs.Laws.{one_failing}
use Rattle.grammar.specs.Reads.{FailsAt}
use Rattle.sg_delay.specs.declared.corners.Corner.{Corner}
use Rattle.sg_text.specs.declared.places.Place.{Place}
use Rattle.vl_lex.specs.State.{Fault}
use Rattle.vl_lex.proofs.OneReading.{lexes_one}
use Rattle.vl_parse.specs.Parsed.{KindStands, fault_place}
use Rattle.vl_parse.specs.Parsed as parsed
use Rattle.vl_parse.proofs.OneKind.{one-kind}
use Rattle.vl_token.specs.Tokens.{Lexeme}
use Rattle.vl_tree.specs.Kinds.{kind_of}
use Rattle.vl_tree.specs.Modules.{source}
use Rattle.vl_tree.proofs.ModulesExact.{source-exact}
use Rattle.elab_model.specs.declared.kinds.ElabKind.{ElabKind}
use Rattle.netlist_read.specs.Kinds.{Kind, of_text, of_meaning, failing}
use Rattle.netlist_read.specs.Reading.{FaultStands, in_text, in_syntax, in_meaning, end_of}
use Rattle.netlist_read.proofs.ReadingLaws.{tokens_once, tokens_or_fault}

abbrev pub IsMeaning : Kind → Type 0
IsMeaning k = (e : ElabKind) × (k ≡ of_meaning e)

abbrev pub AreSame : Kind → Place → Kind → Place → Type 0
AreSame k p l q = (k ≡ l) × (p ≡ q)

err_one : {A E : Type 0} {x y : E} → ◌≡◌ {A = Result A E} (Err x) (Err y) → x ≡ y
err_one h = cc

fails_at_once : (s t : List Lexeme) (e f : ℕ) → s ≡ t → FailsAt source.language s e → FailsAt source.language t f → e ≡ f
fails_at_once s t e f same a b = one_failing kind_of source source-exact t e f (subst (λ ts. FailsAt source.language ts e) same a) b

fails_once : (s t : List Lexeme) (e f : ℕ) → s ≡ t → FailsAt source.language s e → FailsAt source.language t f → slice_get s e ≡ slice_get t f
fails_once s t e f same a b = ap (λ ts. slice_get ts e) same ∙ ap (λ n. slice_get t n) (fails_at_once s t e f same a b)

-- and for one reason
why_once : (s t : List Lexeme) (e f : ℕ) (x y : parsed.Kind) → s ≡ t → e ≡ f → KindStands s e x → KindStands t f y → x ≡ y
why_once s t e f x y same at a b = one-kind t f x y (subst (λ n. KindStands t n x) at (subst (λ ts. KindStands ts e x) same a)) b

pub one-fault : (texts : List (List ℕ)) (name : Option (List ℕ)) (corner : Corner) (k l : Kind) (p q : Place) → FaultStands texts name corner k p → FaultStands texts name corner l q
    → AreSame k p l q ⊎ (IsMeaning k × IsMeaning l)
one-fault texts name corner k l p q (in_text a _ g) (in_text b _ h) =
    let same = err_one (lexes_one texts (Err (record { kind = a; place = p })) (Err (record { kind = b; place = q })) g h) in
    inl (ap (λ (f : Fault). of_text f.kind) same, ap (λ (f : Fault). f.place) same)
one-fault texts name corner k l p q (in_text a _ g) (in_syntax ts f _ _ _ h _ _ _ _) = absurd (tokens_or_fault texts ts _ h g)
one-fault texts name corner k l p q (in_text a _ g) (in_meaning ts _ _ _ h _ _) = absurd (tokens_or_fault texts ts _ h g)
one-fault texts name corner k l p q (in_syntax ts e _ _ _ g _ _ _ _) (in_text b _ h) = absurd (tokens_or_fault texts ts _ g h)
one-fault texts name corner k l p q (in_syntax ss e x _ _ g a w m n) (in_syntax ts f y _ _ h b z r s) =
    let tokens = tokens_once texts ss ts g h in
    let same = fails_once ss ts e f tokens a b in
    let why = why_once ss ts e f x y tokens (fails_at_once ss ts e f tokens a b) w z in
    inl (m ∙ ap failing why ∙ sym r, n ∙ ap (λ t. fault_place (end_of texts) t) same ∙ sym s)
one-fault texts name corner k l p q (in_syntax ss e _ _ _ g a _ _ _) (in_meaning ts tree _ _ h t _) =
    absurd (a.none tree (subst (λ xs. source.language.Spells xs 0 tree (length xs)) (sym (tokens_once texts ss ts g h)) t))
one-fault texts name corner k l p q (in_meaning ts _ _ _ g _ _) (in_text b _ h) = absurd (tokens_or_fault texts ts _ g h)
one-fault texts name corner k l p q (in_meaning ts tree _ _ g t _) (in_syntax ss f _ _ _ h b _ _ _) =
    absurd (b.none tree (subst (λ xs. source.language.Spells xs 0 tree (length xs)) (tokens_once texts ts ss g h) t))
one-fault texts name corner k l p q (in_meaning _ _ a _ _ _ _) (in_meaning _ _ b _ _ _ _) = inr ((a, refl), (b, refl))
