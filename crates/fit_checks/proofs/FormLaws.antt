-- What is read of the tokens of a check.
use Rattle.std.specs.Prelude.{◌≡◌, ℕ, suc, Bool, true, IfOk, List, [], ◌∷◌, Ok, Err, Result, Some, length, map, refl}
use Rattle.sg_text.specs.declared.refusals.NoMemory.{NoMemory}
use Rattle.std.proofs.Common.{sym, ◌∙◌, ap, subst, inl, inr}
use Rattle.vl_lex.specs.Lexes.{Lexes}
use Rattle.vl_token.specs.Seen.{lexeme}
use Rattle.vl_token.specs.Tokens.{Lexeme}
use Rattle.vl_token.specs.declared.tokens.Token.{Token}
use Rattle.vl_token.specs.declared.tokens.TokenKind.{TokenKind}
use Rattle.vl_tree.specs.Conditions.{condition}
use Rattle.vl_tree.specs.Tree.{Word}
use Rattle.fit_checks.specs.declared.forms.Form.{Form}
use Rattle.fit_checks.specs.Forms.{AreExact, AreTaken, Fits, IsConditionOrNone, IsExact, behind, made}
use Rattle.fit_checks.specs.Written.{Written, as_written}
use Rattle.fit_checks.specs.WrittenSeen.{kinds_seen, tokens_seen}
use Rattle.fit_checks.proofs.TokenLaws.{seen-lexemes}

length-lexemes : (ts : List Token) → length ts ≡ length (map lexeme ts)
length-lexemes [] = refl
length-lexemes (t ∷ ts) = ap suc (length-lexemes ts)

pub condition_none : (run : List Token) → length run ≡ 0 → IsConditionOrNone (tokens_seen run)
condition_none [] e = inl refl
condition_none (t ∷ ts) e = cc

pub condition_some : (run : List Token) (words : List Word) (end : ℕ) → condition.read (map lexeme run) 0 ≡ Ok (words, end) → end ≡ length run → IsConditionOrNone (tokens_seen run)
condition_some run words end h e = inr (map lexeme run, sym (seen-lexemes run), ap behind h ∙ ap Some (e ∙ length-lexemes run))

pub exact_of : (form : Form) (w : Written) (own other : List TokenKind) (old new : List Token)
    → kinds_seen own ≡ as_written w → kinds_seen other ≡ made form w → kinds_seen own ≡ tokens_seen old → kinds_seen other ≡ tokens_seen new
    → Fits form w → AreTaken form (map lexeme new) → AreExact (map lexeme old) (map lexeme new)
exact_of form w own other old new o m same made_same fits taken = record {
  form = form;
  written = w;
  spelled = sym o ∙ (same ∙ seen-lexemes old);
  made = sym m ∙ (made_same ∙ seen-lexemes new);
  fits = fits;
  taken = taken;
}

pub exact_texts : (replaced text : List ℕ) (olds news : List (List ℕ)) (old new : List Lexeme) → olds ≡ replaced ∷ [] → news ≡ text ∷ [] → Lexes olds (Ok old) → Lexes news (Ok new) → AreExact old new
    → IsExact replaced text
exact_texts replaced text olds news old new p q r s e = record { old = old; new = new; read_old = subst (λ x. Lexes x (Ok old)) p r; read_new = subst (λ x. Lexes x (Ok new)) q s; exact = e }

pub exact_if : (r : Result Bool NoMemory) (form : Form) (w : Written) (own other : List TokenKind) (old new : List Token)
    → kinds_seen own ≡ as_written w → kinds_seen other ≡ made form w → kinds_seen own ≡ tokens_seen old → kinds_seen other ≡ tokens_seen new → Fits form w
    → IfOk r (λ taken. taken ≡ true → AreTaken form (map lexeme new)) → IfOk r (λ exact. exact ≡ true → AreExact (map lexeme old) (map lexeme new))
exact_if (Ok b) form w own other old new o m s t f taken = λ e. exact_of form w own other old new o m s t f (taken e)
exact_if (Err e) form w own other old new o m s t f taken = tt

pub texts_if : (r : Result Bool NoMemory) (replaced text : List ℕ) (olds news : List (List ℕ)) (old new : List Lexeme) → olds ≡ replaced ∷ [] → news ≡ text ∷ [] → Lexes olds (Ok old) → Lexes news (Ok new)
    → IfOk r (λ exact. exact ≡ true → AreExact old new) → IfOk r (λ exact. exact ≡ true → IsExact replaced text)
texts_if (Ok b) replaced text olds news old new p q f g exact = λ e. exact_texts replaced text olds news old new p q f g (exact e)
texts_if (Err e) replaced text olds news old new p q f g exact = tt
