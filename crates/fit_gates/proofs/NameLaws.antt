-- When a name is plain.
use Rattle.std.specs.Prelude.{ℕ, ◌≡◌, Bool, true, false, ◌&&◌, not, List}
use Rattle.std.proofs.Common.{sym, ◌∙◌, ap}
use Rattle.sg_text.specs.Words.{is_reserved_word}
use Rattle.fit_gates.specs.Text.{has_name_form, is_plain}

pub plain-unless : (name : List ℕ) (reserved : Bool) → has_name_form name ≡ true → reserved ≡ is_reserved_word name → not reserved ≡ is_plain name
unfolding is_plain
plain-unless name reserved form is = ap not is ∙ sym (ap (λ b. b && not (is_reserved_word name)) form)

pub not-plain : (name : List ℕ) → has_name_form name ≡ false → false ≡ is_plain name
unfolding is_plain
not-plain name form = sym (ap (λ b. b && not (is_reserved_word name)) form)
