-- Small texts, as the definitions read them.
use Rattle.std.proofs.Common.{◌≡◌, ℕ, List, [], ◌∷◌, length, take, drop, refl, arith}
use Rattle.std.specs.Prelude.{Some, true, false, Ok, Err, codes, pos, neg_ℤ}
use Rattle.vl_pieces.specs.Modes.{IsPiece, class_in}
use Rattle.vl_token.specs.Tokens.{name_token}
use Rattle.sg_text.specs.Words.{reserved_rows}
use Rattle.vl_lex.specs.Directives.{scale_of, directive_of, are_no_effect}
use Rattle.vl_lex.specs.Lexes.{Lexes}
use Rattle.vl_lex.specs.declared.faults.LexKind.TheVariants.{UnknownDirective, UnbalancedIf}
use Rattle.vl_pieces.specs.declared.modes.Mode.TheVariants.{Plain}
use Rattle.vl_pieces.specs.declared.pieces.Class.{Class}
use Rattle.vl_pieces.specs.declared.pieces.Class.TheVariants as class

-- a piece that is all of a text
whole : (text : List ℕ) (n : ℕ) (c : Class) → length text ≡ n → class_in Plain (take n text) (drop n text) ≡ Some c → IsPiece Plain text n c
whole text n c e f = record { within = omega arith; form = f; longest = λ m lt le. absurd (omega arith) }

-- ab
a_name : Lexes (codes "ab" ∷ []) (Ok (record { meaning = name_token (codes "ab"); place = record { file = 0; byte = 0 } } ∷ []))
unfolding reserved_rows
a_name = (_, (_, (record { class = class.Name; size = 2 } ∷ [], (whole (codes "ab") 2 class.Name refl refl, (_, refl, (refl, refl)))), refl), refl)

-- `ab, where no macro is defined
an_unknown_directive : Lexes (codes "`ab" ∷ []) (Err (record { kind = UnknownDirective; place = record { file = 0; byte = 0 } }))
unfolding directive_of are_no_effect
an_unknown_directive = (_, (_, (record { class = class.Use; size = 3 } ∷ [], (whole (codes "`ab") 3 class.Use refl refl, (_, refl, refl))), refl), refl)

-- `endif alone
an_endif_alone : Lexes (codes "`endif" ∷ []) (Err (record { kind = UnbalancedIf; place = record { file = 0; byte = 0 } }))
unfolding directive_of are_no_effect
an_endif_alone = (_, (_, (record { class = class.Use; size = 6 } ∷ [], (whole (codes "`endif") 6 class.Use refl refl, (_, refl, refl))), refl), refl)

-- 10 ns / 100 ps
a_scale :
    scale_of (record { is_name = false; bytes = codes "10" } ∷ record { is_name = true; bytes = codes "ns" } ∷ record { is_name = false; bytes = codes "/" }
    ∷ record { is_name = false; bytes = codes "100" } ∷ record { is_name = true; bytes = codes "ps" } ∷ [])
    ≡ Some (record { unit = neg_ℤ (pos 8); precision = neg_ℤ (pos 10) })
a_scale = refl
