-- Small texts, as the definitions read them.
use Rattle.std.proofs.Common.{◌≡◌, ℕ, List, [], ◌∷◌, length, drop, true, false, refl, subst}
use Rattle.std.specs.Prelude.{Some, None, Ok, codes, pos, neg_ℤ}
use Rattle.cond_expr.specs.declared.tokens.Op.TheVariants as op
use Rattle.sdf_lex.specs.declared.faults.LexKind.TheVariants.{BadByte}
use Rattle.sdf_lex.specs.declared.letters.Letter.TheVariants.{Plain}
use Rattle.sdf_lex.specs.Tokens.{selected_token, select_token}
use Rattle.sdf_lex.specs.Bytes.{class_of}
use Rattle.sdf_lex.specs.Words.{may_follow, index_of}
use Rattle.sdf_lex.specs.Operators.{operator_rows, operator_of}
use Rattle.sdf_lex.specs.Pieces.{word_piece, bad_piece, spelling, Spelled, here}
use Rattle.sdf_lex.specs.Lexes.{fault_at, Lexes}
use Rattle.sdf_lex.specs.Names.{called, is_name, path_parts}
use Rattle.sdf_lex.specs.PieceBridge.{first_piece}
use Rattle.sdf_lex.proofs.OneReading.{first_spelled, left_is}

-- +5 is a word, and in a+5 the sign begins one
a_sign_in_front : may_follow None (Plain 43) (codes "5") ≡ true
unfolding class_of
a_sign_in_front = refl

a_sign_behind_a_name : may_follow (Some (record { first = Plain 97; last = Plain 97 })) (Plain 43) (codes "5") ≡ false
unfolding class_of
a_sign_behind_a_name = refl

-- 1e-
a_sign_of_a_power : may_follow (Some (record { first = Plain 49; last = Plain 101 })) (Plain 45) [] ≡ true
unfolding class_of
a_sign_of_a_power = refl

-- a//
a_comment_behind_a_word : may_follow (Some (record { first = Plain 97; last = Plain 97 })) (Plain 47) (codes "/") ≡ false
unfolding class_of
a_comment_behind_a_word = refl

-- the numbers of [-2] and [12x]
an_index : index_of (codes "-2]") ≡ Some (neg_ℤ (pos 2))
an_index = refl

no_index : index_of (codes "12x]") ≡ None
no_index = refl

case_equality : operator_of (codes "===") ≡ Some op.CaseEqual
unfolding operator_of operator_rows
case_equality = refl

-- a\.b is called a.b, and is one part of a path
a_name : called (97 ∷ 92 ∷ 46 ∷ 98 ∷ []) ≡ codes "a.b"
a_name = refl

a_path : path_parts 46 (97 ∷ 92 ∷ 46 ∷ 98 ∷ 46 ∷ 99 ∷ []) ≡ (97 ∷ 92 ∷ 46 ∷ 98 ∷ []) ∷ codes "c" ∷ []
a_path = refl

no_name : is_name (codes "a.b") ≡ false
no_name = refl

-- a piece that is all of a text
whole : (b : ℕ) (bs : List ℕ) → [] ≡ drop (length (spelling (first_piece (b ∷ bs)))) (b ∷ bs) → Spelled (b ∷ bs) (first_piece (b ∷ bs) ∷ [])
whole b bs e = first_spelled b bs [] (subst (λ xs. Spelled xs []) (left_is b bs [] e) (refl, tt))

-- a[3]
a_select : Lexes (codes "a[3]") (Ok (here (selected_token (codes "a[3]") (codes "a")) 0 ∷ here (select_token (pos 3)) 1 ∷ []))
unfolding class_of
a_select = (word_piece (Plain 97 ∷ Plain 91 ∷ Plain 51 ∷ Plain 93 ∷ []) ∷ [], whole 97 (codes "[3]") refl, refl)

-- a byte of 1
a_bad_byte : Lexes (1 ∷ []) (fault_at BadByte 0)
unfolding class_of
a_bad_byte = (bad_piece 1 ∷ [], whole 1 [] refl, refl)
