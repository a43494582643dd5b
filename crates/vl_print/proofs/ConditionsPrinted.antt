-- What is put for the words of a condition spells it.
use Rattle.std.proofs.Common.{◌≡◌, Bool, true, [], ◌∷◌, refl, subst}
use Rattle.std.specs.Prelude.{unwrap_or}
use Rattle.sg_logic.specs.declared.values.Value.{Value}
use Rattle.sg_logic.specs.declared.values.Value.TheVariants.{Zero, One, X, Z}
use Rattle.sg_text.specs.declared.places.Place.{Place}
use Rattle.cond_expr.specs.declared.tokens.Tok.TheVariants as tok
use Rattle.cond_expr.specs.Vocabulary as among
use Rattle.grammar.specs.Reads.{Appends}
use Rattle.grammar.specs.Rule.{one, mapped, ◌◂◌}
use Rattle.vl_token.specs.declared.symbols.Symbol.{Symbol}
use Rattle.vl_token.specs.declared.symbols.Symbol.TheVariants as symbol
use Rattle.vl_token.specs.Tokens.{Meaning, module_word, word_token, left_out_token, name_token, system_token, other_token, number_token, sized_token, unsized_token, pair_token, symbol_token, byte_token}
use Rattle.vl_tree.specs.Conditions.{word_of_symbol, tok_of, word_of, index_parts, index, vocabulary, condition_parts, condition}
use Rattle.vl_tree.specs.Expressions.{int}
use Rattle.vl_tree.specs.Kinds.{Kind, symbol_kind, kind_of, kind_of_meaning, value_of}
use Rattle.vl_print.specs.Printing.{Tokens, put_int}
use Rattle.vl_tree.specs.Rules.{Grammar, mark}
use Rattle.vl_print.specs.SpecifyPrinting.{put_tok, put_condition_word, put_words}
use Rattle.vl_tree.specs.Tree.{Word}
use Rattle.vl_tree.proofs.AllKinds.{apart}
use Rattle.vl_tree.proofs.Building.{IsExact, token, or}
use Rattle.vl_tree.proofs.ConditionsExact.{index-exact}
use Rattle.vl_tree.proofs.ExpressionsExact.{int-exact}
use Rattle.vl_print.proofs.ExpressionsPrinted.{int_prints}
use Rattle.vl_print.proofs.Printed.{Prints, token_printed, either_prints, many_prints, placed_prints, before_mark, mark_first}

abbrev is_alone : Kind → Bool
is_alone = among.is_word vocabulary

-- a token that is a word alone
abbrev alone : Grammar Word
alone = mapped word_of (one kind_of is_alone)

const_is_alone : (v : Value) → is_alone (kind_of_meaning (sized_token (v ∷ []))) ≡ true
const_is_alone Zero = refl
const_is_alone One = refl
const_is_alone X = refl
const_is_alone Z = refl

const_printed : (v : Value) (p : Place) (out : Tokens) → Appends alone.language out (put_tok p (tok.Const v) out) (record { place = p; token = tok.Const v })
const_printed v p out = token_printed word_of is_alone (sized_token (v ∷ [])) p _ out refl (const_is_alone v)

mark_printed : (s : Symbol) (p : Place) → is_alone (symbol_kind s) ≡ true → (out : Tokens) → Appends alone.language out (put_tok p (unwrap_or (word_of_symbol s) tok.Left) out) (record { place = p; token = unwrap_or (word_of_symbol s) tok.Left })
mark_printed symbol.Parallel p h out = absurd cc
mark_printed symbol.Full p h out = absurd cc
mark_printed symbol.AndAndAnd p h out = absurd cc
mark_printed symbol.AndAnd p h out = token_printed word_of is_alone (symbol_token symbol.AndAnd) p _ out refl refl
mark_printed symbol.And p h out = token_printed word_of is_alone (symbol_token symbol.And) p _ out refl refl
mark_printed symbol.OrOr p h out = token_printed word_of is_alone (symbol_token symbol.OrOr) p _ out refl refl
mark_printed symbol.Or p h out = token_printed word_of is_alone (symbol_token symbol.Or) p _ out refl refl
mark_printed symbol.CaseEqual p h out = token_printed word_of is_alone (symbol_token symbol.CaseEqual) p _ out refl refl
mark_printed symbol.Equal p h out = token_printed word_of is_alone (symbol_token symbol.Equal) p _ out refl refl
mark_printed symbol.Assign p h out = absurd cc
mark_printed symbol.CaseUnequal p h out = token_printed word_of is_alone (symbol_token symbol.CaseUnequal) p _ out refl refl
mark_printed symbol.Unequal p h out = token_printed word_of is_alone (symbol_token symbol.Unequal) p _ out refl refl
mark_printed symbol.Bang p h out = token_printed word_of is_alone (symbol_token symbol.Bang) p _ out refl refl
mark_printed symbol.TildeXor p h out = token_printed word_of is_alone (symbol_token symbol.TildeXor) p _ out refl refl
mark_printed symbol.XorTilde p h out = token_printed word_of is_alone (symbol_token symbol.XorTilde) p _ out refl refl
mark_printed symbol.Xor p h out = token_printed word_of is_alone (symbol_token symbol.Xor) p _ out refl refl
mark_printed symbol.Tilde p h out = token_printed word_of is_alone (symbol_token symbol.Tilde) p _ out refl refl
mark_printed symbol.LeftParen p h out = token_printed word_of is_alone (symbol_token symbol.LeftParen) p _ out refl refl
mark_printed symbol.RightParen p h out = token_printed word_of is_alone (symbol_token symbol.RightParen) p _ out refl refl
mark_printed symbol.LeftBracket p h out = absurd cc
mark_printed symbol.RightBracket p h out = absurd cc
mark_printed symbol.LeftBrace p h out = absurd cc
mark_printed symbol.RightBrace p h out = absurd cc
mark_printed symbol.Comma p h out = absurd cc
mark_printed symbol.Semicolon p h out = absurd cc
mark_printed symbol.Colon p h out = absurd cc
mark_printed symbol.Point p h out = absurd cc
mark_printed symbol.Hash p h out = absurd cc
mark_printed symbol.Plus p h out = absurd cc
mark_printed symbol.Minus p h out = absurd cc

tok_printed : (m : Meaning) (p : Place) → is_alone (kind_of_meaning m) ≡ true → (out : Tokens) → Appends alone.language out (put_tok p (tok_of m) out) (record { place = p; token = tok_of m })
tok_printed (name_token text) p h out = token_printed word_of is_alone (name_token text) p _ out refl h
tok_printed (symbol_token s) p h out = mark_printed s p h out
tok_printed (number_token n whole) p h out = const_printed (value_of (number_token n whole)) p out
tok_printed (sized_token bits) p h out = const_printed (value_of (sized_token bits)) p out
tok_printed (unsized_token bits) p h out = const_printed (value_of (unsized_token bits)) p out
tok_printed (module_word s) p h out = absurd cc
tok_printed (word_token w) p h out = absurd cc
tok_printed (left_out_token text) p h out = absurd cc
tok_printed (system_token text) p h out = absurd cc
tok_printed (other_token text) p h out = absurd cc
tok_printed (pair_token from to) p h out = absurd cc
tok_printed (byte_token b) p h out = absurd cc

alone_prints : Prints alone.language put_condition_word
alone_prints w (ts, i, j, (t, e, (at, h, end))) out = subst (λ (v : Word). Appends alone.language out (put_condition_word v out) v) e (tok_printed t.meaning t.place h out)

index_prints : Prints index.language put_condition_word
unfolding index_parts
index_prints = placed_prints _ _ _ put_condition_word (mark_first symbol.LeftBracket (int ◂ mark symbol.RightBracket).language _ (before_mark symbol.RightBracket int put_int int-exact int_prints)) (λ x out. refl)

any_word-exact : IsExact (among.any_word vocabulary)
any_word-exact = or (token word_of is_alone) index-exact refl refl (apart _ _ refl)

-- the words are printed one by one, and are a condition as they were
pub condition_prints : Prints condition.language put_words
unfolding condition_parts
condition_prints ws (ts, i, j, s) out =
    let p = many_prints (among.any_word vocabulary) put_condition_word any_word-exact (either_prints _ _ put_condition_word alone_prints index_prints) ws (ts, i, j, s.0) out in
    record { more = p.more; is = p.is; spells = (p.spells, s.1) }
