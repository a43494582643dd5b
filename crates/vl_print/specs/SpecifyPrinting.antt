-- Tokens put behind others for each part of a specify block, as `Printing` has them of other parts.
use Rattle.std.specs.Prelude.{ℕ, Bool, true, false, List, [], ◌∷◌, Option, Some, None, codes}
use Rattle.sg_text.specs.declared.places.Place.{Place}
use Rattle.sg_text.specs.declared.words.Keyword.TheVariants as keyword
use Rattle.cond_expr.specs.declared.tokens.Op.{Op}
use Rattle.cond_expr.specs.declared.tokens.Op.TheVariants as op
use Rattle.cond_expr.specs.declared.tokens.Tok.TheVariants as tok
use Rattle.cond_expr.specs.Token.{Tok}
use Rattle.vl_token.specs.declared.symbols.Symbol.{Symbol}
use Rattle.vl_token.specs.declared.symbols.Symbol.TheVariants as symbol
use Rattle.vl_token.specs.Tokens.{name_token, system_token, number_token, sized_token, pair_token}
use Rattle.vl_tree.specs.declared.check_names.CheckName.{CheckName}
use Rattle.vl_tree.specs.declared.check_names.CheckName.TheVariants.{OneLimit, TwoLimits, Width, Period}
use Rattle.vl_tree.specs.declared.check_names.OneLimitCheck.{OneLimitCheck}
use Rattle.vl_tree.specs.declared.check_names.OneLimitCheck.TheVariants.{Setup, Hold, Recovery, Removal, Skew}
use Rattle.vl_tree.specs.declared.check_names.TwoLimitCheck.TheVariants.{SetupHold, RecRem}
use Rattle.vl_tree.specs.declared.paths.Arrow.{Arrow}
use Rattle.vl_tree.specs.declared.paths.Arrow.TheVariants.{Parallel, Full}
use Rattle.vl_tree.specs.declared.paths.EdgePair.{EdgePair}
use Rattle.vl_tree.specs.declared.paths.Polarity.{Polarity}
use Rattle.vl_tree.specs.declared.paths.Polarity.TheVariants.{Positive, Negative}
use Rattle.vl_tree.specs.declared.specify.PulseStyle.{PulseStyle}
use Rattle.vl_tree.specs.declared.specify.PulseStyle.TheVariants.{OnEvent, OnDetect, NoShowCancelled}
use Rattle.vl_print.specs.Printing.{Tokens, nowhere, put_token, mark_at, put_mark, word_at, put_word, put_optional, put_many, behind_comma, put_listed, put_name, put_int, put_select, put_mtm}
use Rattle.vl_tree.specs.Tree.{Named, Term, Word, Amount, a_number, a_parameter, Amounts, one_amount, three_amounts, SignedAmount, Limit, one_limit, three_limits, Specparam, a_value, pulse_limits, EdgeWord, posedge, negedge, pairs, PathCondition, always, if_none, if_words, DataSource, Destination, SpecifyPath, Event, Check, one_limit_check, two_limit_check, width_check, period_check, SpecifyItem, specparams, a_path, pulse_style, a_check, SpecifyBlock}

abbrev pub put_term : Term → Tokens → Tokens
put_term t out = put_optional put_select t.select (put_name t.name out)

abbrev pub put_terms : List Term → Tokens → Tokens
put_terms ts out = put_listed put_term ts out

-- ---- conditions

abbrev pub symbol_of_op : Op → Symbol
symbol_of_op op.Tilde = symbol.Tilde
symbol_of_op op.Bang = symbol.Bang
symbol_of_op op.And = symbol.And
symbol_of_op op.Or = symbol.Or
symbol_of_op op.Xor = symbol.Xor
symbol_of_op op.Equal = symbol.Equal
symbol_of_op op.Unequal = symbol.Unequal
symbol_of_op op.CaseEqual = symbol.CaseEqual
symbol_of_op op.CaseUnequal = symbol.CaseUnequal
symbol_of_op op.TildeXor = symbol.TildeXor
symbol_of_op op.XorTilde = symbol.XorTilde
symbol_of_op op.AndAnd = symbol.AndAnd
symbol_of_op op.OrOr = symbol.OrOr

-- a constant with its width of one bit
abbrev pub put_tok : Place → Tok → Tokens → Tokens
put_tok p (tok.Name text) out = put_token (name_token text) p out
put_tok p (tok.Index i) out = put_mark symbol.RightBracket (put_int i (mark_at symbol.LeftBracket p out))
put_tok p (tok.Const v) out = put_token (sized_token (v ∷ [])) p out
put_tok p (tok.Op o) out = mark_at (symbol_of_op o) p out
put_tok p tok.Left out = mark_at symbol.LeftParen p out
put_tok p tok.Right out = mark_at symbol.RightParen p out

abbrev pub put_condition_word : Word → Tokens → Tokens
put_condition_word w out = put_tok w.place w.token out

abbrev pub put_words : List Word → Tokens → Tokens
put_words ws out = put_many put_condition_word ws out

-- ---- amounts

abbrev pub put_amount : Amount → Tokens → Tokens
put_amount (a_number p n) out = put_token (number_token n false) p out
put_amount (a_parameter n) out = put_name n out

abbrev pub put_amounts : Amounts → Tokens → Tokens
put_amounts (one_amount a) out = put_amount a out
put_amounts (three_amounts a b c) out = put_amount c (put_mark symbol.Colon (put_amount b (put_mark symbol.Colon (put_amount a out))))

abbrev pub put_delays : List Amounts → Tokens → Tokens
put_delays ds out = put_mark symbol.RightParen (put_listed put_amounts ds (put_mark symbol.LeftParen out))

abbrev pub put_sign : Bool → Tokens → Tokens
put_sign true out = put_mark symbol.Minus out
put_sign false out = out

abbrev pub put_signed : SignedAmount → Tokens → Tokens
put_signed a out = put_amount a.amount (put_sign a.negative out)

abbrev pub put_limit : Limit → Tokens → Tokens
put_limit (one_limit a) out = put_signed a out
put_limit (three_limits a b c) out = put_signed c (put_mark symbol.Colon (put_signed b (put_mark symbol.Colon (put_signed a out))))

-- "," and a limit
abbrev pub put_next_limit : Limit → Tokens → Tokens
put_next_limit l out = put_limit l (put_mark symbol.Comma out)

abbrev pub put_specparam : Specparam → Tokens → Tokens
put_specparam (a_value n m) out = put_mtm m (put_mark symbol.Assign (put_name n out))
put_specparam (pulse_limits n r e) out = put_mark symbol.RightParen (put_optional (behind_comma put_mtm) e (put_mtm r (put_mark symbol.LeftParen (put_mark symbol.Assign (put_name n out)))))

-- ---- paths

abbrev pub put_pair : EdgePair → Tokens → Tokens
put_pair p out = put_token (pair_token p.from p.to) nowhere out

abbrev pub put_edge : Place → EdgeWord → Tokens → Tokens
put_edge p posedge out = word_at keyword.Posedge p out
put_edge p negedge out = word_at keyword.Negedge p out
put_edge p (pairs ps) out = put_mark symbol.RightBracket (put_listed put_pair ps (put_mark symbol.LeftBracket (word_at keyword.Edge p out)))

abbrev pub put_polarity : Polarity → Tokens → Tokens
put_polarity Positive out = put_mark symbol.Plus out
put_polarity Negative out = put_mark symbol.Minus out

abbrev pub put_arrow : Arrow → Tokens → Tokens
put_arrow Parallel out = put_mark symbol.Parallel out
put_arrow Full out = put_mark symbol.Full out

abbrev pub put_data_source : DataSource → Tokens → Tokens
put_data_source s out = put_words s.words (put_mark symbol.Colon (put_optional put_polarity s.polarity out))

abbrev pub put_destination_of : List Term → Option DataSource → Tokens → Tokens
put_destination_of ts None out = put_terms ts out
put_destination_of ts (Some s) out = put_mark symbol.RightParen (put_data_source s (put_terms ts (put_mark symbol.LeftParen out)))

abbrev pub put_destination : Destination → Tokens → Tokens
put_destination d out = put_destination_of d.terms d.source out

-- the tokens before the edge of a path, the first of which has its place
abbrev pub put_path_opening : Place → PathCondition → Tokens → Tokens
put_path_opening p always out = mark_at symbol.LeftParen p out
put_path_opening p if_none out = put_mark symbol.LeftParen (word_at keyword.IfNone p out)
put_path_opening p (if_words ws) out = put_mark symbol.LeftParen (put_mark symbol.RightParen (put_words ws (put_mark symbol.LeftParen (word_at keyword.If p out))))

abbrev pub put_path : SpecifyPath → Tokens → Tokens
put_path p out =
    put_delays p.delays (put_mark symbol.Assign (put_mark symbol.RightParen (put_destination p.destination (put_arrow p.arrow
    (put_optional put_polarity p.polarity (put_terms p.sources (put_optional (put_edge nowhere) p.edge (put_path_opening p.place p.condition out))))))))

-- ---- timing checks

-- [ edge ] term, of which the first token has the place
abbrev pub put_event_term : Place → Option EdgeWord → Term → Tokens → Tokens
put_event_term p None t out = put_term t out
put_event_term p (Some e) t out = put_term t (put_edge p e out)

abbrev pub put_held : List Word → Tokens → Tokens
put_held ws out = put_words ws (put_mark symbol.AndAndAnd out)

abbrev pub put_event : Event → Tokens → Tokens
put_event e out = put_optional put_held e.condition (put_event_term e.place e.edge e.term out)

abbrev pub check_text : CheckName → List ℕ
check_text (OneLimit Setup) = codes "$setup"
check_text (OneLimit Hold) = codes "$hold"
check_text (OneLimit Recovery) = codes "$recovery"
check_text (OneLimit Removal) = codes "$removal"
check_text (OneLimit Skew) = codes "$skew"
check_text (TwoLimits SetupHold) = codes "$setuphold"
check_text (TwoLimits RecRem) = codes "$recrem"
check_text Width = codes "$width"
check_text Period = codes "$period"

-- [ "," name ]
abbrev pub put_notifier : Option Named → Tokens → Tokens
put_notifier n out = put_optional (behind_comma put_name) n out

-- event "," event
abbrev pub put_events : Event → Event → Tokens → Tokens
put_events a b out = put_event b (put_mark symbol.Comma (put_event a out))

abbrev pub put_events_of : OneLimitCheck → (reference data_event : Event) → Tokens → Tokens
put_events_of Setup r d out = put_events d r out
put_events_of Hold r d out = put_events r d out
put_events_of Recovery r d out = put_events r d out
put_events_of Removal r d out = put_events r d out
put_events_of Skew r d out = put_events r d out

-- [ "," [ threshold ] [ "," name ] ], without the comma where neither is there
abbrev pub put_threshold_and_notifier : Option Limit → Option Named → Tokens → Tokens
put_threshold_and_notifier None None out = out
put_threshold_and_notifier (Some t) n out = put_notifier n (put_next_limit t out)
put_threshold_and_notifier None (Some n) out = put_notifier (Some n) (put_mark symbol.Comma out)

-- [ "," [ name ] [ "," name ] ], without the comma where neither is there
abbrev pub put_delayed : (reference data_signal : Option Named) → Tokens → Tokens
put_delayed None None out = out
put_delayed (Some r) d out = put_notifier d (put_name r (put_mark symbol.Comma out))
put_delayed None (Some d) out = put_notifier (Some d) (put_mark symbol.Comma out)

-- "," [ name ] "," ",": the arguments before the delayed signals
abbrev pub put_up_to_delayed : Option Named → Tokens → Tokens
put_up_to_delayed n out = put_mark symbol.Comma (put_mark symbol.Comma (put_optional put_name n (put_mark symbol.Comma out)))

-- the arguments behind the limits of a check with two, without commas behind the last that is there
abbrev pub put_last_arguments : (notifier reference data_signal : Option Named) → Tokens → Tokens
put_last_arguments n None None out = put_notifier n out
put_last_arguments n (Some r) d out = put_delayed (Some r) d (put_up_to_delayed n out)
put_last_arguments n None (Some d) out = put_delayed None (Some d) (put_up_to_delayed n out)

abbrev pub put_arguments : Check → Tokens → Tokens
put_arguments (one_limit_check p c r d l n) out = put_notifier n (put_next_limit l (put_events_of c r d out))
put_arguments (two_limit_check p c r d l m n f g) out = put_last_arguments n f g (put_next_limit m (put_next_limit l (put_events r d out)))
put_arguments (width_check p r l t n) out = put_threshold_and_notifier t n (put_next_limit l (put_event r out))
put_arguments (period_check p r l n) out = put_notifier n (put_next_limit l (put_event r out))

abbrev pub name_of_check : Check → CheckName
name_of_check (one_limit_check p c r d l n) = OneLimit c
name_of_check (two_limit_check p c r d l m n f g) = TwoLimits c
name_of_check (width_check p r l t n) = Width
name_of_check (period_check p r l n) = Period

abbrev pub place_of_check : Check → Place
place_of_check (one_limit_check p c r d l n) = p
place_of_check (two_limit_check p c r d l m n f g) = p
place_of_check (width_check p r l t n) = p
place_of_check (period_check p r l n) = p

abbrev pub put_in_parens : Check → Tokens → Tokens
put_in_parens c out = put_mark symbol.RightParen (put_arguments c (put_mark symbol.LeftParen out))

abbrev pub put_check : Check → Tokens → Tokens
put_check c out = put_in_parens c (put_token (system_token (check_text (name_of_check c))) (place_of_check c) out)

-- ---- items and blocks

abbrev pub put_style : Place → PulseStyle → Tokens → Tokens
put_style p OnEvent out = word_at keyword.PulseStyleOnEvent p out
put_style p OnDetect out = word_at keyword.PulseStyleOnDetect p out
put_style p NoShowCancelled out = word_at keyword.NoShowCancelled p out

abbrev pub put_specify_item : SpecifyItem → Tokens → Tokens
put_specify_item (specparams p ps) out = put_mark symbol.Semicolon (put_listed put_specparam ps (word_at keyword.SpecParam p out))
put_specify_item (a_path p) out = put_mark symbol.Semicolon (put_path p out)
put_specify_item (pulse_style p s ts) out = put_mark symbol.Semicolon (put_terms ts (put_style p s out))
put_specify_item (a_check c) out = put_mark symbol.Semicolon (put_check c out)

abbrev pub put_block : SpecifyBlock → Tokens → Tokens
put_block b out = put_word keyword.EndSpecify (put_many put_specify_item b.items (word_at keyword.Specify b.place out))
