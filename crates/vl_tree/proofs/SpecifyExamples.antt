-- Small texts of specify blocks that the rules spell, and where others fail.
use Rattle.std.proofs.Common.{ℕ, Bool, List, [], ◌∷◌, Some, None, refl, true, false}
use Rattle.std.specs.Prelude.{codes, pos}
use Rattle.sg_logic.specs.declared.values.Value.TheVariants.{Zero, One, X, Z}
use Rattle.sg_text.specs.declared.places.Place.{Place}
use Rattle.sg_text.specs.declared.words.Keyword.{Keyword}
use Rattle.sg_text.specs.declared.words.Keyword.TheVariants as keyword
use Rattle.sg_time.specs.Spelling.{Number}
use Rattle.cond_expr.specs.declared.tokens.Op.TheVariants as op
use Rattle.cond_expr.specs.declared.tokens.Tok.TheVariants as tok
use Rattle.cond_expr.specs.Token.{Tok}
use Rattle.grammar.specs.Reads.{FailsAt}
use Rattle.grammar.specs.Rule.{read_up_to}
use Rattle.grammar.specs.States.{read_by}
use Rattle.grammar.proofs.Laws.{all_found, all_failed}
use Rattle.vl_token.specs.declared.symbols.Symbol.{Symbol}
use Rattle.vl_token.specs.declared.symbols.Symbol.TheVariants as symbol
use Rattle.vl_token.specs.Tokens.{Lexeme, Meaning, symbol_token, word_token, number_token, name_token, system_token, sized_token, unsized_token, pair_token}
use Rattle.vl_tree.specs.declared.check_names.OneLimitCheck.TheVariants.{Setup}
use Rattle.vl_tree.specs.declared.check_names.TwoLimitCheck.TheVariants.{SetupHold}
use Rattle.vl_tree.specs.declared.paths.Arrow.TheVariants.{Parallel, Full}
use Rattle.vl_tree.specs.declared.paths.Polarity.TheVariants.{Positive}
use Rattle.vl_tree.specs.declared.specify.PulseStyle.TheVariants.{OnDetect}
use Rattle.vl_tree.specs.Amounts.{amount_parts, amounts_parts, path_delay_parts, delays_parts, delays, signed_amount_parts, plain_limit_parts, limit_parts, pulse_name_parts, specparam_parts}
use Rattle.vl_tree.specs.CheckNames.{check_rows}
use Rattle.vl_tree.specs.Checks.{event_parts, arguments_parts, check_parts}
use Rattle.vl_tree.specs.Conditions.{index_parts, condition_parts, condition}
use Rattle.vl_tree.specs.Expressions.{name_parts, int_parts, select_parts, number_parts, mtm_parts}
use Rattle.vl_tree.specs.Kinds.{kind_of, pulse_front}
use Rattle.vl_tree.specs.Paths.{term_parts, terms_parts, polarity_parts, edge_parts, pair_parts, check_edge_parts, destination_parts, arrow_parts, ends_parts, path_body_parts, conditional_parts, path_parts}
use Rattle.vl_tree.specs.Specify.{specparam_item_parts, path_item_parts, style_parts, style_item_parts, check_item_parts, specify_item_parts, specify_item}
use Rattle.vl_tree.specs.Tree.{Named, one_number, Term, Word, a_number, a_parameter, Amounts, one_amount, Limit, one_limit, a_value, pulse_limits, posedge, pairs, always, if_words, Event, one_limit_check, two_limit_check, width_check, specparams, a_path, pulse_style, a_check}
use Rattle.vl_tree.proofs.AmountsExact.{delays-exact}
use Rattle.vl_tree.proofs.ConditionsExact.{condition-exact}
use Rattle.vl_tree.proofs.SpecifyExact.{specify_item-exact}

abbrev here : Place
here = record { file = 0; byte = 7 }

abbrev at_seven : Meaning → Lexeme
at_seven m = record { meaning = m; place = here }

abbrev mark_there : Symbol → Lexeme
mark_there s = at_seven (symbol_token s)

abbrev word_there : Keyword → Lexeme
word_there w = at_seven (word_token w)

abbrev name_there : List ℕ → Lexeme
name_there text = at_seven (name_token text)

abbrev whole : ℕ → Number
whole n = record { negative = false; digits = n; exponent = pos 0 }

abbrev number_there : ℕ → Lexeme
number_there n = at_seven (number_token (whole n) true)

abbrev named_so : List ℕ → Named
named_so text = record { text = text; place = here }

abbrev term_so : List ℕ → Term
term_so text = record { name = named_so text; select = None }

abbrev word_so : Tok → Word
word_so t = record { place = here; token = t }

abbrev amount_so : ℕ → Amounts
amount_so n = one_amount (a_number here (whole n))

abbrev limit_so : Bool → ℕ → Limit
limit_so negative n = one_limit (record { negative = negative; amount = a_number here (whole n) })

abbrev event_so : List ℕ → Event
event_so text = record { place = here; edge = None; term = term_so text; condition = None }

abbrev rising_so : List ℕ → Event
rising_so text = record { place = here; edge = Some posedge; term = term_so text; condition = None }

-- ---- specparams

-- specparam t = 5;
a_specparam : (specify_item true).language.Spells (word_there keyword.SpecParam ∷ name_there (codes "t") ∷ mark_there symbol.Assign ∷ number_there 5 ∷ mark_there symbol.Semicolon ∷ []) 0 (specparams here (a_value (named_so (codes "t")) (one_number (whole 5)) ∷ [])) 5
unfolding specify_item_parts specparam_item_parts specparam_parts pulse_name_parts name_parts mtm_parts number_parts read_up_to pulse_front
a_specparam = all_found kind_of (specify_item true) (specify_item-exact true) (word_there keyword.SpecParam ∷ name_there (codes "t") ∷ mark_there symbol.Assign ∷ number_there 5 ∷ mark_there symbol.Semicolon ∷ []) (specparams here (a_value (named_so (codes "t")) (one_number (whole 5)) ∷ [])) refl

-- specparam PATHPULSE$a$b = (1, 2);
a_pulse : (specify_item true).language.Spells (word_there keyword.SpecParam ∷ name_there (codes "PATHPULSE$a$b") ∷ mark_there symbol.Assign ∷ mark_there symbol.LeftParen ∷ number_there 1 ∷ mark_there symbol.Comma ∷ number_there 2 ∷ mark_there symbol.RightParen ∷ mark_there symbol.Semicolon ∷ []) 0 (specparams here (pulse_limits (named_so (codes "PATHPULSE$a$b")) (one_number (whole 1)) (Some (one_number (whole 2))) ∷ [])) 9
unfolding specify_item_parts specparam_item_parts specparam_parts pulse_name_parts name_parts mtm_parts number_parts read_up_to pulse_front
a_pulse = all_found kind_of (specify_item true) (specify_item-exact true) (word_there keyword.SpecParam ∷ name_there (codes "PATHPULSE$a$b") ∷ mark_there symbol.Assign ∷ mark_there symbol.LeftParen ∷ number_there 1 ∷ mark_there symbol.Comma ∷ number_there 2 ∷ mark_there symbol.RightParen ∷ mark_there symbol.Semicolon ∷ []) (specparams here (pulse_limits (named_so (codes "PATHPULSE$a$b")) (one_number (whole 1)) (Some (one_number (whole 2))) ∷ [])) refl

-- a name of pulse limits has them in parentheses
no_pulse : FailsAt (specify_item true).language (word_there keyword.SpecParam ∷ name_there (codes "PATHPULSE$") ∷ mark_there symbol.Assign ∷ number_there 5 ∷ mark_there symbol.Semicolon ∷ []) 3
unfolding specify_item_parts specparam_item_parts specparam_parts pulse_name_parts name_parts mtm_parts number_parts read_up_to pulse_front
no_pulse = all_failed kind_of (specify_item true) (specify_item-exact true) (word_there keyword.SpecParam ∷ name_there (codes "PATHPULSE$") ∷ mark_there symbol.Assign ∷ number_there 5 ∷ mark_there symbol.Semicolon ∷ []) 3 refl

-- ---- paths

-- (a, b *> c) = ((3));
a_path_of_all : (specify_item true).language.Spells (mark_there symbol.LeftParen ∷ name_there (codes "a") ∷ mark_there symbol.Comma ∷ name_there (codes "b") ∷ mark_there symbol.Full ∷ name_there (codes "c") ∷ mark_there symbol.RightParen ∷ mark_there symbol.Assign ∷ mark_there symbol.LeftParen ∷ mark_there symbol.LeftParen ∷ number_there 3 ∷ mark_there symbol.RightParen ∷ mark_there symbol.RightParen ∷ mark_there symbol.Semicolon ∷ []) 0 (a_path (record { place = here; condition = always; edge = None; sources = term_so (codes "a") ∷ term_so (codes "b") ∷ []; polarity = None; arrow = Full; destination = record { terms = term_so (codes "c") ∷ []; source = None }; delays = amount_so 3 ∷ [] })) 14
unfolding specify_item_parts path_item_parts path_parts conditional_parts path_body_parts ends_parts arrow_parts destination_parts term_parts terms_parts name_parts select_parts int_parts polarity_parts edge_parts delays_parts path_delay_parts amounts_parts amount_parts condition_parts index_parts read_up_to read_by pulse_front
a_path_of_all = all_found kind_of (specify_item true) (specify_item-exact true) (mark_there symbol.LeftParen ∷ name_there (codes "a") ∷ mark_there symbol.Comma ∷ name_there (codes "b") ∷ mark_there symbol.Full ∷ name_there (codes "c") ∷ mark_there symbol.RightParen ∷ mark_there symbol.Assign ∷ mark_there symbol.LeftParen ∷ mark_there symbol.LeftParen ∷ number_there 3 ∷ mark_there symbol.RightParen ∷ mark_there symbol.RightParen ∷ mark_there symbol.Semicolon ∷ []) (a_path (record { place = here; condition = always; edge = None; sources = term_so (codes "a") ∷ term_so (codes "b") ∷ []; polarity = None; arrow = Full; destination = record { terms = term_so (codes "c") ∷ []; source = None }; delays = amount_so 3 ∷ [] })) refl

-- if (s[2] == 1'bz) (posedge a => (b +: c)) = (1, t);
a_path_with_all : (specify_item true).language.Spells (word_there keyword.If ∷ mark_there symbol.LeftParen ∷ name_there (codes "s") ∷ mark_there symbol.LeftBracket ∷ number_there 2 ∷ mark_there symbol.RightBracket ∷ mark_there symbol.Equal ∷ at_seven (sized_token (Z ∷ [])) ∷ mark_there symbol.RightParen ∷ mark_there symbol.LeftParen ∷ word_there keyword.Posedge ∷ name_there (codes "a") ∷ mark_there symbol.Parallel ∷ mark_there symbol.LeftParen ∷ name_there (codes "b") ∷ mark_there symbol.Plus ∷ mark_there symbol.Colon ∷ name_there (codes "c") ∷ mark_there symbol.RightParen ∷ mark_there symbol.RightParen ∷ mark_there symbol.Assign ∷ mark_there symbol.LeftParen ∷ number_there 1 ∷ mark_there symbol.Comma ∷ name_there (codes "t") ∷ mark_there symbol.RightParen ∷ mark_there symbol.Semicolon ∷ []) 0 (a_path (record { place = here; condition = if_words (word_so (tok.Name (codes "s")) ∷ word_so (tok.Index (pos 2)) ∷ word_so (tok.Op op.Equal) ∷ word_so (tok.Const Z) ∷ []); edge = Some posedge; sources = term_so (codes "a") ∷ []; polarity = None; arrow = Parallel; destination = record { terms = term_so (codes "b") ∷ []; source = Some (record { polarity = Some Positive; words = word_so (tok.Name (codes "c")) ∷ [] }) }; delays = amount_so 1 ∷ one_amount (a_parameter (named_so (codes "t"))) ∷ [] })) 27
unfolding specify_item_parts path_item_parts path_parts conditional_parts path_body_parts ends_parts arrow_parts destination_parts term_parts terms_parts name_parts select_parts int_parts polarity_parts edge_parts delays_parts path_delay_parts amounts_parts amount_parts condition_parts index_parts read_up_to read_by pulse_front
a_path_with_all = all_found kind_of (specify_item true) (specify_item-exact true) (word_there keyword.If ∷ mark_there symbol.LeftParen ∷ name_there (codes "s") ∷ mark_there symbol.LeftBracket ∷ number_there 2 ∷ mark_there symbol.RightBracket ∷ mark_there symbol.Equal ∷ at_seven (sized_token (Z ∷ [])) ∷ mark_there symbol.RightParen ∷ mark_there symbol.LeftParen ∷ word_there keyword.Posedge ∷ name_there (codes "a") ∷ mark_there symbol.Parallel ∷ mark_there symbol.LeftParen ∷ name_there (codes "b") ∷ mark_there symbol.Plus ∷ mark_there symbol.Colon ∷ name_there (codes "c") ∷ mark_there symbol.RightParen ∷ mark_there symbol.RightParen ∷ mark_there symbol.Assign ∷ mark_there symbol.LeftParen ∷ number_there 1 ∷ mark_there symbol.Comma ∷ name_there (codes "t") ∷ mark_there symbol.RightParen ∷ mark_there symbol.Semicolon ∷ []) (a_path (record { place = here; condition = if_words (word_so (tok.Name (codes "s")) ∷ word_so (tok.Index (pos 2)) ∷ word_so (tok.Op op.Equal) ∷ word_so (tok.Const Z) ∷ []); edge = Some posedge; sources = term_so (codes "a") ∷ []; polarity = None; arrow = Parallel; destination = record { terms = term_so (codes "b") ∷ []; source = Some (record { polarity = Some Positive; words = word_so (tok.Name (codes "c")) ∷ [] }) }; delays = amount_so 1 ∷ one_amount (a_parameter (named_so (codes "t"))) ∷ [] })) refl

-- behind two terms there is no =>
two_sources : FailsAt (specify_item true).language (mark_there symbol.LeftParen ∷ name_there (codes "a") ∷ mark_there symbol.Comma ∷ name_there (codes "b") ∷ mark_there symbol.Parallel ∷ name_there (codes "c") ∷ mark_there symbol.RightParen ∷ mark_there symbol.Assign ∷ number_there 3 ∷ mark_there symbol.Semicolon ∷ []) 4
unfolding specify_item_parts path_item_parts path_parts conditional_parts path_body_parts ends_parts arrow_parts destination_parts term_parts terms_parts name_parts select_parts int_parts polarity_parts edge_parts delays_parts path_delay_parts amounts_parts amount_parts condition_parts index_parts read_up_to read_by pulse_front
two_sources = all_failed kind_of (specify_item true) (specify_item-exact true) (mark_there symbol.LeftParen ∷ name_there (codes "a") ∷ mark_there symbol.Comma ∷ name_there (codes "b") ∷ mark_there symbol.Parallel ∷ name_there (codes "c") ∷ mark_there symbol.RightParen ∷ mark_there symbol.Assign ∷ number_there 3 ∷ mark_there symbol.Semicolon ∷ []) 4 refl

-- a path of ifnone has no edge
no_edge : FailsAt (specify_item true).language (word_there keyword.IfNone ∷ mark_there symbol.LeftParen ∷ word_there keyword.Posedge ∷ name_there (codes "a") ∷ mark_there symbol.Parallel ∷ name_there (codes "b") ∷ mark_there symbol.RightParen ∷ mark_there symbol.Assign ∷ number_there 3 ∷ mark_there symbol.Semicolon ∷ []) 2
unfolding specify_item_parts path_item_parts path_parts conditional_parts path_body_parts ends_parts arrow_parts destination_parts term_parts terms_parts name_parts select_parts int_parts polarity_parts edge_parts delays_parts path_delay_parts amounts_parts amount_parts condition_parts index_parts read_up_to read_by pulse_front
no_edge = all_failed kind_of (specify_item true) (specify_item-exact true) (word_there keyword.IfNone ∷ mark_there symbol.LeftParen ∷ word_there keyword.Posedge ∷ name_there (codes "a") ∷ mark_there symbol.Parallel ∷ name_there (codes "b") ∷ mark_there symbol.RightParen ∷ mark_there symbol.Assign ∷ number_there 3 ∷ mark_there symbol.Semicolon ∷ []) 2 refl

-- a path has no list of changes
no_list : FailsAt (specify_item true).language (mark_there symbol.LeftParen ∷ word_there keyword.Edge ∷ mark_there symbol.LeftBracket ∷ at_seven (pair_token Zero One) ∷ mark_there symbol.RightBracket ∷ name_there (codes "a") ∷ mark_there symbol.Parallel ∷ name_there (codes "b") ∷ mark_there symbol.RightParen ∷ mark_there symbol.Assign ∷ number_there 3 ∷ mark_there symbol.Semicolon ∷ []) 1
unfolding specify_item_parts path_item_parts path_parts conditional_parts path_body_parts ends_parts arrow_parts destination_parts term_parts terms_parts name_parts select_parts int_parts polarity_parts edge_parts delays_parts path_delay_parts amounts_parts amount_parts condition_parts index_parts read_up_to read_by pulse_front
no_list = all_failed kind_of (specify_item true) (specify_item-exact true) (mark_there symbol.LeftParen ∷ word_there keyword.Edge ∷ mark_there symbol.LeftBracket ∷ at_seven (pair_token Zero One) ∷ mark_there symbol.RightBracket ∷ name_there (codes "a") ∷ mark_there symbol.Parallel ∷ name_there (codes "b") ∷ mark_there symbol.RightParen ∷ mark_there symbol.Assign ∷ number_there 3 ∷ mark_there symbol.Semicolon ∷ []) 1 refl

-- ---- lists of delays

-- of four delays the parenthesis fails
four : FailsAt (delays true).language (mark_there symbol.LeftParen ∷ number_there 1 ∷ mark_there symbol.Comma ∷ number_there 2 ∷ mark_there symbol.Comma ∷ number_there 3 ∷ mark_there symbol.Comma ∷ number_there 4 ∷ mark_there symbol.RightParen ∷ []) 8
unfolding delays_parts path_delay_parts amounts_parts amount_parts read_by
four = all_failed kind_of (delays true) (delays-exact true) (mark_there symbol.LeftParen ∷ number_there 1 ∷ mark_there symbol.Comma ∷ number_there 2 ∷ mark_there symbol.Comma ∷ number_there 3 ∷ mark_there symbol.Comma ∷ number_there 4 ∷ mark_there symbol.RightParen ∷ []) 8 refl

-- they are taken where their number is not limited
any_four : (delays false).language.Spells (mark_there symbol.LeftParen ∷ number_there 1 ∷ mark_there symbol.Comma ∷ number_there 2 ∷ mark_there symbol.Comma ∷ number_there 3 ∷ mark_there symbol.Comma ∷ number_there 4 ∷ mark_there symbol.RightParen ∷ []) 0 (amount_so 1 ∷ amount_so 2 ∷ amount_so 3 ∷ amount_so 4 ∷ []) 9
unfolding delays_parts path_delay_parts amounts_parts amount_parts read_by
any_four = all_found kind_of (delays false) (delays-exact false) (mark_there symbol.LeftParen ∷ number_there 1 ∷ mark_there symbol.Comma ∷ number_there 2 ∷ mark_there symbol.Comma ∷ number_there 3 ∷ mark_there symbol.Comma ∷ number_there 4 ∷ mark_there symbol.RightParen ∷ []) (amount_so 1 ∷ amount_so 2 ∷ amount_so 3 ∷ amount_so 4 ∷ []) refl

-- of thirteen the comma behind twelve fails
thirteen : FailsAt (delays true).language (mark_there symbol.LeftParen ∷ number_there 1 ∷ mark_there symbol.Comma ∷ number_there 1 ∷ mark_there symbol.Comma ∷ number_there 1 ∷ mark_there symbol.Comma ∷ number_there 1 ∷ mark_there symbol.Comma ∷ number_there 1 ∷ mark_there symbol.Comma ∷ number_there 1 ∷ mark_there symbol.Comma ∷ number_there 1 ∷ mark_there symbol.Comma ∷ number_there 1 ∷ mark_there symbol.Comma ∷ number_there 1 ∷ mark_there symbol.Comma ∷ number_there 1 ∷ mark_there symbol.Comma ∷ number_there 1 ∷ mark_there symbol.Comma ∷ number_there 1 ∷ mark_there symbol.Comma ∷ number_there 1 ∷ mark_there symbol.RightParen ∷ []) 24
unfolding delays_parts path_delay_parts amounts_parts amount_parts read_by
thirteen = all_failed kind_of (delays true) (delays-exact true) (mark_there symbol.LeftParen ∷ number_there 1 ∷ mark_there symbol.Comma ∷ number_there 1 ∷ mark_there symbol.Comma ∷ number_there 1 ∷ mark_there symbol.Comma ∷ number_there 1 ∷ mark_there symbol.Comma ∷ number_there 1 ∷ mark_there symbol.Comma ∷ number_there 1 ∷ mark_there symbol.Comma ∷ number_there 1 ∷ mark_there symbol.Comma ∷ number_there 1 ∷ mark_there symbol.Comma ∷ number_there 1 ∷ mark_there symbol.Comma ∷ number_there 1 ∷ mark_there symbol.Comma ∷ number_there 1 ∷ mark_there symbol.Comma ∷ number_there 1 ∷ mark_there symbol.Comma ∷ number_there 1 ∷ mark_there symbol.RightParen ∷ []) 24 refl

-- they are taken where their number is not limited
any_thirteen : (delays false).language.Spells (mark_there symbol.LeftParen ∷ number_there 1 ∷ mark_there symbol.Comma ∷ number_there 1 ∷ mark_there symbol.Comma ∷ number_there 1 ∷ mark_there symbol.Comma ∷ number_there 1 ∷ mark_there symbol.Comma ∷ number_there 1 ∷ mark_there symbol.Comma ∷ number_there 1 ∷ mark_there symbol.Comma ∷ number_there 1 ∷ mark_there symbol.Comma ∷ number_there 1 ∷ mark_there symbol.Comma ∷ number_there 1 ∷ mark_there symbol.Comma ∷ number_there 1 ∷ mark_there symbol.Comma ∷ number_there 1 ∷ mark_there symbol.Comma ∷ number_there 1 ∷ mark_there symbol.Comma ∷ number_there 1 ∷ mark_there symbol.RightParen ∷ []) 0 (amount_so 1 ∷ amount_so 1 ∷ amount_so 1 ∷ amount_so 1 ∷ amount_so 1 ∷ amount_so 1 ∷ amount_so 1 ∷ amount_so 1 ∷ amount_so 1 ∷ amount_so 1 ∷ amount_so 1 ∷ amount_so 1 ∷ amount_so 1 ∷ []) 27
unfolding delays_parts path_delay_parts amounts_parts amount_parts read_by
any_thirteen = all_found kind_of (delays false) (delays-exact false) (mark_there symbol.LeftParen ∷ number_there 1 ∷ mark_there symbol.Comma ∷ number_there 1 ∷ mark_there symbol.Comma ∷ number_there 1 ∷ mark_there symbol.Comma ∷ number_there 1 ∷ mark_there symbol.Comma ∷ number_there 1 ∷ mark_there symbol.Comma ∷ number_there 1 ∷ mark_there symbol.Comma ∷ number_there 1 ∷ mark_there symbol.Comma ∷ number_there 1 ∷ mark_there symbol.Comma ∷ number_there 1 ∷ mark_there symbol.Comma ∷ number_there 1 ∷ mark_there symbol.Comma ∷ number_there 1 ∷ mark_there symbol.Comma ∷ number_there 1 ∷ mark_there symbol.Comma ∷ number_there 1 ∷ mark_there symbol.RightParen ∷ []) (amount_so 1 ∷ amount_so 1 ∷ amount_so 1 ∷ amount_so 1 ∷ amount_so 1 ∷ amount_so 1 ∷ amount_so 1 ∷ amount_so 1 ∷ amount_so 1 ∷ amount_so 1 ∷ amount_so 1 ∷ amount_so 1 ∷ amount_so 1 ∷ []) refl

-- ---- styles of pulses

-- pulsestyle_ondetect a, b;
a_style : (specify_item true).language.Spells (word_there keyword.PulseStyleOnDetect ∷ name_there (codes "a") ∷ mark_there symbol.Comma ∷ name_there (codes "b") ∷ mark_there symbol.Semicolon ∷ []) 0 (pulse_style here OnDetect (term_so (codes "a") ∷ term_so (codes "b") ∷ [])) 5
unfolding specify_item_parts check_item_parts check_parts style_item_parts style_parts term_parts terms_parts name_parts read_up_to pulse_front
a_style = all_found kind_of (specify_item true) (specify_item-exact true) (word_there keyword.PulseStyleOnDetect ∷ name_there (codes "a") ∷ mark_there symbol.Comma ∷ name_there (codes "b") ∷ mark_there symbol.Semicolon ∷ []) (pulse_style here OnDetect (term_so (codes "a") ∷ term_so (codes "b") ∷ [])) refl

-- no item begins with showcancelled
no_style : FailsAt (specify_item true).language (word_there keyword.ShowCancelled ∷ name_there (codes "a") ∷ mark_there symbol.Semicolon ∷ []) 0
unfolding specify_item_parts check_item_parts check_parts style_item_parts style_parts term_parts terms_parts name_parts read_up_to pulse_front
no_style = all_failed kind_of (specify_item true) (specify_item-exact true) (word_there keyword.ShowCancelled ∷ name_there (codes "a") ∷ mark_there symbol.Semicolon ∷ []) 0 refl

-- ---- timing checks

-- $setup(d, posedge c, 4, n); has its data first
a_setup : (specify_item true).language.Spells (at_seven (system_token (codes "$setup")) ∷ mark_there symbol.LeftParen ∷ name_there (codes "d") ∷ mark_there symbol.Comma ∷ word_there keyword.Posedge ∷ name_there (codes "c") ∷ mark_there symbol.Comma ∷ number_there 4 ∷ mark_there symbol.Comma ∷ name_there (codes "n") ∷ mark_there symbol.RightParen ∷ mark_there symbol.Semicolon ∷ []) 0 (a_check (one_limit_check here Setup (rising_so (codes "c")) (event_so (codes "d")) (limit_so false 4) (Some (named_so (codes "n"))))) 12
unfolding specify_item_parts check_item_parts check_parts arguments_parts event_parts check_edge_parts edge_parts pair_parts term_parts name_parts limit_parts plain_limit_parts signed_amount_parts amount_parts read_up_to read_by pulse_front check_rows
a_setup = all_found kind_of (specify_item true) (specify_item-exact true) (at_seven (system_token (codes "$setup")) ∷ mark_there symbol.LeftParen ∷ name_there (codes "d") ∷ mark_there symbol.Comma ∷ word_there keyword.Posedge ∷ name_there (codes "c") ∷ mark_there symbol.Comma ∷ number_there 4 ∷ mark_there symbol.Comma ∷ name_there (codes "n") ∷ mark_there symbol.RightParen ∷ mark_there symbol.Semicolon ∷ []) (a_check (one_limit_check here Setup (rising_so (codes "c")) (event_so (codes "d")) (limit_so false 4) (Some (named_so (codes "n"))))) refl

-- $setuphold(posedge c, d, -1, (2), , , ); leaves no trace of what is empty
a_setuphold : (specify_item true).language.Spells (at_seven (system_token (codes "$setuphold")) ∷ mark_there symbol.LeftParen ∷ word_there keyword.Posedge ∷ name_there (codes "c") ∷ mark_there symbol.Comma ∷ name_there (codes "d") ∷ mark_there symbol.Comma ∷ mark_there symbol.Minus ∷ number_there 1 ∷ mark_there symbol.Comma ∷ mark_there symbol.LeftParen ∷ number_there 2 ∷ mark_there symbol.RightParen ∷ mark_there symbol.Comma ∷ mark_there symbol.Comma ∷ mark_there symbol.Comma ∷ mark_there symbol.RightParen ∷ mark_there symbol.Semicolon ∷ []) 0 (a_check (two_limit_check here SetupHold (rising_so (codes "c")) (event_so (codes "d")) (limit_so true 1) (limit_so false 2) None None None)) 18
unfolding specify_item_parts check_item_parts check_parts arguments_parts event_parts check_edge_parts edge_parts pair_parts term_parts name_parts limit_parts plain_limit_parts signed_amount_parts amount_parts read_up_to read_by pulse_front check_rows
a_setuphold = all_found kind_of (specify_item true) (specify_item-exact true) (at_seven (system_token (codes "$setuphold")) ∷ mark_there symbol.LeftParen ∷ word_there keyword.Posedge ∷ name_there (codes "c") ∷ mark_there symbol.Comma ∷ name_there (codes "d") ∷ mark_there symbol.Comma ∷ mark_there symbol.Minus ∷ number_there 1 ∷ mark_there symbol.Comma ∷ mark_there symbol.LeftParen ∷ number_there 2 ∷ mark_there symbol.RightParen ∷ mark_there symbol.Comma ∷ mark_there symbol.Comma ∷ mark_there symbol.Comma ∷ mark_there symbol.RightParen ∷ mark_there symbol.Semicolon ∷ []) (a_check (two_limit_check here SetupHold (rising_so (codes "c")) (event_so (codes "d")) (limit_so true 1) (limit_so false 2) None None None)) refl

-- $setuphold(posedge c, d, -1, (2), , , , e, f); names the delayed copies of its two signals
with_delayed_signals : (specify_item true).language.Spells (at_seven (system_token (codes "$setuphold")) ∷ mark_there symbol.LeftParen ∷ word_there keyword.Posedge ∷ name_there (codes "c") ∷ mark_there symbol.Comma ∷ name_there (codes "d") ∷ mark_there symbol.Comma ∷ mark_there symbol.Minus ∷ number_there 1 ∷ mark_there symbol.Comma ∷ mark_there symbol.LeftParen ∷ number_there 2 ∷ mark_there symbol.RightParen ∷ mark_there symbol.Comma ∷ mark_there symbol.Comma ∷ mark_there symbol.Comma ∷ mark_there symbol.Comma ∷ name_there (codes "e") ∷ mark_there symbol.Comma ∷ name_there (codes "f") ∷ mark_there symbol.RightParen ∷ mark_there symbol.Semicolon ∷ []) 0 (a_check (two_limit_check here SetupHold (rising_so (codes "c")) (event_so (codes "d")) (limit_so true 1) (limit_so false 2) None (Some (named_so (codes "e"))) (Some (named_so (codes "f"))))) 22
unfolding specify_item_parts check_item_parts check_parts arguments_parts event_parts check_edge_parts edge_parts pair_parts term_parts name_parts limit_parts plain_limit_parts signed_amount_parts amount_parts read_up_to read_by pulse_front check_rows
with_delayed_signals = all_found kind_of (specify_item true) (specify_item-exact true) (at_seven (system_token (codes "$setuphold")) ∷ mark_there symbol.LeftParen ∷ word_there keyword.Posedge ∷ name_there (codes "c") ∷ mark_there symbol.Comma ∷ name_there (codes "d") ∷ mark_there symbol.Comma ∷ mark_there symbol.Minus ∷ number_there 1 ∷ mark_there symbol.Comma ∷ mark_there symbol.LeftParen ∷ number_there 2 ∷ mark_there symbol.RightParen ∷ mark_there symbol.Comma ∷ mark_there symbol.Comma ∷ mark_there symbol.Comma ∷ mark_there symbol.Comma ∷ name_there (codes "e") ∷ mark_there symbol.Comma ∷ name_there (codes "f") ∷ mark_there symbol.RightParen ∷ mark_there symbol.Semicolon ∷ []) (a_check (two_limit_check here SetupHold (rising_so (codes "c")) (event_so (codes "d")) (limit_so true 1) (limit_so false 2) None (Some (named_so (codes "e"))) (Some (named_so (codes "f"))))) refl

-- a sixth argument may not be filled
filled : FailsAt (specify_item true).language (at_seven (system_token (codes "$setuphold")) ∷ mark_there symbol.LeftParen ∷ word_there keyword.Posedge ∷ name_there (codes "c") ∷ mark_there symbol.Comma ∷ name_there (codes "d") ∷ mark_there symbol.Comma ∷ number_there 1 ∷ mark_there symbol.Comma ∷ number_there 2 ∷ mark_there symbol.Comma ∷ mark_there symbol.Comma ∷ name_there (codes "x") ∷ mark_there symbol.RightParen ∷ mark_there symbol.Semicolon ∷ []) 12
unfolding specify_item_parts check_item_parts check_parts arguments_parts event_parts check_edge_parts edge_parts pair_parts term_parts name_parts limit_parts plain_limit_parts signed_amount_parts amount_parts read_up_to read_by pulse_front check_rows
filled = all_failed kind_of (specify_item true) (specify_item-exact true) (at_seven (system_token (codes "$setuphold")) ∷ mark_there symbol.LeftParen ∷ word_there keyword.Posedge ∷ name_there (codes "c") ∷ mark_there symbol.Comma ∷ name_there (codes "d") ∷ mark_there symbol.Comma ∷ number_there 1 ∷ mark_there symbol.Comma ∷ number_there 2 ∷ mark_there symbol.Comma ∷ mark_there symbol.Comma ∷ name_there (codes "x") ∷ mark_there symbol.RightParen ∷ mark_there symbol.Semicolon ∷ []) 12 refl

-- one token fills it where that is not limited
any_filled : (specify_item false).language.Spells (at_seven (system_token (codes "$setuphold")) ∷ mark_there symbol.LeftParen ∷ word_there keyword.Posedge ∷ name_there (codes "c") ∷ mark_there symbol.Comma ∷ name_there (codes "d") ∷ mark_there symbol.Comma ∷ number_there 1 ∷ mark_there symbol.Comma ∷ number_there 2 ∷ mark_there symbol.Comma ∷ mark_there symbol.Comma ∷ name_there (codes "x") ∷ mark_there symbol.RightParen ∷ mark_there symbol.Semicolon ∷ []) 0 (a_check (two_limit_check here SetupHold (rising_so (codes "c")) (event_so (codes "d")) (limit_so false 1) (limit_so false 2) None None None)) 15
unfolding specify_item_parts check_item_parts check_parts arguments_parts event_parts check_edge_parts edge_parts pair_parts term_parts name_parts limit_parts plain_limit_parts signed_amount_parts amount_parts read_up_to read_by pulse_front check_rows
any_filled = all_found kind_of (specify_item false) (specify_item-exact false) (at_seven (system_token (codes "$setuphold")) ∷ mark_there symbol.LeftParen ∷ word_there keyword.Posedge ∷ name_there (codes "c") ∷ mark_there symbol.Comma ∷ name_there (codes "d") ∷ mark_there symbol.Comma ∷ number_there 1 ∷ mark_there symbol.Comma ∷ number_there 2 ∷ mark_there symbol.Comma ∷ mark_there symbol.Comma ∷ name_there (codes "x") ∷ mark_there symbol.RightParen ∷ mark_there symbol.Semicolon ∷ []) (a_check (two_limit_check here SetupHold (rising_so (codes "c")) (event_so (codes "d")) (limit_so false 1) (limit_so false 2) None None None)) refl

-- $width(edge [01, 0x] c, 1, , n);
a_width : (specify_item true).language.Spells (at_seven (system_token (codes "$width")) ∷ mark_there symbol.LeftParen ∷ word_there keyword.Edge ∷ mark_there symbol.LeftBracket ∷ at_seven (pair_token Zero One) ∷ mark_there symbol.Comma ∷ at_seven (pair_token Zero X) ∷ mark_there symbol.RightBracket ∷ name_there (codes "c") ∷ mark_there symbol.Comma ∷ number_there 1 ∷ mark_there symbol.Comma ∷ mark_there symbol.Comma ∷ name_there (codes "n") ∷ mark_there symbol.RightParen ∷ mark_there symbol.Semicolon ∷ []) 0 (a_check (width_check here (record { place = here; edge = Some (pairs (record { from = Zero; to = One } ∷ record { from = Zero; to = X } ∷ [])); term = term_so (codes "c"); condition = None }) (limit_so false 1) None (Some (named_so (codes "n"))))) 16
unfolding specify_item_parts check_item_parts check_parts arguments_parts event_parts check_edge_parts edge_parts pair_parts term_parts name_parts limit_parts plain_limit_parts signed_amount_parts amount_parts read_up_to read_by pulse_front check_rows
a_width = all_found kind_of (specify_item true) (specify_item-exact true) (at_seven (system_token (codes "$width")) ∷ mark_there symbol.LeftParen ∷ word_there keyword.Edge ∷ mark_there symbol.LeftBracket ∷ at_seven (pair_token Zero One) ∷ mark_there symbol.Comma ∷ at_seven (pair_token Zero X) ∷ mark_there symbol.RightBracket ∷ name_there (codes "c") ∷ mark_there symbol.Comma ∷ number_there 1 ∷ mark_there symbol.Comma ∷ mark_there symbol.Comma ∷ name_there (codes "n") ∷ mark_there symbol.RightParen ∷ mark_there symbol.Semicolon ∷ []) (a_check (width_check here (record { place = here; edge = Some (pairs (record { from = Zero; to = One } ∷ record { from = Zero; to = X } ∷ [])); term = term_so (codes "c"); condition = None }) (limit_so false 1) None (Some (named_so (codes "n"))))) refl

-- only checks with two limits have signs
no_sign : FailsAt (specify_item true).language (at_seven (system_token (codes "$hold")) ∷ mark_there symbol.LeftParen ∷ name_there (codes "c") ∷ mark_there symbol.Comma ∷ name_there (codes "d") ∷ mark_there symbol.Comma ∷ mark_there symbol.Minus ∷ number_there 1 ∷ mark_there symbol.RightParen ∷ mark_there symbol.Semicolon ∷ []) 6
unfolding specify_item_parts check_item_parts check_parts arguments_parts event_parts check_edge_parts edge_parts pair_parts term_parts name_parts limit_parts plain_limit_parts signed_amount_parts amount_parts read_up_to read_by pulse_front check_rows
no_sign = all_failed kind_of (specify_item true) (specify_item-exact true) (at_seven (system_token (codes "$hold")) ∷ mark_there symbol.LeftParen ∷ name_there (codes "c") ∷ mark_there symbol.Comma ∷ name_there (codes "d") ∷ mark_there symbol.Comma ∷ mark_there symbol.Minus ∷ number_there 1 ∷ mark_there symbol.RightParen ∷ mark_there symbol.Semicolon ∷ []) 6 refl

-- another system name is no check
no_check : FailsAt (specify_item true).language (at_seven (system_token (codes "$nochange")) ∷ mark_there symbol.LeftParen ∷ name_there (codes "c") ∷ mark_there symbol.Comma ∷ name_there (codes "d") ∷ mark_there symbol.RightParen ∷ mark_there symbol.Semicolon ∷ []) 0
unfolding specify_item_parts check_item_parts check_parts arguments_parts event_parts check_edge_parts edge_parts pair_parts term_parts name_parts limit_parts plain_limit_parts signed_amount_parts amount_parts read_up_to read_by pulse_front check_rows
no_check = all_failed kind_of (specify_item true) (specify_item-exact true) (at_seven (system_token (codes "$nochange")) ∷ mark_there symbol.LeftParen ∷ name_there (codes "c") ∷ mark_there symbol.Comma ∷ name_there (codes "d") ∷ mark_there symbol.RightParen ∷ mark_there symbol.Semicolon ∷ []) 0 refl

-- ---- conditions

-- ~s[2] && ('b1)
a_condition : (condition).language.Spells (mark_there symbol.Tilde ∷ name_there (codes "s") ∷ mark_there symbol.LeftBracket ∷ number_there 2 ∷ mark_there symbol.RightBracket ∷ mark_there symbol.AndAnd ∷ mark_there symbol.LeftParen ∷ at_seven (unsized_token (One ∷ [])) ∷ mark_there symbol.RightParen ∷ []) 0 (word_so (tok.Op op.Tilde) ∷ word_so (tok.Name (codes "s")) ∷ word_so (tok.Index (pos 2)) ∷ word_so (tok.Op op.AndAnd) ∷ word_so (tok.Left) ∷ word_so (tok.Const One) ∷ word_so (tok.Right) ∷ []) 9
unfolding condition_parts index_parts int_parts read_by pulse_front
a_condition = all_found kind_of (condition) (condition-exact) (mark_there symbol.Tilde ∷ name_there (codes "s") ∷ mark_there symbol.LeftBracket ∷ number_there 2 ∷ mark_there symbol.RightBracket ∷ mark_there symbol.AndAnd ∷ mark_there symbol.LeftParen ∷ at_seven (unsized_token (One ∷ [])) ∷ mark_there symbol.RightParen ∷ []) (word_so (tok.Op op.Tilde) ∷ word_so (tok.Name (codes "s")) ∷ word_so (tok.Index (pos 2)) ∷ word_so (tok.Op op.AndAnd) ∷ word_so (tok.Left) ∷ word_so (tok.Const One) ∷ word_so (tok.Right) ∷ []) refl

-- 2 is no constant of one bit
no_condition : FailsAt (condition).language (name_there (codes "s") ∷ mark_there symbol.Equal ∷ number_there 2 ∷ []) 2
unfolding condition_parts index_parts int_parts read_by pulse_front
no_condition = all_failed kind_of (condition) (condition-exact) (name_there (codes "s") ∷ mark_there symbol.Equal ∷ number_there 2 ∷ []) 2 refl

-- an index has one number
no_index : FailsAt (condition).language (name_there (codes "s") ∷ mark_there symbol.LeftBracket ∷ number_there 2 ∷ mark_there symbol.Colon ∷ number_there 1 ∷ mark_there symbol.RightBracket ∷ []) 3
unfolding condition_parts index_parts int_parts read_by pulse_front
no_index = all_failed kind_of (condition) (condition-exact) (name_there (codes "s") ∷ mark_there symbol.LeftBracket ∷ number_there 2 ∷ mark_there symbol.Colon ∷ number_there 1 ∷ mark_there symbol.RightBracket ∷ []) 3 refl
