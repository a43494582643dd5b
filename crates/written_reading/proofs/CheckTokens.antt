-- The tokens of timing checks.
use Rattle.std.specs.Prelude.{◌≡◌, ◌≢◌, ℕ, ◌<◌, ◌^◌, unsigned_abs, true, IfSome, List, [], ◌∷◌, ◌++◌, Option, Some, None, codes}
use Rattle.std.specs.Fmt.{signed_decimal}
use Rattle.std.proofs.Common.{refl, sym, ap, ◌∙◌}
use Rattle.std.proofs.lemmas.List.{append_assoc}
use Rattle.grammar.specs.Rule.{◌∙∙◌, ◌▸◌, ◌◂◌, mapped}
use Rattle.sg_text.specs.declared.places.Place.{Place}
use Rattle.cond_expr.specs.Token.{Tok}
use Rattle.sg_circuit.specs.Circuit.{Variable}
use Rattle.sdf_lex.specs.Tokens.{Meaning, word_token, left_token, right_token}
use Rattle.sdf_tree.specs.declared.keywords.Keyword.{Keyword}
use Rattle.sdf_tree.specs.declared.keywords.Keyword.TheVariants as keyword
use Rattle.sdf_tree.specs.declared.tree.Edge.{Edge}
use Rattle.sdf_tree.specs.declared.tree.PairCheck.{PairCheck}
use Rattle.sdf_tree.specs.declared.tree.PairCheck.TheVariants as pair
use Rattle.sdf_tree.specs.declared.tree.SingleCheck.{SingleCheck}
use Rattle.sdf_tree.specs.declared.tree.SingleCheck.TheVariants as single
use Rattle.sdf_tree.specs.declared.tree.Skipped.TheVariants as skipped
use Rattle.sdf_tree.specs.declared.tree.WindowCheck.TheVariants as window
use Rattle.sdf_tree.specs.declared.words.Divider.TheVariants.{Slash}
use Rattle.sdf_tree.specs.Checks.{conditional_terminal, terminal_rest_parts, terminal_rest, terminal_parts, terminal, is_pair, is_window, is_single, is_skipped_check, TwoTerminals, two_terminals_parts, two_terminals, check_body_parts, check_body, check_parts, check}
use Rattle.sdf_tree.specs.Entries.{plain_terminal, edge_terminal, spec, cond}
use Rattle.sdf_tree.specs.Keywords.{keyword_of}
use Rattle.sdf_tree.specs.Kinds.{is_left, is_right, pair_of, window_of, single_of, skipped_check_of, names}
use Rattle.sdf_tree.specs.Rules.{Grammar, token, mark, placed, either}
use Rattle.sdf_tree.specs.Values.{value, port, edge_word, balanced}
use Rattle.sdf_tree.specs.Words.{begins_number}
use Rattle.sdf_tree.specs.Written.{Terminal, Value, CheckBody, pair_check, window_check, single_check, skipped_check, Check}
use Rattle.written_model.specs.declared.parts.Part.{Part}
use Rattle.written_model.specs.declared.parts.Part.TheVariants as part
use Rattle.written_model.specs.Entries.{EventKey, CheckEntry}
use Rattle.written_model.specs.Names.{BitName, name_of}
use Rattle.written_model.specs.Tree as tree
use Rattle.written_model.specs.Tree.{nowhere, port_of_name, event_terminal, lone, datum_of, check_of}
use Rattle.written_reading.specs.Meanings.{words_meanings, bit_meanings, terminal_meanings, conditional_meanings, event_meanings, value_meanings, terminals_meanings, check_meanings}
use Rattle.written_reading.specs.Named.{IsWrittenCondition}
use Rattle.written_reading.specs.Placeless as placeless
use Rattle.written_reading.proofs.Decimals.{signed_begins}
use Rattle.written_reading.proofs.EntryTokens as entries
use Rattle.written_reading.proofs.EntryTokens.{IsGoodWords, tells_plain, tells_edged, tells_spec, tells_cond}
use Rattle.written_reading.proofs.PortTokens.{IsWritten, tells_named}
use Rattle.written_reading.proofs.Tells.{Tells, Says, tells_mark, tells_image, tells_placed, tells_left, tells_right, tells_both, tells_first, tells_second, tells_same}
use Rattle.written_reading.proofs.ValueTokens.{says_value}

setup_word : keyword_of (codes "SETUP") ≡ Some keyword.Setup
unfolding keyword_of
setup_word = refl

hold_word : keyword_of (codes "HOLD") ≡ Some keyword.Hold
unfolding keyword_of
hold_word = refl

recovery_word : keyword_of (codes "RECOVERY") ≡ Some keyword.Recovery
unfolding keyword_of
recovery_word = refl

removal_word : keyword_of (codes "REMOVAL") ≡ Some keyword.Removal
unfolding keyword_of
removal_word = refl

skew_word : keyword_of (codes "SKEW") ≡ Some keyword.Skew
unfolding keyword_of
skew_word = refl

width_word : keyword_of (codes "WIDTH") ≡ Some keyword.Width
unfolding keyword_of
width_word = refl

period_word : keyword_of (codes "PERIOD") ≡ Some keyword.Period
unfolding keyword_of
period_word = refl

-- ---- terminals

module _ (n : BitName) (some : n.name ≢ []) (edge : Option Edge) (written : IfSome edge IsWritten) where
  abbrev with_condition : Option (List Tok) → Terminal
  with_condition c = record { condition = c; edge = edge; port = port_of_name n }

  conditional_is : (ws : List Tok) (x : List Tok × Terminal) → (x.0 ≡ ws) × (x.1 ≡ entries.terminal edge n) → conditional_terminal x ≡ with_condition (Some ws)
  conditional_is ws x p = ap (λ (y : List Tok). conditional_terminal (y, x.1)) p.0 ∙ ap (λ (t : Terminal). conditional_terminal (ws, t)) p.1

  abbrev edged : Grammar Terminal
  edged = mapped edge_terminal (edge_word ∙∙ (port Slash ◂ mark is_right))

  abbrev conditional : Grammar Terminal
  conditional = mapped conditional_terminal (cond ∙∙ (spec Slash ◂ mark is_right))

  abbrev plain : Grammar Terminal
  plain = mapped plain_terminal (port Slash)

  abbrev under_words : List Tok → List Meaning
  under_words ws = word_token (codes "COND") ∷ (words_meanings ws ++ (terminal_meanings edge (bit_meanings n) ++ right_token ∷ []))

  tells_conditional : (ws : List Tok) → IsWrittenCondition ws → Tells (terminal_rest Slash).language (λ t. t ≡ with_condition (Some ws)) (under_words ws)
  unfolding terminal_rest_parts
  tells_conditional ws c =
      tells_right edged.language conditional.language (λ t. t ≡ with_condition (Some ws)) (under_words ws)
      (tells_image conditional_terminal (cond ∙∙ (spec Slash ◂ mark is_right)).language (λ x. (x.0 ≡ ws) × (x.1 ≡ entries.terminal edge n)) (λ t. t ≡ with_condition (Some ws)) (under_words ws)
      (tells_both cond.language (spec Slash ◂ mark is_right).language (λ xs. xs ≡ ws) (λ t. t ≡ entries.terminal edge n) (word_token (codes "COND") ∷ words_meanings ws) (terminal_meanings edge (bit_meanings n) ++ right_token ∷ []) (tells_cond ws c)
      (tells_first (spec Slash).language (mark is_right).language (λ t. t ≡ entries.terminal edge n) (λ u. Unit {0}) (terminal_meanings edge (bit_meanings n)) (right_token ∷ []) (tells_spec n some edge written) (tells_mark is_right right_token refl)))
      (conditional_is ws))

  tells_conditioned : (ws : List Tok) → IsWrittenCondition ws → Tells (terminal Slash).language (λ t. t ≡ with_condition (Some ws)) (left_token ∷ under_words ws)
  unfolding terminal_parts
  tells_conditioned ws c =
      tells_right plain.language (mark is_left ▸ terminal_rest Slash).language (λ t. t ≡ with_condition (Some ws)) (left_token ∷ under_words ws)
      (tells_second (mark is_left).language (terminal_rest Slash).language (λ u. Unit {0}) (λ t. t ≡ with_condition (Some ws)) (left_token ∷ []) (under_words ws) (tells_mark is_left left_token refl) (tells_conditional ws c))

module _ (n : BitName) (some : n.name ≢ []) where
  tells_bare : (edge : Option Edge) → IfSome edge IsWritten → Tells (terminal Slash).language (λ t. t ≡ entries.terminal edge n) (terminal_meanings edge (bit_meanings n))
  unfolding terminal_parts terminal_rest_parts
  tells_bare None w = tells_left (mapped plain_terminal (port Slash)).language (mark is_left ▸ terminal_rest Slash).language (λ t. t ≡ entries.terminal None n) (bit_meanings n) (tells_plain n some)
  tells_bare (Some e) w =
      let ms = terminal_meanings (Some e) (bit_meanings n) in
      tells_right (mapped plain_terminal (port Slash)).language (mark is_left ▸ terminal_rest Slash).language (λ t. t ≡ entries.terminal (Some e) n) ms
      (tells_second (mark is_left).language (terminal_rest Slash).language (λ u. Unit {0}) (λ t. t ≡ entries.terminal (Some e) n) (left_token ∷ []) (entries.edged_words n e) (tells_mark is_left left_token refl)
      (tells_left (mapped edge_terminal (edge_word ∙∙ (port Slash ◂ mark is_right))).language (mapped conditional_terminal (cond ∙∙ (spec Slash ◂ mark is_right))).language (λ t. t ≡ entries.terminal (Some e) n) (entries.edged_words n e) (tells_edged n some e w)))

pub record IsGoodEvent (vs : List Variable) (k : EventKey) : Type 0 where
  pub named : (name_of vs k.net).name ≢ []
  pub edge : IfSome k.edge IsWritten
  pub condition : IfSome k.condition IsGoodWords

pub tells_event : (vs : List Variable) (k : EventKey) → IsGoodEvent vs k → Tells (terminal Slash).language (λ t. t ≡ event_terminal vs k) (event_meanings vs k)
tells_event vs k good = by k.condition good.condition
  where
    by : (c : Option (List Tok)) → IfSome c IsGoodWords → Tells (terminal Slash).language (λ t. t ≡ record { condition = c; edge = k.edge; port = port_of_name (name_of vs k.net) }) (conditional_meanings c (terminal_meanings k.edge (bit_meanings (name_of vs k.net))))
    by None h = tells_bare (name_of vs k.net) good.named k.edge good.edge
    by (Some ws) h = tells_conditioned (name_of vs k.net) good.named k.edge good.edge ws h.written

-- ---- checks

module _ (limit : List ℕ) (begins : begins_number limit ≡ true) where
  abbrev IsLimit : Value → Type 0
  IsLimit v = placeless.value v ≡ lone limit

  says_check : (made : CheckBody) (ms : List Meaning) → Says (check_body Slash).language placeless.check_body made ms → Says (check Slash).language placeless.check (record { place = nowhere; body = made }) (left_token ∷ (ms ++ right_token ∷ []))
  unfolding check_parts
  says_check made ms t =
      tells_image (λ (x : Place × CheckBody). let y : Check = record { place = x.0; body = x.1 } in y) (placed (mark is_left ▸ (check_body Slash ◂ mark is_right))).language (λ x. placeless.check_body x.1 ≡ made) (λ y. placeless.check y ≡ record { place = nowhere; body = made }) (left_token ∷ (ms ++ right_token ∷ []))
      (tells_placed (mark is_left ▸ (check_body Slash ◂ mark is_right)).language (λ b. placeless.check_body b ≡ made) left_token (ms ++ right_token ∷ [])
      (tells_second (mark is_left).language (check_body Slash ◂ mark is_right).language (λ u. Unit {0}) (λ b. placeless.check_body b ≡ made) (left_token ∷ []) (ms ++ right_token ∷ []) (tells_mark is_left left_token refl)
      (tells_first (check_body Slash).language (mark is_right).language (λ b. placeless.check_body b ≡ made) (λ u. Unit {0}) ms (right_token ∷ []) t (tells_mark is_right right_token refl))))
      (λ x p. ap (λ (b : CheckBody). let y : Check = record { place = nowhere; body = b } in y) p)

  abbrev pairs : Grammar CheckBody
  pairs = mapped (λ x. pair_check x.0 x.1.0 x.1.1.0 x.1.1.1) (token (λ t. names pair_of pair.Setup t.meaning) is_pair ∙∙ two_terminals Slash)

  abbrev windows : Grammar CheckBody
  windows = mapped (λ x. window_check x.0 x.1.0.0 x.1.0.1.0 x.1.0.1.1 x.1.1) (token (λ t. names window_of window.SetupHold t.meaning) is_window ∙∙ (two_terminals Slash ∙∙ value))

  abbrev singles : Grammar CheckBody
  singles = mapped (λ x. single_check x.0 x.1.0 x.1.1) (token (λ t. names single_of single.Width t.meaning) is_single ∙∙ (terminal Slash ∙∙ value))

  abbrev others : Grammar CheckBody
  others = mapped skipped_check (token (λ t. names skipped_check_of skipped.NoChange t.meaning) is_skipped_check ◂ balanced)

  module _ (text : List ℕ) (w : Keyword) (is : keyword_of text ≡ Some w) where
    module _ (name : PairCheck) (names_it : pair_of w ≡ Some name) (first second : Terminal) (ms ns : List Meaning) (one : Tells (terminal Slash).language (λ t. t ≡ first) ms) (two : Tells (terminal Slash).language (λ t. t ≡ second) ns) where
      abbrev Two : TwoTerminals → Type 0
      Two x = (x.0 ≡ first) × ((x.1.0 ≡ second) × IsLimit x.1.1)

      abbrev IsPair : CheckBody → Type 0
      IsPair b = placeless.check_body b ≡ pair_check name first second (lone limit)

      pair_is : (x : PairCheck × TwoTerminals) → (x.0 ≡ name) × Two x.1 → IsPair (pair_check x.0 x.1.0 x.1.1.0 x.1.1.1)
      pair_is x p =
          ap (λ (c : PairCheck). pair_check c x.1.0 x.1.1.0 (placeless.value x.1.1.1)) p.0
          ∙ (ap (λ (t : Terminal). pair_check name t x.1.1.0 (placeless.value x.1.1.1)) p.1.0
          ∙ (ap (λ (t : Terminal). pair_check name first t (placeless.value x.1.1.1)) p.1.1.0 ∙ ap (λ (v : Value). pair_check name first second v) p.1.1.1))

      tells_two : Tells (two_terminals Slash).language Two (ms ++ (ns ++ value_meanings limit))
      unfolding two_terminals_parts
      tells_two =
          tells_both (terminal Slash).language (terminal Slash ∙∙ value).language (λ t. t ≡ first) (λ x. (x.0 ≡ second) × IsLimit x.1) ms (ns ++ value_meanings limit) one
          (tells_both (terminal Slash).language value.language (λ t. t ≡ second) IsLimit ns (value_meanings limit) two (says_value limit begins))

      abbrev pair_words : List Meaning
      pair_words = word_token text ∷ (ms ++ (ns ++ value_meanings limit))

      tells_pair : Tells (check_body Slash).language IsPair pair_words
      unfolding check_body_parts
      tells_pair =
          tells_left pairs.language (either windows (either singles others)).language IsPair pair_words
          (tells_image (λ (x : PairCheck × TwoTerminals). pair_check x.0 x.1.0 x.1.1.0 x.1.1.1) (token (λ t. names pair_of pair.Setup t.meaning) is_pair ∙∙ two_terminals Slash).language (λ x. (x.0 ≡ name) × Two x.1) IsPair pair_words
          (tells_both (token (λ t. names pair_of pair.Setup t.meaning) is_pair).language (two_terminals Slash).language (λ c. c ≡ name) Two (word_token text ∷ []) (ms ++ (ns ++ value_meanings limit)) (tells_named pair_of pair.Setup w text name is names_it) tells_two)
          pair_is)

      pair_closed : (ms ++ (ns ++ value_meanings limit)) ++ right_token ∷ [] ≡ (ms ++ ns) ++ (value_meanings limit ++ right_token ∷ [])
      pair_closed = ap (λ (xs : List Meaning). xs ++ right_token ∷ []) (sym (append_assoc ms ns (value_meanings limit))) ∙ append_assoc (ms ++ ns) (value_meanings limit) (right_token ∷ [])

      says_pair : Says (check Slash).language placeless.check (record { place = nowhere; body = pair_check name first second (lone limit) }) (left_token ∷ word_token text ∷ ((ms ++ ns) ++ (value_meanings limit ++ right_token ∷ [])))
      says_pair =
          tells_same (check Slash).language (λ y. placeless.check y ≡ record { place = nowhere; body = pair_check name first second (lone limit) }) (left_token ∷ (pair_words ++ right_token ∷ [])) (left_token ∷ word_token text ∷ ((ms ++ ns) ++ (value_meanings limit ++ right_token ∷ [])))
          (ap (λ (xs : List Meaning). left_token ∷ word_token text ∷ xs) pair_closed) (says_check (pair_check name first second (lone limit)) pair_words tells_pair)

    module _ (name : SingleCheck) (names_it : single_of w ≡ Some name) (refer : Terminal) (ms : List Meaning) (one : Tells (terminal Slash).language (λ t. t ≡ refer) ms) where
      abbrev IsSingle : CheckBody → Type 0
      IsSingle b = placeless.check_body b ≡ single_check name refer (lone limit)

      abbrev One : SingleCheck × (Terminal × Value) → Type 0
      One x = (x.0 ≡ name) × ((x.1.0 ≡ refer) × IsLimit x.1.1)

      single_is : (x : SingleCheck × (Terminal × Value)) → One x → IsSingle (single_check x.0 x.1.0 x.1.1)
      single_is x p =
          ap (λ (c : SingleCheck). single_check c x.1.0 (placeless.value x.1.1)) p.0 ∙ (ap (λ (t : Terminal). single_check name t (placeless.value x.1.1)) p.1.0 ∙ ap (λ (v : Value). single_check name refer v) p.1.1)

      abbrev single_words : List Meaning
      single_words = word_token text ∷ (ms ++ value_meanings limit)

      tells_single : Tells (check_body Slash).language IsSingle single_words
      unfolding check_body_parts
      tells_single =
          tells_right pairs.language (either windows (either singles others)).language IsSingle single_words
          (tells_right windows.language (either singles others).language IsSingle single_words
          (tells_left singles.language others.language IsSingle single_words
          (tells_image (λ (x : SingleCheck × (Terminal × Value)). single_check x.0 x.1.0 x.1.1) (token (λ t. names single_of single.Width t.meaning) is_single ∙∙ (terminal Slash ∙∙ value)).language One IsSingle single_words
          (tells_both (token (λ t. names single_of single.Width t.meaning) is_single).language (terminal Slash ∙∙ value).language (λ c. c ≡ name) (λ x. (x.0 ≡ refer) × IsLimit x.1) (word_token text ∷ []) (ms ++ value_meanings limit) (tells_named single_of single.Width w text name is names_it)
          (tells_both (terminal Slash).language value.language (λ t. t ≡ refer) IsLimit ms (value_meanings limit) one (says_value limit begins)))
          single_is)))

      says_single : Says (check Slash).language placeless.check (record { place = nowhere; body = single_check name refer (lone limit) }) (left_token ∷ word_token text ∷ (ms ++ (value_meanings limit ++ right_token ∷ [])))
      says_single =
          tells_same (check Slash).language (λ y. placeless.check y ≡ record { place = nowhere; body = single_check name refer (lone limit) }) (left_token ∷ (single_words ++ right_token ∷ [])) (left_token ∷ word_token text ∷ (ms ++ (value_meanings limit ++ right_token ∷ [])))
          (ap (λ (xs : List Meaning). left_token ∷ word_token text ∷ xs) (append_assoc ms (value_meanings limit) (right_token ∷ []))) (says_check (single_check name refer (lone limit)) single_words tells_single)

  module _ (refer datum : Terminal) (ms ns : List Meaning) (one : Tells (terminal Slash).language (λ t. t ≡ refer) ms) (two : Tells (terminal Slash).language (λ t. t ≡ datum) ns) where
    says_part : (p : Part) → Says (check Slash).language placeless.check (record { place = nowhere; body = tree.check_body p refer datum (lone limit) }) (terminals_meanings p ms ns ++ (value_meanings limit ++ right_token ∷ []))
    says_part part.Setup = says_pair (codes "SETUP") keyword.Setup setup_word pair.Setup refl datum refer ns ms two one
    says_part part.Hold = says_pair (codes "HOLD") keyword.Hold hold_word pair.Hold refl datum refer ns ms two one
    says_part part.Recovery = says_pair (codes "RECOVERY") keyword.Recovery recovery_word pair.Recovery refl refer datum ms ns one two
    says_part part.Removal = says_pair (codes "REMOVAL") keyword.Removal removal_word pair.Removal refl refer datum ms ns one two
    says_part part.Skew = says_pair (codes "SKEW") keyword.Skew skew_word pair.Skew refl refer datum ms ns one two
    says_part part.Width = says_single (codes "WIDTH") keyword.Width width_word single.Width refl refer ms one
    says_part part.Period = says_single (codes "PERIOD") keyword.Period period_word single.Period refl refer ms one

pub record IsGoodCheck (vs : List Variable) (e : CheckEntry) : Type 0 where
  pub refer : IsGoodEvent vs e.key.refer
  pub datum : IsGoodEvent vs (datum_of e.key)
  pub limit : unsigned_abs e.limit < 10 ^ 18

pub says_check_entry : (vs : List Variable) (e : CheckEntry) → IsGoodCheck vs e → Says (check Slash).language placeless.check (check_of vs e) (check_meanings vs e)
says_check_entry vs e good =
    says_part (signed_decimal e.limit) (signed_begins e.limit good.limit) (event_terminal vs e.key.refer) (event_terminal vs (datum_of e.key)) (event_meanings vs e.key.refer) (event_meanings vs (datum_of e.key))
    (tells_event vs e.key.refer good.refer) (tells_event vs (datum_of e.key) good.datum) e.key.part
