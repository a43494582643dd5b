-- The tokens of the entries of delays.
use Rattle.std.specs.Prelude.{◌≡◌, ◌≢◌, ◌≤◌, IfSome, List, [], ◌∷◌, ◌++◌, map, length, flat_map, Option, Some, None, codes, true}
use Rattle.std.specs.List.{AllByRecursion}
use Rattle.std.proofs.Common.{refl, ap, ◌∙◌}
use Rattle.std.proofs.lemmas.List.{append_assoc}
use Rattle.std.proofs.lemmas.List.Elements.{recursion_from_All}
use Rattle.grammar.specs.Rule.{◌∙∙◌, ◌▸◌, ◌◂◌, mapped}
use Rattle.sg_text.specs.declared.places.Place.{Place}
use Rattle.cond_expr.specs.Token.{Tok}
use Rattle.sg_circuit.specs.Circuit.{Variable}
use Rattle.sdf_lex.specs.Tokens.{Meaning, word_token, left_token, right_token}
use Rattle.sdf_tree.specs.declared.keywords.Keyword.TheVariants as keyword
use Rattle.sdf_tree.specs.declared.tree.Edge.{Edge}
use Rattle.sdf_tree.specs.declared.words.Divider.TheVariants.{Slash}
use Rattle.sdf_tree.specs.Conditions.{condition}
use Rattle.sdf_tree.specs.Entries.{plain_terminal, edge_terminal, spec_parts, spec, cond_parts, cond, tail, Path, path_parts, path, inner_path_parts, inner_path, path_body, net_body_parts, net_body, body_parts, body, entry_parts, entry}
use Rattle.sdf_tree.specs.Keywords.{keyword_of}
use Rattle.sdf_tree.specs.Kinds.{is_left, is_right}
use Rattle.sdf_tree.specs.Rules.{Grammar, mark, word, placed, either, optional}
use Rattle.sdf_tree.specs.Values.{text, list, port, edge_word}
use Rattle.sdf_tree.specs.Written.{Port, Terminal, PathCondition, always, otherwise, if_words, Delay, Body, io_path, port_delay, interconnect, device, net_delay, Entry}
use Rattle.written_model.specs.Entries.{LegEntry, PathEntry}
use Rattle.written_model.specs.Faults.{depth_from}
use Rattle.written_model.specs.Names.{BitName, name_of}
use Rattle.written_model.specs.Text.{edge_text}
use Rattle.written_model.specs.Tree.{nowhere, port_of_name, delay_of, leg_entry, path_entry}
use Rattle.written_reading.specs.Meanings.{words_meanings, bit_meanings, terminal_meanings, delay_meanings, leg_meanings, io_path_meanings, under_condition, path_meanings}
use Rattle.written_reading.specs.Named.{IsWrittenCondition}
use Rattle.written_reading.specs.Placeless as placeless
use Rattle.written_reading.proofs.DelayTokens.{AreShort, IsOrdered, says_list, IsTail, tells_tail}
use Rattle.written_reading.proofs.PortTokens.{IsWritten, tells_word, tells_edge, tells_port, tells_condition}
use Rattle.written_reading.proofs.Tells.{Tells, Says, tells_mark, tells_image, tells_placed, tells_none, tells_left, tells_right, tells_both, tells_first, tells_second, tells_same}

port_word : keyword_of (codes "PORT") ≡ Some keyword.Port
unfolding keyword_of
port_word = refl

io_path_word : keyword_of (codes "IOPATH") ≡ Some keyword.IoPath
unfolding keyword_of
io_path_word = refl

cond_word : keyword_of (codes "COND") ≡ Some keyword.Cond
unfolding keyword_of
cond_word = refl

cond_else_word : keyword_of (codes "CONDELSE") ≡ Some keyword.CondElse
unfolding keyword_of
cond_else_word = refl

-- ---- terminals

abbrev pub edged_words : BitName → Edge → List Meaning
edged_words n e = word_token (edge_text e) ∷ (bit_meanings n ++ right_token ∷ [])

abbrev pub terminal : Option Edge → BitName → Terminal
terminal edge n = record { condition = None; edge = edge; port = port_of_name n }

module _ (n : BitName) (some : n.name ≢ []) where
  pub tells_plain : Tells (mapped plain_terminal (port Slash)).language (λ t. t ≡ terminal None n) (bit_meanings n)
  tells_plain = tells_image plain_terminal (port Slash).language (λ p. p ≡ port_of_name n) (λ t. t ≡ terminal None n) (bit_meanings n) (tells_port n some) (λ p e. ap plain_terminal e)

  edge_made : (e : Edge) (x : Edge × Port) → (x.0 ≡ e) × (x.1 ≡ port_of_name n) → edge_terminal x ≡ terminal (Some e) n
  edge_made e x p = ap (λ (y : Edge). let t : Terminal = record { condition = None; edge = Some y; port = x.1 } in t) p.0 ∙ ap (λ (q : Port). let t : Terminal = record { condition = None; edge = Some e; port = q } in t) p.1

  -- behind the parenthesis
  pub tells_edged : (e : Edge) → IsWritten e → Tells (mapped edge_terminal (edge_word ∙∙ (port Slash ◂ mark is_right))).language (λ t. t ≡ terminal (Some e) n) (edged_words n e)
  tells_edged e w =
      tells_image edge_terminal (edge_word ∙∙ (port Slash ◂ mark is_right)).language (λ x. (x.0 ≡ e) × (x.1 ≡ port_of_name n)) (λ t. t ≡ terminal (Some e) n) (edged_words n e)
      (tells_both edge_word.language (port Slash ◂ mark is_right).language (λ x. x ≡ e) (λ p. p ≡ port_of_name n) (word_token (edge_text e) ∷ []) (bit_meanings n ++ right_token ∷ []) (tells_edge e w)
      (tells_first (port Slash).language (mark is_right).language (λ p. p ≡ port_of_name n) (λ u. Unit {0}) (bit_meanings n) (right_token ∷ []) (tells_port n some) (tells_mark is_right right_token refl)))
      (edge_made e)

  abbrev spec_edge : Grammar Terminal
  spec_edge = mapped edge_terminal (mark is_left ▸ (edge_word ∙∙ (port Slash ◂ mark is_right)))

  pub tells_spec : (o : Option Edge) → IfSome o IsWritten → Tells (spec Slash).language (λ t. t ≡ terminal o n) (terminal_meanings o (bit_meanings n))
  unfolding spec_parts
  tells_spec None w = tells_left (mapped plain_terminal (port Slash)).language spec_edge.language (λ t. t ≡ terminal None n) (bit_meanings n) tells_plain
  tells_spec (Some e) w =
      tells_right (mapped plain_terminal (port Slash)).language spec_edge.language (λ t. t ≡ terminal (Some e) n) (left_token ∷ edged_words n e)
      (tells_image edge_terminal (mark is_left ▸ (edge_word ∙∙ (port Slash ◂ mark is_right))).language (λ x. (x.0 ≡ e) × (x.1 ≡ port_of_name n)) (λ t. t ≡ terminal (Some e) n) (left_token ∷ edged_words n e)
      (tells_second (mark is_left).language (edge_word ∙∙ (port Slash ◂ mark is_right)).language (λ u. Unit {0}) (λ x. (x.0 ≡ e) × (x.1 ≡ port_of_name n)) (left_token ∷ []) (edged_words n e) (tells_mark is_left left_token refl)
      (tells_both edge_word.language (port Slash ◂ mark is_right).language (λ x. x ≡ e) (λ p. p ≡ port_of_name n) (word_token (edge_text e) ∷ []) (bit_meanings n ++ right_token ∷ []) (tells_edge e w)
      (tells_first (port Slash).language (mark is_right).language (λ p. p ≡ port_of_name n) (λ u. Unit {0}) (bit_meanings n) (right_token ∷ []) (tells_port n some) (tells_mark is_right right_token refl))))
      (edge_made e))

-- a condition that isn't too deep
pub record IsGoodWords (ws : List Tok) : Type 0 where
  pub written : IsWrittenCondition ws
  pub shallow : depth_from 0 ws ≤ 27

pub tells_cond : (ws : List Tok) → IsWrittenCondition ws → Tells cond.language (λ xs. xs ≡ ws) (word_token (codes "COND") ∷ words_meanings ws)
unfolding cond_parts
tells_cond ws c =
    tells_second (word keyword.Cond).language (optional text ▸ condition).language (λ u. Unit {0}) (λ xs. xs ≡ ws) (word_token (codes "COND") ∷ []) (words_meanings ws) (tells_word keyword.Cond (codes "COND") cond_word)
    (tells_second (optional text).language condition.language (λ o. o ≡ None) (λ xs. xs ≡ ws) [] (words_meanings ws) (tells_none text.language) (tells_condition ws c.condition (recursion_from_All _ ws c.words)))

-- ---- paths

abbrev pub IsGoodCondition : PathCondition → Type 0
IsGoodCondition always = Unit {0}
IsGoodCondition otherwise = Unit {0}
IsGoodCondition (if_words ws) = IsGoodWords ws

pub record IsGoodPath (vs : List Variable) (e : PathEntry) : Type 0 where
  pub input : (name_of vs e.key.input).name ≢ []
  pub output : (name_of vs e.key.output).name ≢ []
  pub edge : IfSome e.key.edge IsWritten
  pub condition : IsGoodCondition e.key.condition
  pub twelve : length e.numbers ≡ 12
  pub short : AllByRecursion AreShort e.numbers
  pub ordered : AllByRecursion IsOrdered e.numbers

module _ (vs : List Variable) (e : PathEntry) (good : IsGoodPath vs e) where
  abbrev input : List Meaning
  input = terminal_meanings e.key.edge (bit_meanings (name_of vs e.key.input))

  abbrev output : List Meaning
  output = bit_meanings (name_of vs e.key.output)

  abbrev delays : List Meaning
  delays = flat_map delay_meanings e.numbers

  abbrev from : Terminal
  from = terminal e.key.edge (name_of vs e.key.input)

  abbrev to : Port
  to = port_of_name (name_of vs e.key.output)

  abbrev IsPath : Path → Type 0
  IsPath x = (x.0 ≡ from) × ((x.1.0 ≡ to) × IsTail e.numbers x.1.1)

  abbrev path_words : List Meaning
  path_words = word_token (codes "IOPATH") ∷ (input ++ (output ++ delays))

  tells_path : Tells (path true Slash).language IsPath path_words
  unfolding path_parts
  tells_path =
      tells_second (word keyword.IoPath).language (spec Slash ∙∙ (port Slash ∙∙ tail true)).language (λ u. Unit {0}) IsPath (word_token (codes "IOPATH") ∷ []) (input ++ (output ++ delays)) (tells_word keyword.IoPath (codes "IOPATH") io_path_word)
      (tells_both (spec Slash).language (port Slash ∙∙ tail true).language (λ t. t ≡ from) (λ x. (x.0 ≡ to) × IsTail e.numbers x.1) input (output ++ delays) (tells_spec (name_of vs e.key.input) good.input e.key.edge good.edge)
      (tells_both (port Slash).language (tail true).language (λ p. p ≡ to) (IsTail e.numbers) output delays (tells_port (name_of vs e.key.output) good.output) (tells_tail e.numbers good.twelve good.short)))

  closed : path_words ++ right_token ∷ [] ≡ word_token (codes "IOPATH") ∷ (input ++ (output ++ (delays ++ right_token ∷ [])))
  closed = ap (λ (xs : List Meaning). word_token (codes "IOPATH") ∷ xs) (append_assoc input (output ++ delays) (right_token ∷ []) ∙ ap (λ (xs : List Meaning). input ++ xs) (append_assoc output delays (right_token ∷ [])))

  tells_inner : Tells (inner_path true Slash).language IsPath (io_path_meanings vs e)
  unfolding inner_path_parts
  tells_inner =
      tells_second (mark is_left).language (path true Slash ◂ mark is_right).language (λ u. Unit {0}) IsPath (left_token ∷ []) (word_token (codes "IOPATH") ∷ (input ++ (output ++ (delays ++ right_token ∷ [])))) (tells_mark is_left left_token refl)
      (tells_same (path true Slash ◂ mark is_right).language IsPath (path_words ++ right_token ∷ []) (word_token (codes "IOPATH") ∷ (input ++ (output ++ (delays ++ right_token ∷ [])))) closed
      (tells_first (path true Slash).language (mark is_right).language IsPath (λ u. Unit {0}) path_words (right_token ∷ []) tells_path (tells_mark is_right right_token refl)))

  abbrev IsBody : PathCondition → Body → Type 0
  IsBody c b = placeless.body b ≡ io_path c from to [] (map delay_of e.numbers)

  body_is : (c : PathCondition) (x : Path) → IsPath x → IsBody c (path_body c x)
  body_is c x p =
      ap (λ (t : Terminal). io_path c t x.1.0 (map placeless.delay x.1.1.0) (map placeless.delay x.1.1.1)) p.0
      ∙ (ap (λ (q : Port). io_path c from q (map placeless.delay x.1.1.0) (map placeless.delay x.1.1.1)) p.1.0
      ∙ (ap (λ (ds : List Delay). io_path c from to (map placeless.delay ds) (map placeless.delay x.1.1.1)) p.1.1.0 ∙ ap (λ (ds : List Delay). io_path c from to [] ds) p.1.1.1))

  abbrev plain_body : Grammar Body
  plain_body = mapped (path_body always) (path true Slash)

  abbrev if_body : Grammar Body
  if_body = mapped (λ x. path_body (if_words x.0) x.1) (cond ∙∙ inner_path true Slash)

  abbrev else_body : Grammar Body
  else_body = mapped (path_body otherwise) (word keyword.CondElse ▸ inner_path true Slash)

  abbrev body_meanings : PathCondition → List Meaning
  body_meanings always = path_words
  body_meanings (if_words ws) = (word_token (codes "COND") ∷ words_meanings ws) ++ io_path_meanings vs e
  body_meanings otherwise = word_token (codes "CONDELSE") ∷ io_path_meanings vs e

  tells_body : (c : PathCondition) → IsGoodCondition c → Tells (body true Slash).language (IsBody c) (body_meanings c)
  unfolding body_parts
  tells_body always h =
      tells_left plain_body.language (either if_body (either else_body (net_body true Slash))).language (IsBody always) path_words
      (tells_image (path_body always) (path true Slash).language IsPath (IsBody always) path_words tells_path (body_is always))
  tells_body (if_words ws) h =
      tells_right plain_body.language (either if_body (either else_body (net_body true Slash))).language (IsBody (if_words ws)) (body_meanings (if_words ws))
      (tells_left if_body.language (either else_body (net_body true Slash)).language (IsBody (if_words ws)) (body_meanings (if_words ws))
      (tells_image (λ (x : List Tok × Path). path_body (if_words x.0) x.1) (cond ∙∙ inner_path true Slash).language (λ x. (x.0 ≡ ws) × IsPath x.1) (IsBody (if_words ws)) (body_meanings (if_words ws))
      (tells_both cond.language (inner_path true Slash).language (λ xs. xs ≡ ws) IsPath (word_token (codes "COND") ∷ words_meanings ws) (io_path_meanings vs e) (tells_cond ws h.written) tells_inner)
      (λ x p. ap (λ (xs : List Tok). placeless.body (path_body (if_words xs) x.1)) p.0 ∙ body_is (if_words ws) x.1 p.1)))
  tells_body otherwise h =
      tells_right plain_body.language (either if_body (either else_body (net_body true Slash))).language (IsBody otherwise) (body_meanings otherwise)
      (tells_right if_body.language (either else_body (net_body true Slash)).language (IsBody otherwise) (body_meanings otherwise)
      (tells_left else_body.language (net_body true Slash).language (IsBody otherwise) (body_meanings otherwise)
      (tells_image (path_body otherwise) (word keyword.CondElse ▸ inner_path true Slash).language IsPath (IsBody otherwise) (body_meanings otherwise)
      (tells_second (word keyword.CondElse).language (inner_path true Slash).language (λ u. Unit {0}) IsPath (word_token (codes "CONDELSE") ∷ []) (io_path_meanings vs e) (tells_word keyword.CondElse (codes "CONDELSE") cond_else_word) tells_inner)
      (body_is otherwise))))

-- ---- entries

module _ (made : Body) (ms : List Meaning) where
  pub says_entry : Says (body true Slash).language placeless.body made ms → Says (entry true Slash).language placeless.entry (record { place = nowhere; body = made }) (left_token ∷ (ms ++ right_token ∷ []))
  unfolding entry_parts
  says_entry t =
      tells_image (λ (x : Place × Body). let y : Entry = record { place = x.0; body = x.1 } in y) (placed (mark is_left ▸ (body true Slash ◂ mark is_right))).language (λ x. placeless.body x.1 ≡ made) (λ y. placeless.entry y ≡ record { place = nowhere; body = made }) (left_token ∷ (ms ++ right_token ∷ []))
      (tells_placed (mark is_left ▸ (body true Slash ◂ mark is_right)).language (λ b. placeless.body b ≡ made) left_token (ms ++ right_token ∷ [])
      (tells_second (mark is_left).language (body true Slash ◂ mark is_right).language (λ u. Unit {0}) (λ b. placeless.body b ≡ made) (left_token ∷ []) (ms ++ right_token ∷ []) (tells_mark is_left left_token refl)
      (tells_first (body true Slash).language (mark is_right).language (λ b. placeless.body b ≡ made) (λ u. Unit {0}) ms (right_token ∷ []) t (tells_mark is_right right_token refl))))
      (λ x p. ap (λ (b : Body). let y : Entry = record { place = nowhere; body = b } in y) p)

path_closed : (vs : List Variable) (e : PathEntry) (good : IsGoodPath vs e) (c : PathCondition) → left_token ∷ (body_meanings vs e good c ++ right_token ∷ []) ≡ under_condition c (io_path_meanings vs e)
path_closed vs e good always = ap (λ (xs : List Meaning). left_token ∷ xs) (closed vs e good)
path_closed vs e good (if_words ws) = ap (λ (xs : List Meaning). left_token ∷ word_token (codes "COND") ∷ xs) (append_assoc (words_meanings ws) (io_path_meanings vs e) (right_token ∷ []))
path_closed vs e good otherwise = refl

pub says_path : (vs : List Variable) (e : PathEntry) → IsGoodPath vs e → Says (entry true Slash).language placeless.entry (path_entry vs e) (path_meanings vs e)
says_path vs e good =
    tells_same (entry true Slash).language (λ y. placeless.entry y ≡ path_entry vs e) (left_token ∷ (body_meanings vs e good e.key.condition ++ right_token ∷ [])) (path_meanings vs e) (path_closed vs e good e.key.condition)
    (says_entry (io_path e.key.condition (from vs e good) (to vs e good) [] (map delay_of e.numbers)) (body_meanings vs e good e.key.condition) (tells_body vs e good e.key.condition good.condition))

-- ---- legs

pub record IsGoodLeg (vs : List Variable) (e : LegEntry) : Type 0 where
  pub named : (name_of vs e.net).name ≢ []
  pub twelve : length e.numbers ≡ 12
  pub short : AllByRecursion AreShort e.numbers
  pub ordered : AllByRecursion IsOrdered e.numbers

module _ (vs : List Variable) (e : LegEntry) (good : IsGoodLeg vs e) where
  abbrev net : List Meaning
  net = bit_meanings (name_of vs e.net)

  abbrev leg_delays : List Meaning
  leg_delays = flat_map delay_meanings e.numbers

  abbrev leg_port : Port
  leg_port = port_of_name (name_of vs e.net)

  abbrev leg_words : List Meaning
  leg_words = word_token (codes "PORT") ∷ (net ++ leg_delays)

  abbrev IsLeg : Port × List Delay → Type 0
  IsLeg x = (x.0 ≡ leg_port) × (map placeless.delay x.1 ≡ map delay_of e.numbers)

  abbrev IsLegBody : Body → Type 0
  IsLegBody b = placeless.body b ≡ port_delay leg_port (map delay_of e.numbers)

  abbrev port_body : Grammar Body
  port_body = mapped (λ x. port_delay x.0 x.1) (word keyword.Port ▸ (port Slash ∙∙ list true))

  abbrev other_bodies : Grammar Body
  other_bodies =
      either (mapped (λ x. interconnect x.0 x.1.0 x.1.1) (word keyword.Interconnect ▸ (port Slash ∙∙ (port Slash ∙∙ list true))))
      (either (mapped (λ x. device x.0 x.1) (word keyword.Device ▸ (optional (port Slash) ∙∙ list true))) (mapped (λ x. net_delay x.0 x.1) (word keyword.NetDelay ▸ (port Slash ∙∙ list true))))

  tells_leg : Tells (net_body true Slash).language IsLegBody leg_words
  unfolding net_body_parts
  tells_leg =
      tells_left port_body.language other_bodies.language IsLegBody leg_words
      (tells_image (λ (x : Port × List Delay). port_delay x.0 x.1) (word keyword.Port ▸ (port Slash ∙∙ list true)).language IsLeg IsLegBody leg_words
      (tells_second (word keyword.Port).language (port Slash ∙∙ list true).language (λ u. Unit {0}) IsLeg (word_token (codes "PORT") ∷ []) (net ++ leg_delays) (tells_word keyword.Port (codes "PORT") port_word)
      (tells_both (port Slash).language (list true).language (λ p. p ≡ leg_port) (λ ds. map placeless.delay ds ≡ map delay_of e.numbers) net leg_delays (tells_port (name_of vs e.net) good.named) (says_list e.numbers good.twelve good.short)))
      (λ x p. ap (λ (q : Port). port_delay q (map placeless.delay x.1)) p.0 ∙ ap (λ (ds : List Delay). port_delay leg_port ds) p.1))

  tells_leg_body : Tells (body true Slash).language IsLegBody leg_words
  unfolding body_parts
  tells_leg_body =
      tells_right (mapped (path_body always) (path true Slash)).language (either (mapped (λ x. path_body (if_words x.0) x.1) (cond ∙∙ inner_path true Slash)) (either (mapped (path_body otherwise) (word keyword.CondElse ▸ inner_path true Slash)) (net_body true Slash))).language IsLegBody leg_words
      (tells_right (mapped (λ x. path_body (if_words x.0) x.1) (cond ∙∙ inner_path true Slash)).language (either (mapped (path_body otherwise) (word keyword.CondElse ▸ inner_path true Slash)) (net_body true Slash)).language IsLegBody leg_words
      (tells_right (mapped (path_body otherwise) (word keyword.CondElse ▸ inner_path true Slash)).language (net_body true Slash).language IsLegBody leg_words tells_leg))

  pub says_leg : Says (entry true Slash).language placeless.entry (leg_entry vs e) (leg_meanings vs e)
  says_leg =
      tells_same (entry true Slash).language (λ y. placeless.entry y ≡ leg_entry vs e) (left_token ∷ (leg_words ++ right_token ∷ [])) (leg_meanings vs e) (ap (λ (xs : List Meaning). left_token ∷ word_token (codes "PORT") ∷ xs) (append_assoc net leg_delays (right_token ∷ [])))
      (says_entry (port_delay leg_port (map delay_of e.numbers)) leg_words tells_leg_body)
