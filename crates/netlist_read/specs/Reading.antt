-- What it is that a circuit is read of a netlist's files, and which faults the files have.
use Rattle.std.specs.Prelude.{◌≡◌, ℕ, ◌-◌, List, [], length, Option, Ok, Err, slice_get, slice_index_or}
use Rattle.grammar.specs.Reads.{FailsAt}
use Rattle.sg_circuit.specs.Circuit.{Circuit}
use Rattle.sg_delay.specs.declared.corners.Corner.{Corner}
use Rattle.sg_text.specs.declared.places.Place.{Place}
use Rattle.vl_lex.specs.Lexes.{Lexes}
use Rattle.vl_lex.specs.declared.faults.LexKind.{LexKind}
use Rattle.vl_parse.specs.Parsed.{KindStands, fault_place}
use Rattle.vl_parse.specs.Parsed as parsed
use Rattle.vl_token.specs.Tokens.{Lexeme}
use Rattle.vl_tree.specs.Modules.{source}
use Rattle.vl_tree.specs.Tree.{Source}
use Rattle.circuit_model.specs.Elaboration as elaboration
use Rattle.circuit_model.specs.Elaboration.{IsElaborated}
use Rattle.elab_model.specs.declared.kinds.ElabKind.{ElabKind}
use Rattle.netlist_read.specs.Kinds.{Kind, of_text, of_meaning, failing}

-- all tokens spell a tree
abbrev pub AreTree : List Lexeme → Source → Type 0
AreTree tokens tree = source.language.Spells tokens 0 tree (length tokens)

-- The files have tokens, the tokens spell a tree, and the tree has the circuit: below the top of a name, or else below the only module that can be the top.
pub record IsRead (texts : List (List ℕ)) (name : Option (List ℕ)) (corner : Corner) (circuit : Circuit) : Type 0 where
  pub tokens : List Lexeme
  pub tree : Source
  pub are_tokens : Lexes texts (Ok tokens)
  pub are_tree : AreTree tokens tree
  pub is_elaborated : IsElaborated tree name corner circuit

-- the end of a netlist: behind the last byte of the last file
abbrev pub end_of : List (List ℕ) → Place
end_of texts = record { file = length texts - 1; byte = length (slice_index_or texts (length texts - 1) []) }

-- A fault of a kind stands at a place of the files. A fault of the text is the only one, and so is one of the syntax; of the meaning several may stand.
pub data FaultStands (texts : List (List ℕ)) (name : Option (List ℕ)) (corner : Corner) : Kind → Place → Type 0 where
  -- the text or its directives have it
  in_text : (kind : LexKind) (place : Place) → Lexes texts (Err (record { kind = kind; place = place })) → FaultStands texts name corner (of_text kind) place
  -- a token fails, or behind the last token one is wanting: then it stands at the netlist's end
  in_syntax : (tokens : List Lexeme) (e : ℕ) (why : parsed.Kind) (kind : Kind) (place : Place) → Lexes texts (Ok tokens) → FailsAt source.language tokens e
      → KindStands tokens e why → kind ≡ failing why → place ≡ fault_place (end_of texts) (slice_get tokens e) → FaultStands texts name corner kind place
  -- the tree that the tokens spell has it
  in_meaning : (tokens : List Lexeme) (tree : Source) (kind : ElabKind) (place : Place) → Lexes texts (Ok tokens) → AreTree tokens tree
      → elaboration.FaultStands tree name corner kind place → FaultStands texts name corner (of_meaning kind) place
