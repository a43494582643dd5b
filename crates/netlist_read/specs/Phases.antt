-- A bridge, on which no public clause rests: what the refusals of the three phases tell, each of what it was given.
use Rattle.std.specs.Prelude.{◌≡◌, ℕ, List, Option, Err, slice_get}
use Rattle.grammar.specs.Reads.{FailsAt}
use Rattle.sg_delay.specs.declared.corners.Corner.{Corner}
use Rattle.sg_text.specs.declared.places.Place.{Place}
use Rattle.sg_text.specs.declared.refusals.Refused.{Refused}
use Rattle.sg_text.specs.declared.refusals.Refused.TheVariants.{Fault, NoMemory}
use Rattle.vl_lex.specs.Lexes.{Lexes}
use Rattle.vl_lex.specs.declared.faults.LexKind.{LexKind}
use Rattle.vl_parse.specs.Parsed.{KindStands, fault_place}
use Rattle.vl_parse.specs.Parsed as parsed
use Rattle.vl_token.specs.Tokens.{Lexeme}
use Rattle.vl_tree.specs.Modules.{source}
use Rattle.vl_tree.specs.Tree.{Source}
use Rattle.circuit_model.specs.Elaboration as elaboration
use Rattle.elab_model.specs.declared.kinds.ElabKind.{ElabKind}
use Rattle.netlist_read.specs.Kinds.{of_text, of_meaning, failing}
use Rattle.netlist_read.specs.Seen.{kind_seen}
use Rattle.netlist_read.specs.declared.kinds.NetlistKind.{NetlistKind}

abbrev pub TextStands : List (List ℕ) → Refused NetlistKind → Type 0
TextStands texts NoMemory = Unit {0}
TextStands texts (Fault kind place) = (k : LexKind) × (kind_seen kind ≡ of_text k) × Lexes texts (Err (record { kind = k; place = place }))

abbrev pub SyntaxStands : List Lexeme → Place → Refused NetlistKind → Type 0
SyntaxStands tokens end NoMemory = Unit {0}
SyntaxStands tokens end (Fault kind place) =
    (e : ℕ) × (k : parsed.Kind) × FailsAt source.language tokens e × (place ≡ fault_place end (slice_get tokens e)) × KindStands tokens e k × (kind_seen kind ≡ failing k)

abbrev pub MeaningStands : Source → Option (List ℕ) → Corner → Refused NetlistKind → Type 0
MeaningStands tree name corner NoMemory = Unit {0}
MeaningStands tree name corner (Fault kind place) = (k : ElabKind) × (kind_seen kind ≡ of_meaning k) × elaboration.FaultStands tree name corner k place
