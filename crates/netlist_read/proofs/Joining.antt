-- What each phase answers, joined.
use Rattle.std.proofs.Common.{◌≡◌, ℕ, List, sym, subst}
use Rattle.std.specs.Prelude.{Option, Result, Ok, Err, IfErr, map}
use Rattle.sg_circuit.specs.Circuit.{Circuit}
use Rattle.sg_delay.specs.declared.corners.Corner.{Corner}
use Rattle.sg_text.specs.declared.places.Place.{Place}
use Rattle.sg_text.specs.declared.refusals.Refused.{Refused}
use Rattle.sg_text.specs.declared.refusals.Refused.TheVariants.{Fault, NoMemory}
use Rattle.vl_lex.specs.Lexes.{Lexes}
use Rattle.vl_token.specs.Seen.{lexeme}
use Rattle.vl_token.specs.Tokens.{Lexeme}
use Rattle.vl_token.specs.declared.tokens.Token.{Token}
use Rattle.vl_tree.specs.Tree.{Source}
use Rattle.circuit_model.specs.Elaboration.{IsElaborated}
use Rattle.netlist_read.specs.Phases.{TextStands, SyntaxStands, MeaningStands}
use Rattle.netlist_read.specs.Reading.{AreTree, IsRead, FaultStands, in_text, in_syntax, in_meaning, end_of}
use Rattle.netlist_read.specs.Seen.{RefusalStands, kind_seen}
use Rattle.netlist_read.specs.declared.kinds.NetlistKind.{NetlistKind}

pub text-refused : (texts : List (List ℕ)) (name : Option (List ℕ)) (corner : Corner) (r : Refused NetlistKind) → TextStands texts r → RefusalStands texts name corner r
text-refused texts name corner NoMemory h = tt
text-refused texts name corner (Fault kind place) h = subst (λ k. FaultStands texts name corner k place) (sym h.1) (in_text h.0 place h.2)

pub syntax-refused : (texts : List (List ℕ)) (name : Option (List ℕ)) (corner : Corner) (tokens : List Lexeme) (r : Refused NetlistKind) → Lexes texts (Ok tokens)
    → SyntaxStands tokens (end_of texts) r → RefusalStands texts name corner r
syntax-refused texts name corner tokens NoMemory l h = tt
syntax-refused texts name corner tokens (Fault kind place) l h = in_syntax tokens h.0 h.1 (kind_seen kind) place l h.2 h.4 h.5 h.3

pub meaning-refused : (texts : List (List ℕ)) (name : Option (List ℕ)) (corner : Corner) (tokens : List Lexeme) (tree : Source) (r : Refused NetlistKind) → Lexes texts (Ok tokens)
    → AreTree tokens tree → MeaningStands tree name corner r → RefusalStands texts name corner r
meaning-refused texts name corner tokens tree NoMemory l t h = tt
meaning-refused texts name corner tokens tree (Fault kind place) l t h = subst (λ k. FaultStands texts name corner k place) (sym h.1) (in_meaning tokens tree h.0 place l t h.2)

pub is-read : (texts : List (List ℕ)) (name : Option (List ℕ)) (corner : Corner) (tokens : List Lexeme) (tree : Source) (circuit : Circuit) → Lexes texts (Ok tokens) → AreTree tokens tree
    → IsElaborated tree name corner circuit → IsRead texts name corner circuit
is-read texts name corner tokens tree circuit l t e = record { tokens = tokens; tree = tree; are_tokens = l; are_tree = t; is_elaborated = e }

pub exit-by : (P : Refused NetlistKind → Type 0) (result : Result Circuit (Refused NetlistKind)) (e : Refused NetlistKind) → ((x : Refused NetlistKind) × (result ≡ Err x) × (x ≡ e)) → P e
    → IfErr result P
exit-by P result e (x, r, s) h = subst (λ y. IfErr y P) (sym r) (subst P (sym s) h)

-- where the tokens are lent as a slice
pub source-exit : (texts : List (List ℕ)) (name : Option (List ℕ)) (corner : Corner) (tokens slice : List Token) (end : Place) (r : Refused NetlistKind)
    → slice ≡ tokens → end ≡ end_of texts → Lexes texts (Ok (map lexeme tokens)) → SyntaxStands (map lexeme slice) end r → RefusalStands texts name corner r
source-exit texts name corner tokens slice end r same at l h =
    syntax-refused texts name corner (map lexeme tokens) r l (subst (λ p. SyntaxStands (map lexeme tokens) p r) at (subst (λ ts. SyntaxStands (map lexeme ts) end r) same h))

pub meaning-exit : (texts : List (List ℕ)) (name : Option (List ℕ)) (corner : Corner) (tokens slice : List Token) (tree : Source) (r : Refused NetlistKind) → slice ≡ tokens
    → Lexes texts (Ok (map lexeme tokens)) → AreTree (map lexeme slice) tree → MeaningStands tree name corner r → RefusalStands texts name corner r
meaning-exit texts name corner tokens slice tree r same l t h =
    meaning-refused texts name corner (map lexeme tokens) tree r l (subst (λ ts. AreTree (map lexeme ts) tree) same t) h
