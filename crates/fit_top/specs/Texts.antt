-- A bridge: the netlist as it is read again, and what the code keeps while it goes over SDF files.
use Rattle.std.specs.Prelude.{ℕ, ◌≡◌, ◌++◌, ◌∷◌, List, [], length}
use Rattle.sdf_read.specs.declared.faults.SdfKind.{SdfKind}
use Rattle.sg_io.specs.Files.{File}
use Rattle.vl_token.specs.Tokens.{Lexeme}
use Rattle.vl_tree.specs.Modules.{source}
use Rattle.vl_tree.specs.Tree.{Source}
use Rattle.fit_changes.specs.Changes.{Change, ChangedText}
use Rattle.fit_sdf.specs.Fitted.{RefusesWith}
use Rattle.fit_sdf.specs.declared.unfit.SdfUnfit.TheVariants as unfit
use Rattle.fit_top.specs.Answer.{AreFittedSdf, IsFittedSdf, TellAllSdf, sdf_fault_line}

-- all tokens spell a tree
abbrev pub HaveTree : List Lexeme → Type 0
HaveTree tokens = (tree : Source) × source.language.Spells tokens 0 tree (length tokens)

-- the faults of SDF files are told; where there is none, the files are fitted by these changes
pub record AreFitted (sdf : List File) (files : List ChangedText) (told : List ℕ) : Type 0 where
  pub tell_all : TellAllSdf sdf told
  pub are_fitted : told ≡ [] → AreFittedSdf sdf files

-- one more was fitted, or its fault was told
pub data AddsSdf (f : File) (files new : List ChangedText) (told more : List ℕ) : Type 0 where
  adds_changes : (changes : List Change) → IsFittedSdf f.bytes changes → new ≡ files ++ record { text = f.bytes; changes = changes } ∷ [] → more ≡ told → AddsSdf f files new told more
  adds_fault : (kind : SdfKind) (number : ℕ) → RefusesWith f.bytes (unfit.Fault kind number) → more ≡ told ++ sdf_fault_line f.name number kind → AddsSdf f files new told more
