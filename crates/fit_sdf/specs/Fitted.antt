-- What it is that an SDF file is fitted (IEEE 1497-2001, as `sdf_read` has it).
use Rattle.std.specs.Prelude.{◌≡◌, ◌==◌, ◌+◌, ℕ, List, Ok, count_by, take}
use Rattle.sg_text.specs.declared.places.Place.{Place}
use Rattle.sdf_tree.specs.Meant.{Sdf}
use Rattle.sdf_read.specs.Outcomes.{refused}
use Rattle.sdf_read.specs.Reads.{Reads}
use Rattle.sdf_read.specs.declared.faults.SdfKind.{SdfKind}
use Rattle.fit_changes.specs.Changes.{Change, AreInOrder, changed}
use Rattle.fit_sdf.specs.declared.unfit.SdfUnfit.{SdfUnfit}
use Rattle.fit_sdf.specs.declared.unfit.SdfUnfit.TheVariants as unfit

-- a file's bytes mean something
abbrev pub IsReadable : List ℕ → Type 0
IsReadable text = (sdf : Sdf) × Reads text (Ok sdf)

-- a file has a fault of a kind on a line
pub record IsFault (text : List ℕ) (kind : SdfKind) (line : ℕ) : Type 0 where
  pub place : Place
  pub reads : Reads text (refused kind place)
  pub is_line : line ≡ 1 + count_by (λ b. b == 10) (take place.byte text)

-- a refusal tells a file's fault, or there was no memory
abbrev pub Refuses : List ℕ → SdfUnfit → Type 0
Refuses text (unfit.Fault kind line) = IsFault text kind line
Refuses text unfit.NoMemory = Unit {0}

-- it tells the fault of a file with some changes, which keep its lines
abbrev pub RefusesWith : List ℕ → SdfUnfit → Type 0
RefusesWith text (unfit.Fault kind line) = (cs : List Change) × AreInOrder 0 text cs × IsFault (changed text cs) kind line
RefusesWith text unfit.NoMemory = Unit {0}
