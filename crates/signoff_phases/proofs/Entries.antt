-- What the reading in of an SDF file's text, and the applying of its entries, come to as phases.
use Rattle.std.proofs.Common.{◌≡◌, ◌∙◌, ap, refl, ℕ, List, [], ◌∷◌, map}
use Rattle.std.specs.Global.{Vec}
use Rattle.std.specs.Prelude.{Some, Ok, Err}
use Rattle.sg_text.specs.declared.places.Place.{Place}
use Rattle.sg_delay.specs.declared.corners.Corner.{Corner}
use Rattle.sg_circuit.specs.Circuit.{Circuit}
use Rattle.sdf_tree.specs.Meant.{Sdf}
use Rattle.sdf_annotate.specs.Told.{IsAnnotated, told_seen}
use Rattle.sdf_annotate.specs.declared.unmatched.Unmatched as code_unmatched
use Rattle.annotation_model.specs.Annotated.{too_large}
use Rattle.run_report.specs.Report.{Unmatched}
use Rattle.run_report.specs.Reporting.{unmatched_seen}
use Rattle.run_report.specs.Texts.{line_of}
use Rattle.sdf_meaning.specs.MeantSeen.{view_sdf}
use Rattle.sdf_tree.specs.declared.tree.Sdf as code_sdf
use Rattle.sdf_read.specs.Outcomes.{refused}
use Rattle.sdf_read.specs.Reads.{Reads}
use Rattle.sdf_read.specs.declared.faults.SdfKind.{SdfKind}
use Rattle.signoff_phases.specs.Phases.{words, sdf, sdf_kind, too_large_kind, unmatched_at, Annotated, AnnotationOutcome, EntriesOutcome, SdfOutcome, goes_on}
use Rattle.signoff_phases.specs.Stops.{Gives, SparesWords, refusal_seen}
use Rattle.signoff_phases.specs.declared.stop.Refusal as code_refusal
use Rattle.signoff_phases.specs.declared.stop.Refusal.TheVariants as refusal
use Rattle.signoff_phases.specs.declared.stop.Stop.TheVariants as stop

-- the lines of what is told are those of the entries
lines_told : (text : List ℕ) (us : List code_unmatched.Unmatched) → map (unmatched_seen text) us ≡ map (unmatched_at text) (told_seen us)
lines_told text [] = refl
lines_told text (u ∷ us) = ap (λ (l : List Unmatched). unmatched_at text (u.place, u.word) ∷ l) (lines_told text us)

pub applied : (name text : List ℕ) (file : Sdf) (corner : Corner) (old new : Circuit) (us : Vec code_unmatched.Unmatched) → IsAnnotated old file corner new (told_seen us.items)
    → Gives {X = Vec code_unmatched.Unmatched} (λ x. record { circuit = new; unmatched = map (unmatched_seen text) x.items }) (AnnotationOutcome name text file corner old) (Ok us)
applied name text file corner old new us h = record {
  outcome = record {
    fine = h.fine;
    circuit = h.circuit;
    unmatched = lines_told text us.items ∙ ap (map (unmatched_at text)) h.unmatched;
  };
}

-- the same of a text that was read entry by entry
pub read_and_applied : (name text : List ℕ) (file : Sdf) (corner : Corner) (old new : Circuit) (us : Vec code_unmatched.Unmatched) → Reads text (Ok file) → IsAnnotated old file corner new (told_seen us.items)
    → Gives {X = Vec code_unmatched.Unmatched} (λ x. record { circuit = new; unmatched = map (unmatched_seen text) x.items }) (EntriesOutcome name text corner old) (Ok us)
read_and_applied name text file corner old new us read h = record { outcome = goes_on file (Ok (record { circuit = new; unmatched = map (unmatched_seen text) us.items })) read (applied name text file corner old new us h).outcome }

pub refused_entry : (name text : List ℕ) (file : Sdf) (corner : Corner) (old : Circuit) (place : Place) (r : code_refusal.Refusal) (view : Vec code_unmatched.Unmatched → Annotated)
    → too_large old file corner ≡ Some place → refusal_seen r ≡ sdf name (line_of text place.byte) too_large_kind
    → Gives view (AnnotationOutcome name text file corner old) (Err (stop.Refused r))
refused_entry name text file corner old place r view h e = record { outcome = record { place = place; stands = h; told = e } }

pub refused_text : (name text : List ℕ) (kind : SdfKind) (place : Place) (r : code_refusal.Refusal) → Reads text (refused kind place) → refusal_seen r ≡ sdf name (line_of text place.byte) (sdf_kind kind)
    → Gives {X = code_sdf.Sdf} (λ s. view_sdf s) (SdfOutcome name text) (Err (stop.Refused r))
refused_text name text kind place r h e = record { outcome = (record { kind = kind; place = place }, h, e) }

words_or_sdf : (name : List ℕ) (line : ℕ) (kind : List ℕ) → words ≡ sdf name line kind → ⊥
words_or_sdf name line kind e = cc

-- a refusal of the SDF file is none of the words
pub spares : (r : code_refusal.Refusal) (name : List ℕ) (line : ℕ) (kind : List ℕ) → refusal_seen r ≡ sdf name line kind → SparesWords (stop.Refused r)
spares refusal.Words name line kind e = words_or_sdf name line kind e
spares (refusal.Missing n) name line kind e = tt
spares (refusal.Netlist n l k) name line kind e = tt
spares (refusal.Sdf n l f) name line kind e = tt
spares (refusal.Stimulus n l k) name line kind e = tt
spares (refusal.Wave n l k) name line kind e = tt
spares (refusal.Save n l k) name line kind e = tt
spares (refusal.Unwritten k p) name line kind e = tt
