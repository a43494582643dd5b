-- A kind is written by its two parts.
use Rattle.std.proofs.Common.{◌≡◌, ◌++◌, refl}
use Rattle.std.proofs.lemmas.List.{append-nil}
use Rattle.elab_model.specs.declared.kinds.ElabKind.{ElabKind}
use Rattle.elab_model.specs.declared.kinds.ElabKind.TheVariants as elab
use Rattle.netlist_read.specs.Kinds.{Kind, of_text, of_syntax, unsupported, of_block, of_meaning, kind_text, text_name, meaning_name}
use Rattle.netlist_read.specs.Written.{head, tail, meaning_head, meaning_tail}

meaning_written : (k : ElabKind) → meaning_head k ++ meaning_tail k ≡ meaning_name k
meaning_written elab.UnknownModule = refl
meaning_written elab.DuplicateName = refl
meaning_written elab.UnknownName = refl
meaning_written elab.WidthMismatch = refl
meaning_written elab.SecondDriver = refl
meaning_written elab.SelfInstance = refl
meaning_written elab.NoTop = refl
meaning_written elab.SeveralTops = refl
meaning_written elab.SpecifyInHierarchy = refl
meaning_written elab.BadTerminal = refl
meaning_written elab.TooDeep = refl
meaning_written elab.TooMany = refl
meaning_written elab.BadDelay = refl
meaning_written (elab.Udp kind) = refl

pub written : (k : Kind) → head k ++ tail k ≡ kind_text k
written (of_text kind) = append-nil (text_name kind)
written of_syntax = refl
written (unsupported word) = refl
written (of_block kind) = refl
written (of_meaning kind) = meaning_written kind
