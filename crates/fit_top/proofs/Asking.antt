-- What the words ask for, as the netlist's fitting has it.
use Rattle.std.specs.Prelude.{◌≡◌, ◌==◌, ◌&&◌, ℕ, Bool, true, not, List, Option, [], length, map}
use Rattle.std.proofs.Common.{◌∙◌, subst}
use Rattle.vl_lex.specs.Seen.{texts}
use Rattle.fit_words.specs.Words.{Asked}
use Rattle.fit_changes.specs.Lines.{line_seen}
use Rattle.fit_netlist.specs.Fitted.{IsFitted}
use Rattle.fit_netlist.specs.Stages.{asks_nothing}
use Rattle.fit_netlist.specs.declared.fitting.Fitted as code
use Rattle.fit_text.specs.declared.given.Given as given
use Rattle.fit_items.specs.declared.wishes.Wishes as wishes
use Rattle.fit_inside.specs.Inside.{IsInside}
use Rattle.fit_top.specs.Answer.{IsFittedFor, asks_nothing as asks_for_nothing}

pub asks-same : (g : given.Given) (w : wishes.Wishes) (a : Asked) → length g.defines.now ≡ length a.defines → (length w.supply0.now ≡ length a.supply0) × (length w.supply1.now ≡ length a.supply1)
    → (length w.cut.now ≡ length a.cut) × (length w.drop.now ≡ length a.dropped) × (w.drop_missing ≡ a.drop_missing)
    → (length w.no_checks.now ≡ length a.no_checks) × (length w.no_notifier.now ≡ length a.no_notifier) → asks_nothing g w ≡ asks_for_nothing a
asks-same g w a d s k n = λ i. d i == 0 && (s.0 i == 0 && (s.1 i == 0 && (k.0 i == 0 && (k.1 i == 0 && (not (k.2 i) && (n.0 i == 0 && n.1 i == 0))))))

pub fitted-for : (a : Asked) (read : List (List ℕ)) (f : code.Fitted) (top : Option (List ℕ)) (asks : Bool) → top ≡ a.top → asks ≡ asks_for_nothing a
    → IsFitted top read (texts f.texts.items) (map line_seen f.lines.items) → (asks ≡ true → IsInside read → (texts f.texts.items ≡ read) × (map line_seen f.lines.items ≡ []))
    → IsFittedFor a read (texts f.texts.items) (map line_seen f.lines.items)
fitted-for a read f top asks t e h u = record {
  fitted = subst (λ o. IsFitted o read (texts f.texts.items) (map line_seen f.lines.items)) t h;
  unchanged = λ x. u (e ∙ x.nothing) x.inside;
}
