-- How the program ends on the system's words.
use Rattle.std.proofs.Common.{◌≡◌, ◌∙◌, subst, List}
use Rattle.std.specs.Prelude.{Result, Ok, Err, String, map, string_bytes}
use Rattle.std.specs.Global.{Vec, Global}
use Rattle.std.specs.declared.io.Error.{Error}
use Rattle.sg_io.specs.Put.{SinkTold}
use Rattle.signoff_phases.specs.Given.{Args, WordsOf}
use Rattle.signoff_top.specs.Program.{Ends, on_words}
use Rattle.signoff_top.specs.Promises.{Outcome}
use Rattle.signoff_phases.specs.Telling.{ShelfTold}
use Rattle.signoff_phases.specs.declared.status.Status.{Status}

-- on the words that there are
pub ends_on : (args : Result Args Error) (words : Vec (String Global)) (ws : List (String Global)) (shelf shelf' : ShelfTold) (sink sink' : SinkTold) (how : Status)
    → WordsOf args (Ok words) → ws ≡ words.items → Outcome (map (λ w. string_bytes w) ws) shelf shelf' sink sink' how → Ends args shelf shelf' sink sink' how
ends_on (Ok args) words ws shelf shelf' sink sink' how is e o = on_words how tt (subst (λ l. Outcome (map (λ w. string_bytes w) l) shelf shelf' sink sink' how) (e ∙ is) o)
ends_on (Err r) words ws shelf shelf' sink sink' how is e o = on_words how is.0 (subst (λ l. Outcome (map (λ w. string_bytes w) l) shelf shelf' sink sink' how) (e ∙ is.1) o)
