-- The text of the calls of a run that goes on is the rest of the run's text.
use Rattle.std.proofs.Common.{◌≡◌, ◌∙◌, sym, ap, refl, subst, ℕ, zero, suc, ◌+◌, ◌-◌, ◌<◌, ◌≤◌, List, [], ◌∷◌, ◌++◌, length, drop, arith, append_assoc}
use Rattle.std.proofs.Math.Seq.{drop-append_seam}
use Rattle.std.proofs.lemmas.List.{append_cancel_left, append-nil}
use Rattle.std.proofs.lemmas.List.Elements.{All-append, All-cons, All-head, All-nil, All-tail}
use Rattle.std.specs.Prelude.{All, Option, Some, None}
use Rattle.sg_logic.specs.declared.values.Value.{Value}
use Rattle.sg_model.specs.Machine.{Snapshot}
use Rattle.sg_model.specs.Time.{Run}
use Rattle.sg_model.specs.Run.{Finished, lasts}
use Rattle.sg_model.specs.Quiet.{IsSeen}
use Rattle.sg_model.proofs.SnapshotLaws.{AreBefore, Extends}
use Rattle.sg_circuit.specs.Circuit.{Circuit}
use Rattle.sim_times.specs.Runs.{Origin, Setting, AllCallsFrom, CallsFrom, HasBegun, run_from, times_to}
use Rattle.sim_times.specs.Watching.{AreCalls, none_yet, at_zero, same_again, AreTruthful, Call, end_call}
use Rattle.sim_times.specs.Watching as watching
use Rattle.wave_out.specs.Laws.{CallsGoOn, GoesOnFrom}
use Rattle.wave_out.specs.Scopes.{variables_of}
use Rattle.wave_out.specs.Vcd.{first_block, header, vcd_body, vcd_rest, vcd_text}
use Rattle.wave_out.specs.Writing.{text_after, text_behind}
use Rattle.wave_out.proofs.RunLaws.{IsLong, extends, extends_from, long_lasts, long_times, seen_times, spent_run}
use Rattle.wave_out.proofs.DumpLaws.{begun_calls, spent_calls, whole_calls}
use Rattle.wave_out.proofs.BehindLaws.{behind}

-- a run that has one snapshot has its values, and goes on later
record HasOne (from : ℕ) (r : Run) (last : Snapshot) : Type 0 where
  seen : IsSeen r
  values : r.state.values ≡ last.values
  earlier : last.time < from

has_one : (from : ℕ) (first : List Value) (r : Run) (last : Snapshot) → HasBegun from first r → r.snapshots ≡ last ∷ [] → HasOne from r last
has_one zero first r last h e = absurd (let no : [] ≡ last ∷ [] = sym h.0 ∙ e in cc)
has_one (suc now) first r last h e =
    let same : record { time = h.0.last; values = r.state.values } ∷ h.0.older ≡ last ∷ [] = sym h.0.is ∙ e in
    let is : record { time = h.0.last; values = r.state.values } ≡ last = cc in
    let at : h.0.last ≡ last.time = ap (λ (s : Snapshot). s.time) is in
    let l : h.0.last ≤ now = h.1 in
    record { seen = h.0; values = ap (λ (s : Snapshot). s.values) is; earlier = omega arith }

-- the calls of snapshots behind the first are as late as those
record AreSince (time : ℕ) (calls : List Call) : Type 0 where
  one : Call
  more : List Call
  is : calls ≡ one ∷ more
  later : All (λ c. time < c.time) more

one_since : (time : ℕ) (calls : List Call) (c : Call) → time < c.time → AreSince time calls → AreSince time (calls ++ c ∷ [])
one_since time calls c l h = record {
  one = h.one;
  more = h.more ++ c ∷ [];
  is = ap (λ cs. cs ++ c ∷ []) h.is;
  later = All-append (λ x. time < x.time) h.more (c ∷ []) h.later (All-cons (λ (x : Call). time < x.time) c [] l (All-nil (λ (x : Call). time < x.time)));
}

no_more : (s t last : Snapshot) (older : List Snapshot) → s ∷ t ∷ older ≡ last ∷ [] → ⊥
no_more s t last older e = cc

none_seen : (later : List Snapshot) (last : Snapshot) → [] ≡ later ++ last ∷ [] → ⊥
none_seen [] last e = cc
none_seen (s ∷ later) last e = cc

calls_since : (first : List Value) (time : ℕ) (last : Snapshot) (later seen : List Snapshot) (calls : List Call) → seen ≡ later ++ last ∷ [] → All (λ s. suc time ≤ s.time) later → AreCalls first seen calls → AreSince time calls
calls_since first time last later seen calls e l none_yet = absurd (none_seen later last e)
calls_since first time last later seen calls e l (at_zero s c is) = record { one = c; more = []; is = refl; later = All-nil (λ (x : Call). time < x.time) }
calls_since first time last [] seen calls e l (same_again s t older cs same more) = absurd (no_more s t last older e)
calls_since first time last (x ∷ later) seen calls e l (same_again s t older cs same more) =
    calls_since first time last later (t ∷ older) cs (let rest : t ∷ older ≡ later ++ last ∷ [] = cc in rest) (All-tail (λ (y : Snapshot). suc time ≤ y.time) x later l) more
calls_since first time last [] seen calls e l (watching.one_more s t older cs c differ more is) = absurd (no_more s t last older e)
calls_since first time last (x ∷ later) seen calls e l (watching.one_more s t older cs c differ more is) =
    let rest : t ∷ older ≡ later ++ last ∷ [] = cc in
    let same : s ≡ x = cc in
    let g : suc time ≤ x.time = All-head (λ (y : Snapshot). suc time ≤ y.time) x later l in
    let at : c.time ≡ x.time = is.time ∙ ap (λ (y : Snapshot). y.time) same in
    one_since time cs c (omega arith) (calls_since first time last later (t ∷ older) cs rest (All-tail (λ (y : Snapshot). suc time ≤ y.time) x later l) more)

behind_one : (time : ℕ) (c : Call) (told made : List Call) → told ≡ c ∷ [] → AreSince time (told ++ made) → All (λ x. time < x.time) made
behind_one time c told made e h =
    let same : c ∷ made ≡ h.one ∷ h.more = ap (λ cs. cs ++ made) (sym e) ∙ h.is in
    let rest : made ≡ h.more = cc in
    subst (All (λ (x : Call). time < x.time)) (sym rest) h.later

-- what is known of a run that goes on
record IsOnward (s : Setting) (o : Origin) (last : Snapshot) : Type 0 where
  has_one : HasOne o.from o.run last
  long : IsLong (length last.values) o.run
  before : AreBefore o.run.snapshots o.from

onward : (s : Setting) (o : Origin) (last : Snapshot) → GoesOnFrom s o last → IsOnward s o last
onward s o last g =
    let one = has_one o.from o.first o.run last g.origin.begun g.snapshots in
    record {
      has_one = one;
      long = record {
        values = ap length one.values;
        snapshots = subst (All (λ (x : Snapshot). length x.values ≡ length last.values)) (sym g.snapshots) (All-cons (λ (x : Snapshot). length x.values ≡ length last.values) last [] refl (All-nil (λ (x : Snapshot). length x.values ≡ length last.values)));
      };
      before = subst (λ ss. AreBefore ss o.from) (sym g.snapshots) one.earlier;
    }

lasts_long : (s : Setting) (o : Origin) (last : Snapshot) (n : ℕ) → IsOnward s o last → All (λ x. length x.values ≡ length last.values) (lasts (run_from s o n).run.snapshots)
lasts_long s o last n h = long_lasts (length last.values) (run_from s o n).run.snapshots (long_times (length last.values) n s.bound s.machine s.sets o.from o.run h.long).snapshots

-- the calls of its times are later
made_later : (s : Setting) (o : Origin) (last : Snapshot) (n : ℕ) (made : List Call) → GoesOnFrom s o last → IsOnward s o last → CallsFrom s o n made → All (λ c. last.time < c.time) made
made_later s o last n made g h are =
    let more = extends_from (suc last.time) n s.bound s.machine s.sets o.from o.run h.has_one.earlier h.before in
    behind_one last.time (end_call last.time last.values) o.told made g.told
    (calls_since o.first last.time last more.later (lasts (run_from s o n).run.snapshots) (o.told ++ made) (more.is ∙ ap (λ ss. more.later ++ lasts ss) g.snapshots) more.from are)

-- their text behind the first block
rest_one : (circuit : Circuit) (end : ℕ) (last : Snapshot) (f : Finished) (made : List Call) (rest : List ℕ) → vcd_text circuit end f ≡ text_after circuit (end_call last.time last.values ∷ made) ++ rest
    → vcd_rest circuit end last f ≡ text_behind circuit (end_call last.time last.values ∷ []) (end_call last.time last.values ∷ made) ++ rest
unfolding vcd_text
rest_one circuit end last f made rest is =
    let head = header circuit in
    let block = first_block (variables_of circuit) last in
    let body = vcd_body (variables_of circuit) end f in
    let b = behind circuit (end_call last.time last.values) made in
    let whole : head ++ body ≡ head ++ (block ++ (b.rest ++ rest)) =
    is
    ∙ (ap (λ t. t ++ rest) b.whole
    ∙ (append_assoc (head ++ block) b.rest rest
    ∙ append_assoc head block (b.rest ++ rest))) in
    ap (drop (length block)) (append_cancel_left head body (block ++ (b.rest ++ rest)) whole)
    ∙ (drop-append_seam block (b.rest ++ rest)
    ∙ ap (λ t. t ++ rest) (sym b.is))

rest_text : (circuit : Circuit) (end : ℕ) (last : Snapshot) (f : Finished) (told made : List Call) (rest : List ℕ) → told ≡ end_call last.time last.values ∷ [] → vcd_text circuit end f ≡ text_after circuit (told ++ made) ++ rest
    → vcd_rest circuit end last f ≡ text_behind circuit told (told ++ made) ++ rest
rest_text circuit end last f told made rest e is =
    subst (λ cs. vcd_rest circuit end last f ≡ text_behind circuit cs (cs ++ made) ++ rest) (sym e)
    (rest_one circuit end last f made rest (subst (λ cs. vcd_text circuit end f ≡ text_after circuit (cs ++ made) ++ rest) e is))

whole_text : (circuit : Circuit) (end : ℕ) (last : Snapshot) (f : Finished) (told made : List Call) → told ≡ end_call last.time last.values ∷ [] → text_after circuit (told ++ made) ≡ vcd_text circuit end f
    → text_behind circuit told (told ++ made) ≡ vcd_rest circuit end last f
whole_text circuit end last f told made e is =
    sym (rest_text circuit end last f told made [] e (sym is ∙ sym (append-nil (text_after circuit (told ++ made)))) ∙ append-nil (text_behind circuit told (told ++ made)))

-- a whole run
pub whole_rest : (circuit : Circuit) (s : Setting) (o : Origin) (last : Snapshot) (made : List Call) → GoesOnFrom s o last → (run_from s o o.left).spent ≡ None → AllCallsFrom s o made
    → CallsGoOn o last made × (text_behind circuit o.told (o.told ++ made) ≡ vcd_rest circuit s.end last (run_from s o o.left))
whole_rest circuit s o last made g none all =
    let h = onward s o last g in
    let f = run_from s o o.left in
    let end = end_call s.end f.run.state.values in
    let is : o.told ++ made ≡ o.told ++ all.calls ++ end ∷ [] = ap (λ cs. o.told ++ cs) all.all ∙ sym (append_assoc o.told all.calls (end ∷ [])) in
    let seen = seen_times o.left s.bound s.machine s.sets o.from o.run h.has_one.seen none in
    let w = whole_calls circuit (length last.values) s.end o.first f (o.told ++ all.calls) (o.told ++ made) seen (lasts_long s o last o.left h) none all.are is in
    let later = All-append (λ (c : Call). last.time < c.time) all.calls (end ∷ []) (made_later s o last o.left all.calls g h all.are) (All-cons (λ (c : Call). last.time < c.time) end [] g.earlier (All-nil (λ (c : Call). last.time < c.time))) in (
      record { truthful = w.0; later = subst (All (λ (c : Call). last.time < c.time)) (sym all.all) later },
      whole_text circuit s.end last f o.told made g.told w.1,
    )

-- one that is spent
times_made : (from times time : ℕ) → time ≡ from + times → times_to from time ≡ times
times_made zero times time e = let same : time ≡ times = omega (arith, e) in same
times_made (suc from) times time e = let same : time - suc from ≡ times = omega (arith, e) in same

pub spent_rest : (circuit : Circuit) (s : Setting) (o : Origin) (last : Snapshot) (spent : ℕ × Option ℕ) (made : List Call) → GoesOnFrom s o last → (run_from s o o.left).spent ≡ Some spent → CallsFrom s o (times_to o.from spent.0) made
    → CallsGoOn o last made × (text_behind circuit o.told (o.told ++ made) ≡ vcd_rest circuit s.end last (run_from s o o.left))
spent_rest circuit s o last spent made g some are =
    let h = onward s o last g in
    let f = run_from s o o.left in
    let cut = spent_run o.left s.bound s.machine s.sets o.from o.run spent some in
    let run : (run_from s o (times_to o.from spent.0)).run ≡ f.run = ap (λ n. (run_from s o n).run) (times_made o.from cut.times spent.0 cut.at) ∙ sym cut.is in
    let w = spent_calls circuit (length last.values) s.end o.first f spent (o.told ++ made) (lasts_long s o last o.left h) some (subst (λ (r : Run). AreCalls o.first (lasts r.snapshots) (o.told ++ made)) run are) in (
      record { truthful = w.0; later = made_later s o last (times_to o.from spent.0) made g h are },
      whole_text circuit s.end last f o.told made g.told w.1,
    )

-- the next times of a run
pub next_times : (circuit : Circuit) (s : Setting) (o : Origin) (last : Snapshot) (n : ℕ) (made : List Call) → GoesOnFrom s o last → n ≤ o.left → (run_from s o n).spent ≡ None → CallsFrom s o n made
    → CallsGoOn o last made × ((rest : List ℕ) × (vcd_rest circuit s.end last (run_from s o o.left) ≡ text_behind circuit o.told (o.told ++ made) ++ rest))
next_times circuit s o last n made g l none are =
    let h = onward s o last g in
    let f = run_from s o o.left in
    let k : ℕ = o.left - n in
    let e : n + k ≡ o.left = omega arith in
    let more : Extends (lasts f.run.snapshots) (lasts (run_from s o n).run.snapshots) =
    subst (λ j. Extends (lasts (run_from s o j).run.snapshots) (lasts (run_from s o n).run.snapshots)) e (extends n k s.bound s.machine s.sets o.from o.run h.before none) in
    let w = begun_calls circuit (length last.values) s.end o.first f (lasts (run_from s o n).run.snapshots) (o.told ++ made) (lasts_long s o last n h) more are in (
      record { truthful = w.0; later = made_later s o last n made g h are },
      (w.1.0, rest_text circuit s.end last f o.told made w.1.0 g.told w.1.1),
    )
