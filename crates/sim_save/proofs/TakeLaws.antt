-- What is taken from a text, and what can't be.
use Rattle.std.proofs.Common.{◌≡◌, ℕ, ℤ, List, [], ◌∷◌, ◌++◌, take, drop, refl, sym, ◌∙◌, ap, subst, arith}
use Rattle.std.specs.Prelude.{codes, decimal}
use Rattle.std.specs.Fmt.{signed_decimal}
use Rattle.std.specs.List.{position_or_len}
use Rattle.std.specs.declared.option.Option.{Option}
use Rattle.std.specs.declared.option.Option.TheVariants.{Some, None}
use Rattle.std.proofs.lemmas.List.{append_assoc, append_cancel_left, take-append-drop}
use Rattle.sg_logic.specs.declared.values.Value.{Value}
use Rattle.sg_model.specs.Machine.{Stamp}
use Rattle.time_checks.specs.declared.latest.Latest.{Latest}
use Rattle.sim_rounds.specs.Moments.{Pending}
use Rattle.wave_out.specs.Vcd.{value_letter}
use Rattle.sim_save.specs.Breaks.{EndsWord, IsWord, event_text, is_break}
use Rattle.sim_save.specs.Faults.{IsPower, IsTime}
use Rattle.sim_save.specs.Lines.{change_words, check_line, event_word, letter, net_line, number, pending_line, udp_line, word}
use Rattle.sim_save.specs.Steps.{AreCounts, Counts, IsChange, IsCheck, IsCounters, IsHead, IsLatest, IsNet, IsPending, IsTransition, IsUdp, counters_line, counts_line}
use Rattle.sim_save.specs.Taking.{Is32, Is64, IsOfForm, IsTaken, NoLine, NoneOfForm, NoneTaken, NotBehind}
use Rattle.sim_save.proofs.StepLaws.{counts_right}
use Rattle.sim_save.proofs.WordLaws.{behind_ends, decimal_is_word, event_apart, event_ends, event_is, event_is_word, front_is_word, letter_apart, letter_is_word, number_apart, power_apart, signed_is_word, word_apart}

-- ---- words

pub word_cut : (text words a r : List ℕ) (n : ℕ) → text ≡ (32 ∷ []) ++ words → n ≡ position_or_len is_break words → a ≡ take n words → r ≡ drop n words → IsTaken IsWord word text a r
word_cut text words a r n whole at front behind =
    let w : IsWord a = subst IsWord (sym (front ∙ ap (λ k. take k words) at)) (front_is_word words) in
    let e : EndsWord r = subst EndsWord (sym (behind ∙ ap (λ k. drop k words) at)) (behind_ends words) in
    let same : words ≡ a ++ r = sym (take-append-drop n words) ∙ (ap (λ t. t ++ drop n words) (sym front) ∙ ap (λ t. a ++ t) (sym behind)) in
    (w, whole ∙ ap (λ t. 32 ∷ t) same, e)

none_front : {A : Type 0} (fit : A → Type 0) (form : A → List ℕ) (text : List ℕ) → NotBehind (32 ∷ []) text → NoneTaken fit (λ x. word (form x)) text
none_front fit form text h x rest f ends e = h (form x ++ rest) e

none_word : {A : Type 0} (fit : A → Type 0) (form : A → List ℕ) → ((x : A) → IsWord (form x)) → (text a r : List ℕ) → IsTaken IsWord word text a r → NoneOfForm fit form a → NoneTaken fit (λ x. word (form x)) text
none_word fit form are text a r t h x rest f ends e = h x f (word_apart a r (form x) rest t.0 (are x) t.2 ends (sym t.1 ∙ e)).0

word_read : {A : Type 0} (fit : A → Type 0) (form : A → List ℕ) (text a r : List ℕ) (x : A) → IsTaken IsWord word text a r → IsOfForm fit form a x → IsTaken fit (λ y. word (form y)) text x r
word_read fit form text a r x t d = (d.0, t.1 ∙ ap (λ w. word w ++ r) d.1, t.2)

pub no_number_front : (text : List ℕ) → NotBehind (32 ∷ []) text → NoneTaken Is64 number text
no_number_front text h = none_front Is64 decimal text h

pub no_number_word : (text a r : List ℕ) → IsTaken IsWord word text a r → NoneOfForm Is64 decimal a → NoneTaken Is64 number text
no_number_word text a r t h = none_word Is64 decimal decimal_is_word text a r t h

pub number_taken : (text a r : List ℕ) (n : ℕ) → IsTaken IsWord word text a r → IsOfForm Is64 decimal a n → IsTaken Is64 number text n r
number_taken text a r n t h = word_read Is64 decimal text a r n t h

pub no_count_front : (text : List ℕ) → NotBehind (32 ∷ []) text → NoneTaken Is32 number text
no_count_front text h = none_front Is32 decimal text h

pub no_count_word : (text a r : List ℕ) → IsTaken IsWord word text a r → NoneOfForm Is32 decimal a → NoneTaken Is32 number text
no_count_word text a r t h = none_word Is32 decimal decimal_is_word text a r t h

pub count_taken : (text a r : List ℕ) (n : ℕ) → IsTaken IsWord word text a r → IsOfForm Is32 decimal a n → IsTaken Is32 number text n r
count_taken text a r n t h = word_read Is32 decimal text a r n t h

pub no_power_front : (text : List ℕ) → NotBehind (32 ∷ []) text → NoneTaken IsPower (λ z. word (signed_decimal z)) text
no_power_front text h = none_front IsPower signed_decimal text h

pub no_power_word : (text a r : List ℕ) → IsTaken IsWord word text a r → NoneOfForm IsPower signed_decimal a → NoneTaken IsPower (λ z. word (signed_decimal z)) text
no_power_word text a r t h = none_word IsPower signed_decimal signed_is_word text a r t h

pub power_taken : (text a r : List ℕ) (z : ℤ) → IsTaken IsWord word text a r → IsOfForm IsPower signed_decimal a z → IsTaken IsPower (λ y. word (signed_decimal y)) text z r
power_taken text a r z t h = word_read IsPower signed_decimal text a r z t h

pub no_letter_front : (text : List ℕ) → NotBehind (32 ∷ []) text → NoneTaken (λ v. Unit {0}) letter text
no_letter_front text h = none_front (λ v. Unit {0}) (λ v. value_letter v ∷ []) text h

pub no_letter_word : (text a r : List ℕ) → IsTaken IsWord word text a r → NoneOfForm (λ v. Unit {0}) (λ v. value_letter v ∷ []) a → NoneTaken (λ v. Unit {0}) letter text
no_letter_word text a r t h = none_word (λ v. Unit {0}) (λ v. value_letter v ∷ []) letter_is_word text a r t h

pub letter_taken : (text a r : List ℕ) (v : Value) → IsTaken IsWord word text a r → IsOfForm (λ w. Unit {0}) (λ w. value_letter w ∷ []) a v → IsTaken (λ w. Unit {0}) letter text v r
letter_taken text a r v t h = word_read (λ w. Unit {0}) (λ w. value_letter w ∷ []) text a r v t h

pub no_event_front : (text : List ℕ) → NotBehind (32 ∷ []) text → NoneTaken IsTime event_word text
no_event_front text h e rest fit ends same = h (event_text e ++ rest) (same ∙ ap (λ t. t ++ rest) (event_is e))

pub no_event_word : (text a r : List ℕ) → IsTaken IsWord word text a r → NoneOfForm IsTime event_text a → NoneTaken IsTime event_word text
no_event_word text a r t h e rest fit ends same =
    none_word IsTime event_text event_is_word text a r t h e rest fit ends (same ∙ ap (λ w. w ++ rest) (event_is e))

pub event_taken : (text a r : List ℕ) (e : Option ℕ) → IsTaken IsWord word text a r → IsOfForm IsTime event_text a e → IsTaken IsTime event_word text e r
event_taken text a r e t h =
    let taken = word_read IsTime event_text text a r e t h in
    (taken.0, taken.1 ∙ ap (λ w. w ++ r) (sym (event_is e)), taken.2)

-- ---- what follows a word is told by the text

number_next : (text : List ℕ) (x : ℕ) (rest : List ℕ) → IsTaken Is64 number text x rest → (y : ℕ) (other : List ℕ) → Is64 y → EndsWord other → text ≡ number y ++ other → rest ≡ other
number_next text x rest t y other fit ends e = (number_apart x y rest other t.0 fit t.2 ends (sym t.1 ∙ e)).1

count_next : (text : List ℕ) (x : ℕ) (rest : List ℕ) → IsTaken Is32 number text x rest → (y : ℕ) (other : List ℕ) → Is32 y → EndsWord other → text ≡ number y ++ other → rest ≡ other
count_next text x rest t y other fit ends e = (number_apart x y rest other (omega (arith, t.0)) (omega (arith, fit)) t.2 ends (sym t.1 ∙ e)).1

power_next : (text : List ℕ) (x : ℤ) (rest : List ℕ) → IsTaken IsPower (λ z. word (signed_decimal z)) text x rest → (y : ℤ) (other : List ℕ) → IsPower y → EndsWord other → text ≡ word (signed_decimal y) ++ other → rest ≡ other
power_next text x rest t y other fit ends e = (power_apart x y rest other t.0 fit t.2 ends (sym t.1 ∙ e)).1

letter_next : (text : List ℕ) (x : Value) (rest : List ℕ) → IsTaken (λ v. Unit {0}) letter text x rest → (y : Value) (other : List ℕ) → text ≡ letter y ++ other → (x ≡ y) × (rest ≡ other)
letter_next text x rest t y other e = letter_apart x y rest other (sym t.1 ∙ e)

event_next : (text : List ℕ) (x : Option ℕ) (rest : List ℕ) → IsTaken IsTime event_word text x rest → (y : Option ℕ) (other : List ℕ) → IsTime y → EndsWord other → text ≡ event_word y ++ other → rest ≡ other
event_next text x rest t y other fit ends e = (event_apart x y rest other t.0 fit t.2 ends (sym t.1 ∙ e)).1

-- ---- the end of a head

abbrev sizes_text : (nets elements udps checks : ℕ) → List ℕ → List ℕ
sizes_text nets elements udps checks more = number nets ++ (number elements ++ (number udps ++ (number checks ++ 10 ∷ more)))

abbrev NoSizes : List ℕ → Type 0
NoSizes text = (n e u k : ℕ) (more : List ℕ) → Is32 n → Is32 e → Is32 u → Is32 k → text ≡ sizes_text n e u k more → ⊥

pub no_nets : (text : List ℕ) → NoneTaken Is32 number text → NoSizes text
no_nets text h n' e' u' k' more hn he hu hk same = h n' (number e' ++ (number u' ++ (number k' ++ 10 ∷ more))) hn refl same

pub no_elements : (text : List ℕ) (n : ℕ) (a : List ℕ) → IsTaken Is32 number text n a → NoneTaken Is32 number a → NoSizes text
no_elements text n a t h n' e' u' k' more hn he hu hk same =
    h e' (number u' ++ (number k' ++ 10 ∷ more)) he refl (count_next text n a t n' (number e' ++ (number u' ++ (number k' ++ 10 ∷ more))) hn refl same)

pub no_udps : (text : List ℕ) (n : ℕ) (a : List ℕ) (e : ℕ) (b : List ℕ) → IsTaken Is32 number text n a → IsTaken Is32 number a e b → NoneTaken Is32 number b → NoSizes text
no_udps text n a e b t s h n' e' u' k' more hn he hu hk same =
    let p = count_next text n a t n' (number e' ++ (number u' ++ (number k' ++ 10 ∷ more))) hn refl same in
    h u' (number k' ++ 10 ∷ more) hu refl (count_next a e b s e' (number u' ++ (number k' ++ 10 ∷ more)) he refl p)

pub no_checks : (text : List ℕ) (n : ℕ) (a : List ℕ) (e : ℕ) (b : List ℕ) (u : ℕ) (c : List ℕ) → IsTaken Is32 number text n a → IsTaken Is32 number a e b → IsTaken Is32 number b u c → NoneTaken Is32 number c → NoSizes text
no_checks text n a e b u c t s r h n' e' u' k' more hn he hu hk same =
    let p = count_next text n a t n' (number e' ++ (number u' ++ (number k' ++ 10 ∷ more))) hn refl same in
    let q = count_next a e b s e' (number u' ++ (number k' ++ 10 ∷ more)) he refl p in
    h k' (10 ∷ more) hk refl (count_next b u c r u' (number k' ++ 10 ∷ more) hu refl q)

pub no_sizes_end : (text : List ℕ) (n : ℕ) (a : List ℕ) (e : ℕ) (b : List ℕ) (u : ℕ) (c : List ℕ) (k : ℕ) (d : List ℕ) → IsTaken Is32 number text n a → IsTaken Is32 number a e b → IsTaken Is32 number b u c → IsTaken Is32 number c k d → NotBehind (10 ∷ []) d → NoSizes text
no_sizes_end text n a e b u c k d t s r v h n' e' u' k' more hn he hu hk same =
    let p = count_next text n a t n' (number e' ++ (number u' ++ (number k' ++ 10 ∷ more))) hn refl same in
    let q = count_next a e b s e' (number u' ++ (number k' ++ 10 ∷ more)) he refl p in
    let o = count_next b u c r u' (number k' ++ 10 ∷ more) hu refl q in
    h more (count_next c k d v k' (10 ∷ more) hk refl o)

pub sizes_taken : (text : List ℕ) (n : ℕ) (a : List ℕ) (e : ℕ) (b : List ℕ) (u : ℕ) (c : List ℕ) (k : ℕ) (d rest : List ℕ) → IsTaken Is32 number text n a → IsTaken Is32 number a e b → IsTaken Is32 number b u c → IsTaken Is32 number c k d → d ≡ (10 ∷ []) ++ rest → (Is32 n × Is32 e × Is32 u × Is32 k) × (text ≡ sizes_text n e u k rest)
sizes_taken text n a e b u c k d rest t s r v h = (
  (t.0, s.0, r.0, v.0),
  t.1 ∙ ap (λ w. number n ++ w) (s.1 ∙ ap (λ w. number e ++ w) (r.1 ∙ ap (λ w. number u ++ w) (v.1 ∙ ap (λ w. number k ++ w) h))),
)

-- ---- a head

head_whole : (text line more : List ℕ) → text ≡ line ++ more → (k : IsHead line) → text ≡ codes "save" ++ (number k.counts.time ++ (word (signed_decimal k.counts.tick) ++ sizes_text k.counts.nets k.counts.elements k.counts.udps k.counts.checks more))
head_whole text line more e k = e ∙ (ap (λ t. t ++ more) k.is ∙ counts_right k.counts more)

pub no_head : (text : List ℕ) → NotBehind (codes "save") text → NoLine IsHead text
no_head text h line more e k = h _ (head_whole text line more e k)

-- what stands behind the first word
behind_save : (text a line more : List ℕ) → text ≡ codes "save" ++ a → text ≡ line ++ more → (k : IsHead line) → a ≡ number k.counts.time ++ (word (signed_decimal k.counts.tick) ++ sizes_text k.counts.nets k.counts.elements k.counts.udps k.counts.checks more)
behind_save text a line more f e k =
    append_cancel_left (codes "save") a (number k.counts.time ++ (word (signed_decimal k.counts.tick) ++ sizes_text k.counts.nets k.counts.elements k.counts.udps k.counts.checks more)) (sym f ∙ head_whole text line more e k)

behind_time : (text a : List ℕ) (t : ℕ) (b line more : List ℕ) → text ≡ codes "save" ++ a → IsTaken Is64 number a t b → text ≡ line ++ more → (k : IsHead line) → b ≡ word (signed_decimal k.counts.tick) ++ sizes_text k.counts.nets k.counts.elements k.counts.udps k.counts.checks more
behind_time text a t b line more f s e k =
    number_next a t b s k.counts.time (word (signed_decimal k.counts.tick) ++ sizes_text k.counts.nets k.counts.elements k.counts.udps k.counts.checks more) k.fit.time refl (behind_save text a line more f e k)

pub no_head_time : (text a : List ℕ) → text ≡ codes "save" ++ a → NoneTaken Is64 number a → NoLine IsHead text
no_head_time text a f h line more e k =
    h k.counts.time (word (signed_decimal k.counts.tick) ++ sizes_text k.counts.nets k.counts.elements k.counts.udps k.counts.checks more) k.fit.time refl (behind_save text a line more f e k)

pub no_head_tick : (text a : List ℕ) (t : ℕ) (b : List ℕ) → text ≡ codes "save" ++ a → IsTaken Is64 number a t b → NoneTaken IsPower (λ z. word (signed_decimal z)) b → NoLine IsHead text
no_head_tick text a t b f s h line more e k =
    h k.counts.tick (sizes_text k.counts.nets k.counts.elements k.counts.udps k.counts.checks more) k.fit.tick refl (behind_time text a t b line more f s e k)

pub no_head_sizes : (text a : List ℕ) (t : ℕ) (b : List ℕ) (z : ℤ) (c : List ℕ) → text ≡ codes "save" ++ a → IsTaken Is64 number a t b → IsTaken IsPower (λ y. word (signed_decimal y)) b z c → NoSizes c → NoLine IsHead text
no_head_sizes text a t b z c f s r h line more e k =
    h k.counts.nets k.counts.elements k.counts.udps k.counts.checks more k.fit.nets k.fit.elements k.fit.udps k.fit.checks
    (power_next b z c r k.counts.tick (sizes_text k.counts.nets k.counts.elements k.counts.udps k.counts.checks more) k.fit.tick refl (behind_time text a t b line more f s e k))

pub head_taken : (h : Counts) (text a b c rest : List ℕ) → Is32 h.nets → Is32 h.elements → Is32 h.udps → Is32 h.checks → text ≡ codes "save" ++ a → IsTaken Is64 number a h.time b → IsTaken IsPower (λ y. word (signed_decimal y)) b h.tick c
    → c ≡ sizes_text h.nets h.elements h.udps h.checks rest → AreCounts h × (text ≡ counts_line h ++ rest)
head_taken h text a b c rest hn he hu hk f s r e = (
  record { time = s.0; tick = r.0; nets = hn; elements = he; udps = hu; checks = hk },
  f ∙ (ap (λ w. codes "save" ++ w) (s.1 ∙ ap (λ w. number h.time ++ w) (r.1 ∙ ap (λ w. word (signed_decimal h.tick) ++ w) e)) ∙ sym (counts_right h rest)),
)

-- ---- a net

two_on : (s a b more : List ℕ) → ((s ++ a ++ b) ++ 10 ∷ []) ++ more ≡ s ++ (a ++ (b ++ 10 ∷ more))
two_on s a b more = simp append_assoc

three_on : (s a b c more : List ℕ) → ((s ++ a ++ b ++ c) ++ 10 ∷ []) ++ more ≡ s ++ (a ++ (b ++ (c ++ 10 ∷ more)))
three_on s a b c more = simp append_assoc

change_ends : (s : Option Stamp) (more : List ℕ) → EndsWord (change_words s ++ 10 ∷ more)
change_ends None more = refl
change_ends (Some s) more = refl

net_whole : (text line more : List ℕ) → text ≡ line ++ more → (k : IsNet line) → text ≡ codes "n" ++ (letter k.value ++ (change_words k.change ++ 10 ∷ more))
net_whole text line more e k = e ∙ (ap (λ t. t ++ more) k.is ∙ two_on (codes "n") (letter k.value) (change_words k.change) more)

behind_n : (text a line more : List ℕ) → text ≡ codes "n" ++ a → text ≡ line ++ more → (k : IsNet line) → a ≡ letter k.value ++ (change_words k.change ++ 10 ∷ more)
behind_n text a line more f e k = append_cancel_left (codes "n") a (letter k.value ++ (change_words k.change ++ 10 ∷ more)) (sym f ∙ net_whole text line more e k)

pub no_net : (text : List ℕ) → NotBehind (codes "n") text → NoLine IsNet text
no_net text h line more e k = h _ (net_whole text line more e k)

pub no_net_value : (text a : List ℕ) → text ≡ codes "n" ++ a → NoneTaken (λ v. Unit {0}) letter a → NoLine IsNet text
no_net_value text a f h line more e k = h k.value (change_words k.change ++ 10 ∷ more) tt (change_ends k.change more) (behind_n text a line more f e k)

abbrev NoChange : Value → List ℕ → Type 0
NoChange after text = (s : Option Stamp) (more : List ℕ) → IsChange after s → text ≡ change_words s ++ 10 ∷ more → ⊥

same_value_change : (v w : Value) (s : Option Stamp) → v ≡ w → IsChange w s → IsChange v s
same_value_change v w None e h = tt
same_value_change v w (Some s) e h = (h.0, h.1 ∙ sym e)

pub no_net_change : (text a : List ℕ) (v : Value) (b : List ℕ) → text ≡ codes "n" ++ a → IsTaken (λ w. Unit {0}) letter a v b → NoChange v b → NoLine IsNet text
no_net_change text a v b f t h line more e k =
    let p = letter_next a v b t k.value (change_words k.change ++ 10 ∷ more) (behind_n text a line more f e k) in
    h k.change more (same_value_change v k.value k.change p.0 k.fit) p.1

pub net_taken : (text a : List ℕ) (v : Value) (b : List ℕ) (s : Option Stamp) (rest : List ℕ) → text ≡ codes "n" ++ a → IsTaken (λ w. Unit {0}) letter a v b → IsChange v s × (b ≡ change_words s ++ 10 ∷ rest) → IsChange v s × (text ≡ net_line v s ++ rest)
net_taken text a v b s rest f t h = (h.0, f ∙ (ap (λ w. codes "n" ++ w) (t.1 ∙ ap (λ w. letter v ++ w) h.1) ∙ sym (two_on (codes "n") (letter v) (change_words s) rest)))

-- the rest of its line
no_change : (after : Value) (text : List ℕ) → NotBehind (10 ∷ []) text → ((t : ℕ) (b : Value) (more : List ℕ) → Is64 t → text ≡ number t ++ (letter b ++ 10 ∷ more) → ⊥) → NoChange after text
no_change after text h k None more f e = h more e
no_change after text h k (Some s) more f e = k s.time s.before more f.0 (e ∙ append_assoc (number s.time) (letter s.before) (10 ∷ more))

pub no_change_time : (after : Value) (text : List ℕ) → NotBehind (10 ∷ []) text → NoneTaken Is64 number text → NoChange after text
no_change_time after text h k = no_change after text h (λ t b more f e. k t (letter b ++ 10 ∷ more) f refl e)

pub no_change_before : (after : Value) (text : List ℕ) (n : ℕ) (a : List ℕ) → NotBehind (10 ∷ []) text → IsTaken Is64 number text n a → NoneTaken (λ v. Unit {0}) letter a → NoChange after text
no_change_before after text n a h s k = no_change after text h (λ t b more f e. k b (10 ∷ more) tt refl (number_next text n a s t (letter b ++ 10 ∷ more) f refl e))

pub no_change_end : (after : Value) (text : List ℕ) (n : ℕ) (a : List ℕ) (v : Value) (c : List ℕ) → NotBehind (10 ∷ []) text → IsTaken Is64 number text n a → IsTaken (λ w. Unit {0}) letter a v c → NotBehind (10 ∷ []) c → NoChange after text
no_change_end after text n a v c h s r k = no_change after text h (λ t b more f e. k more (letter_next a v c r b (10 ∷ more) (number_next text n a s t (letter b ++ 10 ∷ more) f refl e)).1)

pub change_taken : (s : Stamp) (text a c rest : List ℕ) → IsTaken Is64 number text s.time a → IsTaken (λ w. Unit {0}) letter a s.before c → c ≡ (10 ∷ []) ++ rest → IsChange s.after (Some s) × (text ≡ change_words (Some s) ++ 10 ∷ rest)
change_taken s text a c rest t r h = ((t.0, refl), t.1 ∙ (ap (λ w. number s.time ++ w) (r.1 ∙ ap (λ w. letter s.before ++ w) h) ∙ sym (append_assoc (number s.time) (letter s.before) (10 ∷ rest))))

-- ---- a pending transition

pending_whole : (text line more : List ℕ) → text ≡ line ++ more → (k : IsTransition line) → text ≡ codes "p" ++ (number k.pending.driver ++ (number k.pending.time ++ (letter k.pending.value ++ 10 ∷ more)))
pending_whole text line more e k = e ∙ (ap (λ t. t ++ more) k.is ∙ three_on (codes "p") (number k.pending.driver) (number k.pending.time) (letter k.pending.value) more)

behind_p : (text a line more : List ℕ) → text ≡ codes "p" ++ a → text ≡ line ++ more → (k : IsTransition line) → a ≡ number k.pending.driver ++ (number k.pending.time ++ (letter k.pending.value ++ 10 ∷ more))
behind_p text a line more f e k = append_cancel_left (codes "p") a (number k.pending.driver ++ (number k.pending.time ++ (letter k.pending.value ++ 10 ∷ more))) (sym f ∙ pending_whole text line more e k)

behind_driver : (text a : List ℕ) (d : ℕ) (b line more : List ℕ) → text ≡ codes "p" ++ a → IsTaken Is32 number a d b → text ≡ line ++ more → (k : IsTransition line) → b ≡ number k.pending.time ++ (letter k.pending.value ++ 10 ∷ more)
behind_driver text a d b line more f t e k = count_next a d b t k.pending.driver (number k.pending.time ++ (letter k.pending.value ++ 10 ∷ more)) k.fit.0 refl (behind_p text a line more f e k)

pub no_pending : (text : List ℕ) → NotBehind (codes "p") text → NoLine IsTransition text
no_pending text h line more e k = h _ (pending_whole text line more e k)

pub no_pending_driver : (text a : List ℕ) → text ≡ codes "p" ++ a → NoneTaken Is32 number a → NoLine IsTransition text
no_pending_driver text a f h line more e k = h k.pending.driver (number k.pending.time ++ (letter k.pending.value ++ 10 ∷ more)) k.fit.0 refl (behind_p text a line more f e k)

pub no_pending_time : (text a : List ℕ) (d : ℕ) (b : List ℕ) → text ≡ codes "p" ++ a → IsTaken Is32 number a d b → NoneTaken Is64 number b → NoLine IsTransition text
no_pending_time text a d b f t h line more e k = h k.pending.time (letter k.pending.value ++ 10 ∷ more) k.fit.1 refl (behind_driver text a d b line more f t e k)

pub no_pending_value : (text a : List ℕ) (d : ℕ) (b : List ℕ) (n : ℕ) (c : List ℕ) → text ≡ codes "p" ++ a → IsTaken Is32 number a d b → IsTaken Is64 number b n c → NoneTaken (λ v. Unit {0}) letter c → NoLine IsTransition text
no_pending_value text a d b n c f t s h line more e k =
    h k.pending.value (10 ∷ more) tt refl (number_next b n c s k.pending.time (letter k.pending.value ++ 10 ∷ more) k.fit.1 refl (behind_driver text a d b line more f t e k))

pub no_pending_end : (text a : List ℕ) (d : ℕ) (b : List ℕ) (n : ℕ) (c : List ℕ) (v : Value) (g : List ℕ) → text ≡ codes "p" ++ a → IsTaken Is32 number a d b → IsTaken Is64 number b n c → IsTaken (λ w. Unit {0}) letter c v g → NotBehind (10 ∷ []) g → NoLine IsTransition text
no_pending_end text a d b n c v g f t s r h line more e k =
    let p = number_next b n c s k.pending.time (letter k.pending.value ++ 10 ∷ more) k.fit.1 refl (behind_driver text a d b line more f t e k) in
    h more (letter_next c v g r k.pending.value (10 ∷ more) p).1

pub pending_taken : (p : Pending) (text a b c g rest : List ℕ) → text ≡ codes "p" ++ a → IsTaken Is32 number a p.driver b → IsTaken Is64 number b p.time c → IsTaken (λ w. Unit {0}) letter c p.value g → g ≡ (10 ∷ []) ++ rest → IsPending p × (text ≡ pending_line p ++ rest)
pending_taken p text a b c g rest f t s r h = (
  (t.0, s.0),
  f ∙ (ap (λ w. codes "p" ++ w) (t.1 ∙ ap (λ w. number p.driver ++ w) (s.1 ∙ ap (λ w. number p.time ++ w) (r.1 ∙ ap (λ w. letter p.value ++ w) h))) ∙ sym (three_on (codes "p") (number p.driver) (number p.time) (letter p.value) rest)),
)

-- ---- a primitive's state

behind_u : (text a line more : List ℕ) → text ≡ codes "u" ++ a → text ≡ line ++ more → (k : IsUdp line) → a ≡ letter k.state ++ 10 ∷ more
behind_u text a line more f e k = append_cancel_left (codes "u") a (letter k.state ++ 10 ∷ more) (sym f ∙ (e ∙ ap (λ t. t ++ more) k.is))

pub no_udp : (text : List ℕ) → NotBehind (codes "u") text → NoLine IsUdp text
no_udp text h line more e k = h (letter k.state ++ 10 ∷ more) (e ∙ ap (λ t. t ++ more) k.is)

pub no_udp_state : (text a : List ℕ) → text ≡ codes "u" ++ a → NoneTaken (λ v. Unit {0}) letter a → NoLine IsUdp text
no_udp_state text a f h line more e k = h k.state (10 ∷ more) tt refl (behind_u text a line more f e k)

pub no_udp_end : (text a : List ℕ) (v : Value) (b : List ℕ) → text ≡ codes "u" ++ a → IsTaken (λ w. Unit {0}) letter a v b → NotBehind (10 ∷ []) b → NoLine IsUdp text
no_udp_end text a v b f t h line more e k = h more (letter_next a v b t k.state (10 ∷ more) (behind_u text a line more f e k)).1

pub udp_taken : (v : Value) (text a b rest : List ℕ) → text ≡ codes "u" ++ a → IsTaken (λ w. Unit {0}) letter a v b → b ≡ (10 ∷ []) ++ rest → text ≡ udp_line v ++ rest
udp_taken v text a b rest f t h = f ∙ ap (λ w. codes "u" ++ w) (t.1 ∙ ap (λ w. letter v ++ w) h)

-- ---- a timing check

check_whole : (text line more : List ℕ) → text ≡ line ++ more → (k : IsCheck line) → text ≡ codes "c" ++ (event_word k.latest.refer ++ (event_word k.latest.datum ++ 10 ∷ more))
check_whole text line more e k = e ∙ (ap (λ t. t ++ more) k.is ∙ two_on (codes "c") (event_word k.latest.refer) (event_word k.latest.datum) more)

behind_c : (text a line more : List ℕ) → text ≡ codes "c" ++ a → text ≡ line ++ more → (k : IsCheck line) → a ≡ event_word k.latest.refer ++ (event_word k.latest.datum ++ 10 ∷ more)
behind_c text a line more f e k = append_cancel_left (codes "c") a (event_word k.latest.refer ++ (event_word k.latest.datum ++ 10 ∷ more)) (sym f ∙ check_whole text line more e k)

behind_refer : (text a : List ℕ) (r : Option ℕ) (b line more : List ℕ) → text ≡ codes "c" ++ a → IsTaken IsTime event_word a r b → text ≡ line ++ more → (k : IsCheck line) → b ≡ event_word k.latest.datum ++ 10 ∷ more
behind_refer text a r b line more f t e k = event_next a r b t k.latest.refer (event_word k.latest.datum ++ 10 ∷ more) k.fit.0 (event_ends k.latest.datum (10 ∷ more)) (behind_c text a line more f e k)

pub no_check : (text : List ℕ) → NotBehind (codes "c") text → NoLine IsCheck text
no_check text h line more e k = h _ (check_whole text line more e k)

pub no_check_refer : (text a : List ℕ) → text ≡ codes "c" ++ a → NoneTaken IsTime event_word a → NoLine IsCheck text
no_check_refer text a f h line more e k = h k.latest.refer (event_word k.latest.datum ++ 10 ∷ more) k.fit.0 (event_ends k.latest.datum (10 ∷ more)) (behind_c text a line more f e k)

pub no_check_datum : (text a : List ℕ) (r : Option ℕ) (b : List ℕ) → text ≡ codes "c" ++ a → IsTaken IsTime event_word a r b → NoneTaken IsTime event_word b → NoLine IsCheck text
no_check_datum text a r b f t h line more e k = h k.latest.datum (10 ∷ more) k.fit.1 refl (behind_refer text a r b line more f t e k)

pub no_check_end : (text a : List ℕ) (r : Option ℕ) (b : List ℕ) (d : Option ℕ) (c : List ℕ) → text ≡ codes "c" ++ a → IsTaken IsTime event_word a r b → IsTaken IsTime event_word b d c → NotBehind (10 ∷ []) c → NoLine IsCheck text
no_check_end text a r b d c f t s h line more e k = h more (event_next b d c s k.latest.datum (10 ∷ more) k.fit.1 refl (behind_refer text a r b line more f t e k))

pub check_taken : (l : Latest) (text a b c rest : List ℕ) → text ≡ codes "c" ++ a → IsTaken IsTime event_word a l.refer b → IsTaken IsTime event_word b l.datum c → c ≡ (10 ∷ []) ++ rest → IsLatest l × (text ≡ check_line l ++ rest)
check_taken l text a b c rest f t s h = (
  (t.0, s.0),
  f ∙ (ap (λ w. codes "c" ++ w) (t.1 ∙ ap (λ w. event_word l.refer ++ w) (s.1 ∙ ap (λ w. event_word l.datum ++ w) h)) ∙ sym (two_on (codes "c") (event_word l.refer) (event_word l.datum) rest)),
)

-- ---- the counters

counters_whole : (text line more : List ℕ) → text ≡ line ++ more → (k : IsCounters line) → text ≡ codes "l" ++ (number k.last ++ (number k.evaluations ++ 10 ∷ more))
counters_whole text line more e k = e ∙ (ap (λ t. t ++ more) k.is ∙ two_on (codes "l") (number k.last) (number k.evaluations) more)

behind_l : (text a line more : List ℕ) → text ≡ codes "l" ++ a → text ≡ line ++ more → (k : IsCounters line) → a ≡ number k.last ++ (number k.evaluations ++ 10 ∷ more)
behind_l text a line more f e k = append_cancel_left (codes "l") a (number k.last ++ (number k.evaluations ++ 10 ∷ more)) (sym f ∙ counters_whole text line more e k)

behind_last : (text a : List ℕ) (l : ℕ) (b line more : List ℕ) → text ≡ codes "l" ++ a → IsTaken Is64 number a l b → text ≡ line ++ more → (k : IsCounters line) → b ≡ number k.evaluations ++ 10 ∷ more
behind_last text a l b line more f t e k = number_next a l b t k.last (number k.evaluations ++ 10 ∷ more) k.last_fits refl (behind_l text a line more f e k)

pub no_counters : (text : List ℕ) → NotBehind (codes "l") text → NoLine IsCounters text
no_counters text h line more e k = h _ (counters_whole text line more e k)

pub no_counters_last : (text a : List ℕ) → text ≡ codes "l" ++ a → NoneTaken Is64 number a → NoLine IsCounters text
no_counters_last text a f h line more e k = h k.last (number k.evaluations ++ 10 ∷ more) k.last_fits refl (behind_l text a line more f e k)

pub no_counters_evaluations : (text a : List ℕ) (l : ℕ) (b : List ℕ) → text ≡ codes "l" ++ a → IsTaken Is64 number a l b → NoneTaken Is64 number b → NoLine IsCounters text
no_counters_evaluations text a l b f t h line more e k = h k.evaluations (10 ∷ more) k.evaluations_fit refl (behind_last text a l b line more f t e k)

pub no_counters_end : (text a : List ℕ) (l : ℕ) (b : List ℕ) (n : ℕ) (c : List ℕ) → text ≡ codes "l" ++ a → IsTaken Is64 number a l b → IsTaken Is64 number b n c → NotBehind (10 ∷ []) c → NoLine IsCounters text
no_counters_end text a l b n c f t s h line more e k = h more (number_next b n c s k.evaluations (10 ∷ more) k.evaluations_fit refl (behind_last text a l b line more f t e k))

pub counters_taken : (l n : ℕ) (text a b c rest : List ℕ) → text ≡ codes "l" ++ a → IsTaken Is64 number a l b → IsTaken Is64 number b n c → c ≡ (10 ∷ []) ++ rest → Is64 l × Is64 n × (text ≡ counters_line l n ++ rest)
counters_taken l n text a b c rest f t s h = (
  t.0,
  s.0,
  f ∙ (ap (λ w. codes "l" ++ w) (t.1 ∙ ap (λ w. number l ++ w) (s.1 ∙ ap (λ w. number n ++ w) h)) ∙ sym (two_on (codes "l") (number l) (number n) rest)),
)
