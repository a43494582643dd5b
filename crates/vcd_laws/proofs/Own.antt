-- How the variables of a run's dump are read: those of the top's inputs as such, all others not at all.
use Rattle.std.specs.Prelude.{◌≡◌, ◌≢◌, ℕ, suc, ◌+◌, ◌<◌, ◌≤◌, ◌&&◌, ◌⊎◌, nat_lt, Bool, true, false, cond, if◌then◌else◌, All, List, [], ◌∷◌, ◌++◌, length, map, filter, flat_map, find, zip, bytes_eq, option_to_list, Some, None, refl}
use Rattle.std.specs.List.{AllByRecursion, list_all}
use Rattle.std.proofs.Common.{sym, ◌∙◌, ap, subst, arith, inl, inr}
use Rattle.std.proofs.lemmas.Bool.{and_parts, eq-eqb, ltb-true}
use Rattle.std.proofs.lemmas.List.{append-nil, append_assoc, length-append}
use Rattle.std.proofs.lemmas.List.Elements.{All-cons, All-nil, filter-append}
use Rattle.std.proofs.lemmas.Slice.Eq.{bytes_eq-Decides}
use Rattle.sg_circuit.specs.declared.nets.Driver.{Driver}
use Rattle.sg_circuit.specs.declared.nets.Driver.TheVariants as driver
use Rattle.sg_circuit.specs.Circuit.{Circuit, Variable, net_at, scope_at}
use Rattle.sg_stimulus.specs.Applied.{IsInput}
use Rattle.stim_read.specs.Inputs.{input_named, is_input, is_input_net, is_stimulated, nets_of}
use Rattle.wave_out.specs.Vcd.{code}
use Rattle.vcd_form.specs.Written.{Declaration}
use Rattle.vcd_model.specs.Inputs.{input_of, nets_at, of_width}
use Rattle.vcd_model.specs.Values.{bits_given, bits_of, given_to, is_of_code}
use Rattle.vcd_laws.proofs.Codes.{codes_apart}
use Rattle.vcd_laws.proofs.Entries.{declared_as, range_said}
use Rattle.vcd_laws.proofs.Header.{declared_one}
use Rattle.vcd_laws.proofs.Items.{EachRead, HasReader, IsPassed, IsRead, bits_read, is_bit, numbered}
use Rattle.vcd_laws.proofs.Names.{called_written, no_index}

-- ---- what is asked of a circuit's top

abbrev pub tops : Circuit → List Variable
tops circuit = (scope_at circuit 0).variables

-- no other variable of the top has the name
abbrev pub AreOthers : Variable → List Variable → Type 0
AreOthers v vs = AllByRecursion (λ (w : Variable). bytes_eq w.name v.name ≡ false) vs

-- a net is a bit of an input
abbrev pub IsCovered : Circuit → ℕ → List Variable → Type 0
IsCovered circuit net [] = ⊥
IsCovered circuit net (v ∷ vs) = ((is_input circuit v ≡ true) × (is_bit net v.bits ≡ true)) ⊎ IsCovered circuit net vs

pub record HasInputs (circuit : Circuit) : Type 0 where
  pub apart : (before after : List Variable) (v : Variable) → tops circuit ≡ before ++ v ∷ after → AreOthers v before × AreOthers v after
  pub covered : (net : ℕ) → IsInput circuit net → IsCovered circuit net (tops circuit)

-- ---- declarations without their places

abbrev pub unplaced_declaration : Declaration → Declaration
unplaced_declaration d = record { byte = 0; width = d.width; code = d.code; name = d.name; range = d.range }

pub read_unplaced : (circuit : Circuit) (ds : List Declaration) (bits code : List ℕ) → bits_read circuit (map unplaced_declaration ds) bits code ≡ bits_read circuit ds bits code
read_unplaced circuit [] bits code = refl
read_unplaced circuit (d ∷ ds) bits code = at (is_of_code code d) (read_unplaced circuit ds bits code)
  where
    at : (b : Bool) → bits_read circuit (map unplaced_declaration ds) bits code ≡ bits_read circuit ds bits code
        → flat_map (given_to circuit bits) (cond b (unplaced_declaration d ∷ filter (is_of_code code) (map unplaced_declaration ds)) (filter (is_of_code code) (map unplaced_declaration ds))) ≡ flat_map (given_to circuit bits) (cond b (d ∷ filter (is_of_code code) ds) (filter (is_of_code code) ds))
    at true e = ap (λ xs. given_to circuit bits d ++ xs) e
    at false e = e

-- ---- which declaration has a code

pub numbered-append : {A B : Type 0} (f : ℕ → A → List B) (k : ℕ) (xs ys : List A) → numbered f k (xs ++ ys) ≡ numbered f k xs ++ numbered f (k + length xs) ys
numbered-append f k [] ys = ap (λ n. numbered f n ys) (let q : k ≡ k + 0 = omega arith in q)
numbered-append f k (x ∷ xs) ys =
    ap (λ t. f k x ++ t) (numbered-append f (suc k) xs ys)
    ∙ (sym (append_assoc (f k x) (numbered f (suc k) xs) (numbered f (suc k + length xs) ys)) ∙ ap (λ n. f k x ++ numbered f (suc k) xs ++ numbered f n ys) (let q : suc k + length xs ≡ k + suc (length xs) = omega arith in q))

pub none_coded : (j k : ℕ) (vs : List Variable) → (k < j) ⊎ (j + length vs ≤ k) → filter (is_of_code (code k)) (numbered declared_one j vs) ≡ []
none_coded j k [] h = refl
none_coded j k (v ∷ vs) h =
    ap (λ b. cond b (declared_as j v ∷ filter (is_of_code (code k)) (numbered declared_one (suc j) vs)) (filter (is_of_code (code k)) (numbered declared_one (suc j) vs))) (codes_apart j k (other h))
    ∙ none_coded (suc j) k vs (later h)
  where
    other : (k < j) ⊎ (j + suc (length vs) ≤ k) → j ≢ k
    other (inl l) = λ e. (let q : j ≡ k = e in absurd (omega arith))
    other (inr l) = λ e. (let q : j ≡ k = e in absurd (omega arith))

    later : (k < j) ⊎ (j + suc (length vs) ≤ k) → (k < suc j) ⊎ (suc j + length vs ≤ k)
    later (inl l) = inl (omega arith)
    later (inr l) = inr (omega arith)

pub code_itself : (k : ℕ) → bytes_eq (code k) (code k) ≡ true
code_itself k = (bytes_eq-Decides (code k) (code k)).1 refl

pub one_coded : (vs before after : List Variable) (v : Variable) → vs ≡ before ++ v ∷ after → filter (is_of_code (code (length before))) (numbered declared_one 0 vs) ≡ declared_as (length before) v ∷ []
one_coded vs before after v e =
    ap (λ xs. filter (is_of_code (code k)) (numbered declared_one 0 xs)) e
    ∙ (ap (filter (is_of_code (code k))) (numbered-append declared_one 0 before (v ∷ after))
    ∙ (filter-append (is_of_code (code k)) (numbered declared_one 0 before) (numbered declared_one (0 + k) (v ∷ after))
    ∙ (ap (λ ds. ds ++ filter (is_of_code (code k)) (numbered declared_one (0 + k) (v ∷ after))) (none_coded 0 k before (inr (omega arith)))
    ∙ (ap (λ n. filter (is_of_code (code k)) (numbered declared_one n (v ∷ after))) (let q : 0 + k ≡ k = omega arith in q)
    ∙ (ap (λ b. cond b (declared_as k v ∷ filter (is_of_code (code k)) (numbered declared_one (suc k) after)) (filter (is_of_code (code k)) (numbered declared_one (suc k) after))) (code_itself k)
    ∙ ap (λ ds. declared_as k v ∷ ds) (none_coded (suc k) k after (inl (omega arith))))))))
  where
    k : ℕ
    k = length before

-- ---- which input a declaration is

passed_over : (test : Variable → Bool) (name : List ℕ) (vs rest : List Variable) → AllByRecursion (λ (w : Variable). bytes_eq w.name name ≡ false) vs → find (λ (w : Variable). bytes_eq w.name name && test w) (vs ++ rest) ≡ find (λ (w : Variable). bytes_eq w.name name && test w) rest
passed_over test name [] rest h = refl
passed_over test name (v ∷ vs) rest h =
    ap (λ b. cond (b && test v) (Some v) (find (λ (w : Variable). bytes_eq w.name name && test w) (vs ++ rest))) h.0 ∙ passed_over test name vs rest h.1

found : (circuit : Circuit) → HasInputs circuit → (before after : List Variable) (v : Variable) → tops circuit ≡ before ++ v ∷ after → input_named circuit v.name ≡ (if is_input circuit v then Some v else None)
found circuit has before after v e =
    ap (find (λ (w : Variable). bytes_eq w.name v.name && is_input circuit w)) e
    ∙ (passed_over (is_input circuit) v.name before (v ∷ after) (has.apart before after v e).0
    ∙ (ap (λ b. cond (b && is_input circuit v) (Some v) (find (λ (w : Variable). bytes_eq w.name v.name && is_input circuit w) after)) ((bytes_eq-Decides v.name v.name).1 refl)
    ∙ ap (λ o. if is_input circuit v then Some v else o) none))
  where
    none : find (λ (w : Variable). bytes_eq w.name v.name && is_input circuit w) after ≡ None
    none = ap (find (λ (w : Variable). bytes_eq w.name v.name && is_input circuit w)) (sym (append-nil after)) ∙ passed_over (is_input circuit) v.name after [] (has.apart before after v e).1

pub input_is : (circuit : Circuit) → HasInputs circuit → (before after : List Variable) (v : Variable) (k : ℕ) → tops circuit ≡ before ++ v ∷ after → input_of circuit (declared_as k v) ≡ (if is_input circuit v then Some v else None)
input_is circuit has before after v k e = ap (input_named circuit) (called_written v.name (range_said v.range)) ∙ found circuit has before after v e

pub nets_are : (k : ℕ) (v : Variable) → nets_at (declared_as k v) v ≡ Some v.bits
nets_are k v =
    ap (λ o. of_width (length v.bits) (nets_of o v)) (no_index v.name v.range)
    ∙ ap (λ b. if b then Some v.bits else None) (eq-eqb (length v.bits) (length v.bits) refl)

-- ---- how each variable is read

inputs_of_all : (circuit : Circuit) (bits : List ℕ) → list_all (is_input_net circuit) bits ≡ true → All (λ n. IsInput circuit n) bits
inputs_of_all circuit [] h = All-nil (λ n. IsInput circuit n)
inputs_of_all circuit (b ∷ bs) h =
    let p = and_parts (is_input_net circuit b) (list_all (is_input_net circuit) bs) h in
    let q = and_parts (nat_lt b (length circuit.nets)) (is_stimulated (net_at circuit b).driver) p.0 in
    All-cons (λ n. IsInput circuit n) b bs (ltb-true b (length circuit.nets) q.0, stimulated (net_at circuit b).driver q.1) (inputs_of_all circuit bs p.1)
  where
    stimulated : (d : Driver) → is_stimulated d ≡ true → d ≡ driver.Stimulus
    stimulated driver.Nobody e = absurd (let q : false ≡ true = e in cc)
    stimulated driver.Stimulus e = refl
    stimulated (driver.Element n) e = absurd (let q : false ≡ true = e in cc)
    stimulated driver.Notifier e = absurd (let q : false ≡ true = e in cc)

-- declarations that are, without their places, those of the top's variables
abbrev pub AreOwn : Circuit → List Declaration → Type 0
AreOwn circuit ds = map unplaced_declaration ds ≡ numbered declared_one 0 (tops circuit)

read_is : (circuit : Circuit) (ds : List Declaration) (bits : List ℕ) (k : ℕ) → AreOwn circuit ds → bits_read circuit ds bits (code k) ≡ bits_read circuit (numbered declared_one 0 (tops circuit)) bits (code k)
read_is circuit ds bits k own = sym (read_unplaced circuit ds bits (code k)) ∙ ap (λ es. bits_read circuit es bits (code k)) own

top_read : (circuit : Circuit) (ds : List Declaration) → HasInputs circuit → AreOwn circuit ds → (before after : List Variable) (v : Variable) → tops circuit ≡ before ++ v ∷ after → IsRead circuit ds (length before) v ⊎ IsPassed circuit ds (length before)
top_read circuit ds has own before after v e = at (is_input circuit v) refl
  where
    k : ℕ
    k = length before

    one : (bits : List ℕ) → bits_read circuit ds bits (code k) ≡ flat_map (λ w. bits_given bits (nets_at (declared_as k v) w)) (option_to_list (if is_input circuit v then Some v else None))
    one bits =
        read_is circuit ds bits k own
        ∙ (ap (flat_map (given_to circuit bits)) (one_coded (tops circuit) before after v e)
        ∙ (append-nil (given_to circuit bits (declared_as k v)) ∙ ap (λ o. flat_map (λ w. bits_given bits (nets_at (declared_as k v) w)) (option_to_list o)) (input_is circuit has before after v k e)))

    at : (b : Bool) → is_input circuit v ≡ b → IsRead circuit ds k v ⊎ IsPassed circuit ds k
    at true i = inl (record {
      inputs = inputs_of_all circuit v.bits i;
      reads = λ bits. one bits
          ∙ (ap (λ b. flat_map (λ w. bits_given bits (nets_at (declared_as k v) w)) (option_to_list (if b then Some v else None))) i
          ∙ (append-nil (bits_given bits (nets_at (declared_as k v) v)) ∙ ap (bits_given bits) (nets_are k v)));
    })
    at false i = inr (record { passed = λ bits. one bits ∙ ap (λ b. flat_map (λ w. bits_given bits (nets_at (declared_as k v) w)) (option_to_list (if b then Some v else None))) i })

-- behind the top's variables none is read
rest_passed : (circuit : Circuit) (ds : List Declaration) → AreOwn circuit ds → (k : ℕ) (rest : List Variable) → length (tops circuit) ≤ k → EachRead circuit ds k rest
rest_passed circuit ds own k [] l = tt
rest_passed circuit ds own k (v ∷ vs) l =
    (inr (record { passed = λ bits. read_is circuit ds bits k own ∙ ap (flat_map (given_to circuit bits)) (none_coded 0 k (tops circuit) (inr (omega arith))) }), rest_passed circuit ds own (suc k) vs (omega arith))

each_from : (circuit : Circuit) (ds : List Declaration) → HasInputs circuit → AreOwn circuit ds → (before vs rest : List Variable) → tops circuit ≡ before ++ vs → EachRead circuit ds (length before) (vs ++ rest)
each_from circuit ds has own before [] rest e = rest_passed circuit ds own (length before) rest (let q : length (tops circuit) ≡ length before = ap length (e ∙ append-nil before) in omega arith)
each_from circuit ds has own before (v ∷ vs) rest e =
    let more : length (before ++ v ∷ []) ≡ suc (length before) = longer before v in (
      top_read circuit ds has own before vs v e,
      subst (λ n. EachRead circuit ds n (vs ++ rest)) more (each_from circuit ds has own (before ++ v ∷ []) vs rest (e ∙ sym (append_assoc before (v ∷ []) vs))),
    )
  where
    longer : (xs : List Variable) (x : Variable) → length (xs ++ x ∷ []) ≡ suc (length xs)
    longer xs x = (let q : length (xs ++ x ∷ []) ≡ length xs + 1 = length-append xs (x ∷ []) in omega arith)

pub each_read : (circuit : Circuit) (ds : List Declaration) (rest : List Variable) → HasInputs circuit → AreOwn circuit ds → EachRead circuit ds 0 (tops circuit ++ rest)
each_read circuit ds rest has own = each_from circuit ds has own [] (tops circuit) rest refl

-- ---- each input is read

reader_from : (circuit : Circuit) (ds : List Declaration) → HasInputs circuit → AreOwn circuit ds → (net : ℕ) (before vs rest : List Variable) → tops circuit ≡ before ++ vs → IsCovered circuit net vs → HasReader circuit ds net (length before) (vs ++ rest)
reader_from circuit ds has own net before [] rest e h = absurd h
reader_from circuit ds has own net before (v ∷ vs) rest e (inl h) = inl (only (top_read circuit ds has own before vs v e), h.1)
  where
    k : ℕ
    k = length before

    one : (bits : List ℕ) → bits_read circuit ds bits (code k) ≡ zip v.bits (bits_of (length v.bits) bits)
    one bits =
        read_is circuit ds bits k own
        ∙ (ap (flat_map (given_to circuit bits)) (one_coded (tops circuit) before vs v e)
        ∙ (append-nil (given_to circuit bits (declared_as k v))
        ∙ (ap (λ o. flat_map (λ w. bits_given bits (nets_at (declared_as k v) w)) (option_to_list o)) (input_is circuit has before vs v k e)
        ∙ (ap (λ b. flat_map (λ w. bits_given bits (nets_at (declared_as k v) w)) (option_to_list (if b then Some v else None))) h.0
        ∙ (append-nil (bits_given bits (nets_at (declared_as k v) v)) ∙ ap (bits_given bits) (nets_are k v))))))

    only : IsRead circuit ds k v ⊎ IsPassed circuit ds k → IsRead circuit ds k v
    only (inl r) = r
    only (inr p) = record { inputs = inputs_of_all circuit v.bits h.0; reads = one }
reader_from circuit ds has own net before (v ∷ vs) rest e (inr h) =
    inr (subst (λ n. HasReader circuit ds net n (vs ++ rest)) (longer before v) (reader_from circuit ds has own net (before ++ v ∷ []) vs rest (e ∙ sym (append_assoc before (v ∷ []) vs)) h))
  where
    longer : (xs : List Variable) (x : Variable) → length (xs ++ x ∷ []) ≡ suc (length xs)
    longer xs x = (let q : length (xs ++ x ∷ []) ≡ length xs + 1 = length-append xs (x ∷ []) in omega arith)

pub has_reader : (circuit : Circuit) (ds : List Declaration) (rest : List Variable) → HasInputs circuit → AreOwn circuit ds → (net : ℕ) → IsInput circuit net → HasReader circuit ds net 0 (tops circuit ++ rest)
has_reader circuit ds rest has own net input = reader_from circuit ds has own net [] (tops circuit) rest refl (has.covered net input)
