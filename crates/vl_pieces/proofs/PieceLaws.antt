-- What is found is a piece.
use Rattle.std.proofs.Common.{◌≡◌, ℕ, zero, suc, ◌+◌, ◌-◌, ◌<◌, ◌≤◌, List, [], ◌∷◌, length, take, drop, Bool, true, false, refl, ap, ◌∙◌, arith, inl, inr}
use Rattle.std.specs.Prelude.{Option, Some, None, ◌==◌, ◌&&◌, is_some, nat_lt, nat_le, nat_eq}
use Rattle.std.specs.List.{list_all, prefix_len}
use lib.Pointwise.{pointwise}
use Rattle.std.proofs.lemmas.Bool.{cases_Bool, eqb-true, ne_eqb, eq-eqb, and_parts, le-leb, leb-true, ltb-true, ltb-false, false_from_ne_true}
use Rattle.std.proofs.lemmas.List.{take_all, drop_all, length-take}
use Rattle.vl_pieces.specs.declared.bytes.First.{First}
use Rattle.vl_pieces.specs.declared.bytes.First.TheVariants.{Blank, Letter, Backslash, Dollar, Quote, Tick, Apostrophe, Slash, Paren, Mark, Bad}
use Rattle.vl_pieces.specs.declared.pieces.Class.{Class}
use Rattle.vl_pieces.specs.declared.pieces.Class.TheVariants as class
use Rattle.sg_text.specs.Names.{is_name_byte, is_name_start}
use Rattle.vl_pieces.specs.Bytes.{first_of, is_graphic, is_inline}
use Rattle.vl_pieces.specs.Ends.{end_of, quote_end}
use Rattle.vl_pieces.specs.Sized.{sized_of}
use Rattle.vl_pieces.specs.Modes.{IsPiece, class_in}
use Rattle.vl_pieces.specs.declared.modes.Mode.{Mode}
use Rattle.vl_pieces.specs.declared.modes.Mode.TheVariants.{Plain}
use Rattle.vl_token.specs.Symbols.{Row, symbol_rows, symbol_in}
use Rattle.vl_pieces.specs.Pieces.{is_symbol, has_number, apostrophe_class, where_so, is_alone, ended_or, slash_class, paren_class, begins_paren, tick_class, long_class, mark_class, digit_class, point_class, class_from, class_of}
use Rattle.vl_pieces.specs.PieceBridge.{ended_piece, slash_piece, attribute_piece, paren_piece, quote_piece, tick_piece, symbol_len, long_piece, mark_piece, point_piece, apostrophe_piece, digit_piece, piece_from, piece_of}
use Rattle.std.specs.Char.{is_ascii_digit}
use Rattle.sg_time.specs.Reading.{parts_of}
use Rattle.vl_pieces.specs.NumberBridge.{number_len, sized_len}
use Rattle.vl_pieces.proofs.NumberLaws.{digit_some, number_form, number_within, number_longest}
use Rattle.vl_pieces.proofs.SizedLaws.{sized_within, sized_form, sized_longest}
use Rattle.vl_pieces.proofs.Runs.{run_form, run_longest, IsEnd, IsEnd-end_of, IsEnd-quote_end}

-- of these bytes, behind what was read, a front of this size has the form c, and no longer front has a form
pub record Stands (F : List ℕ → List ℕ → Option Class) (bs : List ℕ) (n : ℕ) (c : Class) : Type 0 where
  pub within : n ≤ length bs
  pub form : F (take n bs) (drop n bs) ≡ Some c
  pub longest : (m : ℕ) → n < m → m ≤ length bs → F (take m bs) (drop m bs) ≡ None

-- one byte more in front
module _ (F G : List ℕ → List ℕ → Option Class) (x : ℕ) (same : (xs after : List ℕ) → F (x ∷ xs) after ≡ G xs after) (bs : List ℕ) (n : ℕ) (c : Class) (s : Stands G bs n c) where
  under_longest : (m : ℕ) → suc n < m → m ≤ length (x ∷ bs) → F (take m (x ∷ bs)) (drop m (x ∷ bs)) ≡ None
  under_longest zero lt le = absurd (omega arith)
  under_longest (suc m) lt le = same (take m bs) (drop m bs) ∙ s.longest m (omega arith) (omega arith)

  pub under : Stands F (x ∷ bs) (suc n) c
  under = record { within = let w = s.within in omega arith; form = same (take n bs) (drop n bs) ∙ s.form; longest = under_longest }

-- a piece of a size
pub piece_under : (mode : Mode) (F : List ℕ → List ℕ → Option Class) (b : ℕ) (bs : List ℕ) (n size : ℕ) (c : Class) → ((xs after : List ℕ) → class_in mode (b ∷ xs) after ≡ F xs after) → size ≡ suc n → Stands F bs n c → IsPiece mode (b ∷ bs) size c
piece_under mode F b bs n size c same e s =
    let t = under (class_in mode) F b same bs n c s in
    rw e (record { within = t.within; form = t.form; longest = t.longest })

-- what is behind the first byte makes the piece found
pub record Makes (F : List ℕ → List ℕ → Option Class) (bs : List ℕ) (p : Class × ℕ) : Type 0 where
  pub tail : ℕ
  pub size : p.1 ≡ suc tail
  pub stands : Stands F bs tail p.0

alone_nil : (F : List ℕ → List ℕ → Option Class) (c : Class) → F [] [] ≡ Some c → Makes F [] (c, 1)
alone_nil F c h = record { tail = 0; size = refl; stands = record { within = omega arith; form = h; longest = λ m lt le. absurd (omega arith) } }

alone : (F : List ℕ → List ℕ → Option Class) (b : ℕ) (bs : List ℕ) (c : Class) → F [] (b ∷ bs) ≡ Some c
    → ((m : ℕ) → m ≤ length bs → F (b ∷ take m bs) (drop m bs) ≡ None) → Makes F (b ∷ bs) (c, 1)
alone F b bs c h none = record { tail = 0; size = refl; stands = record { within = omega arith; form = h; longest = longer } }
  where
    longer : (m : ℕ) → 0 < m → m ≤ length (b ∷ bs) → F (take m (b ∷ bs)) (drop m (b ∷ bs)) ≡ None
    longer zero lt le = absurd (omega arith)
    longer (suc m) lt le = none m (omega arith)

pub single : (F : List ℕ → List ℕ → Option Class) (bs : List ℕ) (c : Class) → ((after : List ℕ) → F [] after ≡ Some c)
    → ((x : ℕ) (xs after : List ℕ) → F (x ∷ xs) after ≡ None) → Makes F bs (c, 1)
single F [] c h none = alone_nil F c (h [])
single F (b ∷ bs) c h none = alone F b bs c (h (b ∷ bs)) (λ m le. none b (take m bs) (drop m bs))

pub not_alone : (bs : List ℕ) (m : ℕ) (c : Class) → 0 < m → m ≤ length bs → where_so (is_alone (take m bs)) c ≡ None
not_alone [] m c lt le = absurd (omega arith)
not_alone (b ∷ bs) zero c lt le = absurd (omega arith)
not_alone (b ∷ bs) (suc m) c lt le = refl

prefix_within : (p : ℕ → Bool) (xs : List ℕ) → prefix_len p xs ≤ length xs
prefix_within p [] = omega arith
prefix_within p (x ∷ xs) = elim (cases_Bool (p x)) [
  | inl y ↦ rw y (omega (arith, prefix_within p xs))
  | inr n ↦ rw n (omega arith)
]

-- a run
pub run_stands : (p : ℕ → Bool) (c : Class) (bs : List ℕ) → Stands (λ xs after. where_so (list_all p xs) c) bs (prefix_len p bs) c
run_stands p c bs = record {
  within = prefix_within p bs;
  form = rw (run_form p bs) refl;
  longest = λ m lt le. rw (run_longest p bs m lt le) refl;
}

-- a run that may be empty, where its first byte is looked at apart
long_longest : (c : Class) (p : ℕ → Bool) (bs : List ℕ) (m : ℕ) → prefix_len p bs < m → m ≤ length bs → long_class c p (take m bs) ≡ None
long_longest c p [] m lt le = absurd (omega arith)
long_longest c p (b ∷ bs) zero lt le = absurd (omega arith)
long_longest c p (b ∷ bs) (suc m) lt le = let e : list_all p (b ∷ take m bs) ≡ false = run_longest p (b ∷ bs) (suc m) lt le in ap (λ t. where_so t c) e

long_form : (c : Class) (p : ℕ → Bool) (bs : List ℕ) (n : ℕ) → prefix_len p bs ≡ suc n → long_class c p (take (suc n) bs) ≡ Some c
long_form c p [] n e = absurd (omega arith)
long_form c p (b ∷ bs) n e =
    let h : list_all p (b ∷ take n bs) ≡ true = rw e at (run_form p (b ∷ bs)) in
    ap (λ t. where_so t c) h

long_makes : (c : Class) (p : ℕ → Bool) (bs : List ℕ) (n : ℕ) → prefix_len p bs ≡ n → Makes (λ xs after. long_class c p xs) bs (long_piece c n)
long_makes c p bs zero e = record { tail = 0; size = refl; stands = record { within = omega arith; form = refl; longest = λ m lt le. long_longest c p bs m (omega arith) le } }
long_makes c p bs (suc n) e = record {
  tail = suc n;
  size = omega arith;
  stands = record { within = omega (arith, prefix_within p bs); form = long_form c p bs n e; longest = λ m lt le. long_longest c p bs m (omega arith) le };
}

-- what has an end of its own
abbrev pub end_size : List ℕ → Option ℕ → ℕ
end_size bs None = length bs
end_size bs (Some e) = e

abbrev pub end_class : Class → Class → Option ℕ → Class
end_class c u None = u
end_class c u (Some e) = c

ended_stands : (E : List ℕ → Option ℕ) → IsEnd E → (c u : Class) (bs : List ℕ) (o : Option ℕ) → E bs ≡ o
    → Stands (λ xs after. ended_or c u (E xs) xs after) bs (end_size bs o) (end_class c u o)
ended_stands E ie c u bs None h = record {
  within = omega arith;
  form = rw (take_all (length bs) bs (omega arith), drop_all (length bs) bs (omega arith), h) refl;
  longest = λ m lt le. absurd (omega arith);
}
ended_stands E ie c u bs (Some e) h =
    let within = ie.within bs e h in
    record {
      within = within;
      form = rw (ie.found bs e e h (omega arith), eq-eqb e (length (take e bs)) (omega (arith, length-take e bs))) refl;
      longest = λ m lt le. rw (ie.found bs e m h (omega arith), ne_eqb e (length (take m bs)) (λ k. absurd (omega (arith, length-take m bs)))) refl;
    }

ended_piece_is : (c u : Class) (n : ℕ) (bs : List ℕ) (o : Option ℕ) → ended_piece c u n o bs ≡ (end_class c u o, n + end_size bs o)
ended_piece_is c u n bs None = refl
ended_piece_is c u n bs (Some e) = refl

quote_makes : (bs : List ℕ) → Makes (λ xs after. ended_or class.Quoted class.UnendedText (quote_end xs) xs after) bs (quote_piece bs)
quote_makes bs = rw ended_piece_is (record {
  tail = end_size bs (quote_end bs);
  size = omega arith;
  stands = ended_stands quote_end IsEnd-quote_end class.Quoted class.UnendedText bs (quote_end bs) refl;
})

tick_makes : (bs : List ℕ) → Makes (λ xs after. tick_class xs) bs (tick_piece bs)
tick_makes [] = alone_nil (λ xs after. tick_class xs) class.Other refl
tick_makes (b ∷ bs) = elim (cases_Bool (is_name_start b)) [
  | inl y ↦ rw y (record {
    tail = suc (prefix_len is_name_byte bs);
    size = omega arith;
    stands = under (λ xs after. tick_class xs) (λ xs after. where_so (list_all is_name_byte xs) class.Use) b (λ xs after. rw y refl) bs (prefix_len is_name_byte bs) class.Use (run_stands is_name_byte class.Use bs);
  })
  | inr n ↦ rw n (alone (λ xs after. tick_class xs) b bs class.Other refl (λ m le. rw n refl))
]

-- behind a slash or a parenthesis, one byte more leads to what has an end
ended_makes : (F : List ℕ → List ℕ → Option Class) (x : ℕ) (E : List ℕ → Option ℕ) → IsEnd E → (c u : Class) (bs : List ℕ)
    → Stands F (x ∷ bs) (suc (end_size bs (E bs))) (end_class c u (E bs)) → Makes F (x ∷ bs) (ended_piece c u 2 (E bs) bs)
ended_makes F x E ie c u bs s = rw ended_piece_is (record { tail = suc (end_size bs (E bs)); size = omega arith; stands = s })

pub slash_makes : (bs : List ℕ) → Makes slash_class bs (slash_piece bs)
slash_makes [] = alone_nil slash_class class.Other refl
slash_makes (b ∷ bs) = elim (cases_Bool (b == 47)) [
  | inl y ↦ rw y (record {
    tail = suc (prefix_len is_inline bs);
    size = omega arith;
    stands = under slash_class (λ xs after. where_so (list_all is_inline xs) class.Gap) b (λ xs after. rw y refl) bs (prefix_len is_inline bs) class.Gap (run_stands is_inline class.Gap bs);
  })
  | inr n ↦ elim (cases_Bool (b == 42)) [
    | inl y ↦ rw (n, y) (ended_makes slash_class b (end_of 42 47) (IsEnd-end_of 42 47) class.Gap class.UnendedComment bs
        (under slash_class (λ xs after. ended_or class.Gap class.UnendedComment (end_of 42 47 xs) xs after) b (λ xs after. rw (n, y) refl) bs
        (end_size bs (end_of 42 47 bs)) (end_class class.Gap class.UnendedComment (end_of 42 47 bs))
        (ended_stands (end_of 42 47) (IsEnd-end_of 42 47) class.Gap class.UnendedComment bs (end_of 42 47 bs) refl)))
    | inr m ↦ rw (n, m) (alone slash_class b bs class.Other refl (λ k le. rw (n, m) refl))
  ]
]

begins_same : (bs : List ℕ) (m : ℕ) → begins_paren (take m bs) (drop m bs) ≡ begins_paren [] bs
begins_same [] zero = refl
begins_same [] (suc m) = refl
begins_same (b ∷ bs) zero = refl
begins_same (b ∷ bs) (suc m) = refl

-- where `)` doesn't come next, the attribute has an end of its own
attribute_stands : (b : ℕ) (bs : List ℕ) → (b == 42) ≡ true → begins_paren [] bs ≡ false → Makes paren_class (b ∷ bs) (ended_piece class.Attribute class.UnendedComment 2 (end_of 42 41 bs) bs)
attribute_stands b bs y n =
    let s = ended_stands (end_of 42 41) (IsEnd-end_of 42 41) class.Attribute class.UnendedComment bs (end_of 42 41 bs) refl in
    let G : List ℕ → List ℕ → Option Class = λ xs after. paren_class (b ∷ xs) after in
    let t : Stands G bs (end_size bs (end_of 42 41 bs)) (end_class class.Attribute class.UnendedComment (end_of 42 41 bs)) = record {
      within = s.within;
      form = rw (y, begins_same bs (end_size bs (end_of 42 41 bs)), n) s.form;
      longest = λ m lt le. rw (y, begins_same bs m, n) (s.longest m lt le);
    } in
    ended_makes paren_class b (end_of 42 41) (IsEnd-end_of 42 41) class.Attribute class.UnendedComment bs
    (under paren_class G b (λ xs after. refl) bs (end_size bs (end_of 42 41 bs)) (end_class class.Attribute class.UnendedComment (end_of 42 41 bs)) t)

attribute_makes : (b : ℕ) (bs : List ℕ) → (b == 42) ≡ true → Makes paren_class (b ∷ bs) (attribute_piece bs)
attribute_makes b [] y = attribute_stands b [] y refl
attribute_makes b (x ∷ xs) y = elim (cases_Bool (x == 41)) [
  | inl z ↦ rw z (alone paren_class b (x ∷ xs) class.Symbol refl (λ m le. rw (y, begins_same (x ∷ xs) m, z) refl))
  | inr n ↦ rw n (attribute_stands b (x ∷ xs) y n)
]

paren_makes : (bs : List ℕ) → Makes paren_class bs (paren_piece bs)
paren_makes [] = alone_nil paren_class class.Symbol refl
paren_makes (b ∷ bs) = elim (cases_Bool (b == 42)) [
  | inl y ↦ rw y (attribute_makes b bs y)
  | inr n ↦ rw n (alone paren_class b bs class.Symbol refl (λ m le. rw n refl))
]

pub pointwise_len : (xs ys : List ℕ) → pointwise nat_eq xs ys ≡ true → length xs ≡ length ys
pointwise_len [] [] h = refl
pointwise_len [] (y ∷ ys) h = absurd (cc)
pointwise_len (x ∷ xs) [] h = absurd (cc)
pointwise_len (x ∷ xs) (y ∷ ys) h = ap suc (pointwise_len xs ys (and_parts (nat_eq x y) (pointwise nat_eq xs ys) h).1)

-- a symbol has at most three bytes
any_within : (rows : List Row) (bytes : List ℕ) → list_all (λ r. nat_le (length r.text) 3) rows ≡ true → is_some (symbol_in bytes rows) ≡ true → length bytes ≤ 3
any_within [] bytes a h = absurd (cc)
any_within (r ∷ rs) bytes a h =
    let parts = and_parts (nat_le (length r.text) 3) (list_all (λ v. nat_le (length v.text) 3) rs) a in
    elim (cases_Bool (pointwise nat_eq r.text bytes)) [
      | inl e ↦ let n : length r.text ≤ 3 = leb-true (length r.text) 3 parts.0 in omega (arith, pointwise_len r.text bytes e)
      | inr e ↦ any_within rs bytes parts.1 (rw e at h)
    ]

symbol_within : (bytes : List ℕ) → is_symbol bytes ≡ true → length bytes ≤ 3
unfolding symbol_rows is_symbol
symbol_within bytes h = any_within symbol_rows bytes refl h

module _ (b : ℕ) (bs : List ℕ) where
  mark_none : (m : ℕ) → 0 < m → m ≤ length bs → is_symbol (b ∷ take m bs) ≡ false → mark_class b (take m bs) ≡ None
  mark_none m lt le h = rw h (not_alone bs m class.Other lt le)

  long_false : (m : ℕ) → 2 < m → m ≤ length bs → is_symbol (b ∷ take m bs) ≡ false
  long_false m lt le = false_from_ne_true (is_symbol (b ∷ take m bs)) (λ h. let w = symbol_within (b ∷ take m bs) h in absurd (omega (arith, length-take m bs)))

  test_false : (n : ℕ) (s : Bool) → (nat_le n (length (b ∷ bs)) && s) ≡ false → n ≤ length (b ∷ bs) → s ≡ false
  test_false n s h le = rw (le-leb n (length (b ∷ bs)) le) at h

  two_false : (nat_le 3 (length (b ∷ bs)) && is_symbol (b ∷ take 2 bs)) ≡ false → (m : ℕ) → 1 < m → m ≤ length bs → is_symbol (b ∷ take m bs) ≡ false
  two_false h zero lt le = absurd (omega arith)
  two_false h (suc zero) lt le = absurd (omega arith)
  two_false h (suc (suc zero)) lt le = test_false 3 (is_symbol (b ∷ take 2 bs)) h (omega arith)
  two_false h (suc (suc (suc m))) lt le = long_false (suc (suc (suc m))) (omega arith) le

  one_false : (nat_le 3 (length (b ∷ bs)) && is_symbol (b ∷ take 2 bs)) ≡ false → (nat_le 2 (length (b ∷ bs)) && is_symbol (b ∷ take 1 bs)) ≡ false
      → (m : ℕ) → 0 < m → m ≤ length bs → is_symbol (b ∷ take m bs) ≡ false
  one_false h k zero lt le = absurd (omega arith)
  one_false h k (suc zero) lt le = test_false 2 (is_symbol (b ∷ take 1 bs)) k (omega arith)
  one_false h k (suc (suc m)) lt le = two_false h (suc (suc m)) (omega arith) le

  mark_makes : Makes (λ xs after. mark_class b xs) bs (mark_piece (symbol_len (b ∷ bs)))
  mark_makes = elim (cases_Bool (nat_le 3 (length (b ∷ bs)) && is_symbol (b ∷ take 2 bs))) [
    | inl three ↦
        let parts = and_parts (nat_le 3 (length (b ∷ bs))) (is_symbol (b ∷ take 2 bs)) three in
        let three_le : 3 ≤ length (b ∷ bs) = leb-true 3 (length (b ∷ bs)) parts.0 in
        rw three (record {
          tail = 2;
          size = refl;
          stands = record { within = omega arith; form = rw parts.1 refl; longest = λ m lt le. mark_none m (omega arith) le (long_false m lt le) };
        })
    | inr no_three ↦ elim (cases_Bool (nat_le 2 (length (b ∷ bs)) && is_symbol (b ∷ take 1 bs))) [
      | inl two ↦
          let parts = and_parts (nat_le 2 (length (b ∷ bs))) (is_symbol (b ∷ take 1 bs)) two in
          let two_le : 2 ≤ length (b ∷ bs) = leb-true 2 (length (b ∷ bs)) parts.0 in
          rw (no_three, two) (record {
            tail = 1;
            size = refl;
            stands = record { within = omega arith; form = rw parts.1 refl; longest = λ m lt le. mark_none m (omega arith) le (two_false no_three m lt le) };
          })
      | inr no_two ↦ elim (cases_Bool (nat_le 1 (length (b ∷ bs)) && is_symbol (b ∷ []))) [
        | inl one ↦
            let parts = and_parts (nat_le 1 (length (b ∷ bs))) (is_symbol (b ∷ [])) one in
            rw (no_three, no_two, one) (record {
              tail = 0;
              size = refl;
              stands = record { within = omega arith; form = rw parts.1 refl; longest = λ m lt le. mark_none m lt le (one_false no_three no_two m lt le) };
            })
        | inr none ↦
            rw (no_three, no_two, none) (record {
              tail = 0;
              size = refl;
              stands = record { within = omega arith; form = rw (test_false 1 (is_symbol (b ∷ [])) none (omega arith)) refl; longest = λ m lt le. mark_none m lt le (one_false no_three no_two m lt le) };
            })
      ]
    ]
  ]

-- the longer of a number and a sized constant
digit_makes : (b : ℕ) (bs : List ℕ) → is_ascii_digit b ≡ true → Makes (λ xs after. digit_class (b ∷ xs)) bs (digit_piece (number_len (b ∷ bs)) (sized_len (b ∷ bs)))
digit_makes b bs y =
    let number : ℕ = number_len (b ∷ bs) in
    let sized : ℕ = sized_len (b ∷ bs) in
    let some : 0 < number = digit_some b bs y in
    elim (cases_Bool (nat_lt number sized)) [
      | inl less ↦
          let fewer : number < sized = ltb-true number sized less in
          let tail : ℕ = sized - 1 in
          let size : sized ≡ suc tail = omega arith in
          let no_number : has_number (parts_of (b ∷ take tail bs)) ≡ false = rw size at (number_longest (b ∷ bs) sized fewer (sized_within (b ∷ bs))) in
          let is : is_some (sized_of (b ∷ take tail bs)) ≡ true = rw size at (sized_form (b ∷ bs) (omega arith)) in
          rw less (record {
            tail = tail;
            size = size;
            stands = record {
              within = omega (arith, sized_within (b ∷ bs));
              form = rw (no_number, is) refl;
              longest = λ m lt le. rw (number_longest (b ∷ bs) (suc m) (omega arith) (omega arith), sized_longest (b ∷ bs) (suc m) (omega arith) (omega arith)) refl;
            };
          })
      | inr not_less ↦
          let as_many : sized ≤ number = ltb-false number sized not_less in
          let tail : ℕ = number - 1 in
          let size : number ≡ suc tail = omega arith in
          let is : has_number (parts_of (b ∷ take tail bs)) ≡ true = rw size at (number_form (b ∷ bs) some) in
          rw not_less (record {
            tail = tail;
            size = size;
            stands = record {
              within = omega (arith, number_within (b ∷ bs));
              form = rw is refl;
              longest = λ m lt le. rw (number_longest (b ∷ bs) (suc m) (omega arith) (omega arith), sized_longest (b ∷ bs) (suc m) (omega arith) (omega arith)) refl;
            };
          })
    ]

apostrophe_found : (b : ℕ) (bs : List ℕ) (n : ℕ) → sized_len (b ∷ bs) ≡ n → is_some (sized_of (b ∷ [])) ≡ false → Makes (λ xs after. apostrophe_class (b ∷ xs) xs) bs (apostrophe_piece n)
apostrophe_found b bs zero e alone_none = record {
  tail = 0;
  size = refl;
  stands = record {
    within = omega arith;
    form = rw alone_none refl;
    longest = λ m lt le. rw (sized_longest (b ∷ bs) (suc m) (omega arith) (omega arith)) (not_alone bs m class.Other lt le);
  };
}
apostrophe_found b bs (suc n) e alone_none =
    let f = sized_form (b ∷ bs) (omega arith) in
    rw (ne_eqb (suc n) 0 (λ z. absurd (omega arith))) (record {
      tail = n;
      size = refl;
      stands = record {
        within = omega (arith, sized_within (b ∷ bs));
        form = let h : is_some (sized_of (b ∷ take n bs)) ≡ true = rw e at f in rw h refl;
        longest = λ m lt le. rw (sized_longest (b ∷ bs) (suc m) (omega arith) (omega arith)) (not_alone bs m class.Other (omega arith) le);
      };
    })

one_byte_none : (b : ℕ) → is_some (sized_of (b ∷ [])) ≡ false
one_byte_none b = elim (cases_Bool (is_ascii_digit b)) [ inl y ↦ rw y refl | inr n ↦ rw n refl ]

apostrophe_makes : (b : ℕ) (bs : List ℕ) → Makes (λ xs after. apostrophe_class (b ∷ xs) xs) bs (apostrophe_piece (sized_len (b ∷ bs)))
apostrophe_makes b bs = apostrophe_found b bs (sized_len (b ∷ bs)) refl (one_byte_none b)

point_found : (b : ℕ) (bs : List ℕ) (n : ℕ) → number_len (b ∷ bs) ≡ n → b ≡ 46 → Makes (λ xs after. point_class (b ∷ xs) xs) bs (point_piece n)
point_found b bs zero e p = record {
  tail = 0;
  size = refl;
  stands = record {
    within = omega arith;
    form = let h : has_number (parts_of (b ∷ [])) ≡ false = rw p refl in rw h refl;
    longest = λ m lt le. rw (number_longest (b ∷ bs) (suc m) (omega arith) (omega arith)) (not_alone bs m class.Symbol lt le);
  };
}
point_found b bs (suc n) e p =
    let f = number_form (b ∷ bs) (omega arith) in
    rw (ne_eqb (suc n) 0 (λ z. absurd (omega arith))) (record {
      tail = n;
      size = refl;
      stands = record {
        within = omega (arith, number_within (b ∷ bs));
        form = let h : has_number (parts_of (b ∷ take n bs)) ≡ true = rw e at f in rw h refl;
        longest = λ m lt le. rw (number_longest (b ∷ bs) (suc m) (omega arith) (omega arith)) (not_alone bs m class.Symbol (omega arith) le);
      };
    })

point_makes : (b : ℕ) (bs : List ℕ) → b ≡ 46 → Makes (λ xs after. point_class (b ∷ xs) xs) bs (point_piece (number_len (b ∷ bs)))
point_makes b bs p = point_found b bs (number_len (b ∷ bs)) refl p

-- what is found of the bytes behind the first is a piece with it
makes : (f : First) (b : ℕ) (bs : List ℕ) → Makes (class_from f b) bs (piece_from f b bs)
makes Blank b bs = single (class_from Blank b) bs class.Gap (λ after. refl) (λ x xs after. refl)
makes Letter b bs = record { tail = prefix_len is_name_byte bs; size = omega arith; stands = run_stands is_name_byte class.Name bs }
makes Backslash b bs = long_makes class.Escaped is_graphic bs (prefix_len is_graphic bs) refl
makes Dollar b bs = long_makes class.System is_name_byte bs (prefix_len is_name_byte bs) refl
makes Quote b bs = quote_makes bs
makes Tick b bs = tick_makes bs
makes Apostrophe b bs = apostrophe_makes b bs
makes Slash b bs = slash_makes bs
makes Paren b bs = paren_makes bs
makes Mark b bs = mark_makes b bs
makes Bad b bs = single (class_from Bad b) bs class.BadByte (λ after. refl) (λ x xs after. refl)

made : (F : List ℕ → List ℕ → Option Class) (b : ℕ) (bs : List ℕ) (p : Class × ℕ) → ((xs after : List ℕ) → class_of (b ∷ xs) after ≡ F xs after) → Makes F bs p → IsPiece Plain (b ∷ bs) p.1 p.0
made F b bs p same m = piece_under Plain F b bs m.tail p.1 p.0 same m.size m.stands

pub piece_found : (b : ℕ) (bs : List ℕ) → IsPiece Plain (b ∷ bs) (piece_of (b ∷ bs)).1 (piece_of (b ∷ bs)).0
piece_found b bs = elim (cases_Bool (is_ascii_digit b)) [
  | inl y ↦ rw y (made (λ xs after. digit_class (b ∷ xs)) b bs (digit_piece (number_len (b ∷ bs)) (sized_len (b ∷ bs))) (λ xs after. rw y refl) (digit_makes b bs y))
  | inr n ↦ elim (cases_Bool (b == 46)) [
    | inl y ↦ rw (n, y) (made (λ xs after. point_class (b ∷ xs) xs) b bs (point_piece (number_len (b ∷ bs))) (λ xs after. rw (n, y) refl) (point_makes b bs (eqb-true b 46 y)))
    | inr m ↦ rw (n, m) (made (class_from (first_of b) b) b bs (piece_from (first_of b) b bs) (λ xs after. rw (n, m) refl) (makes (first_of b) b bs))
  ]
]

pub piece_at_front : (text : List ℕ) → 0 < length text → IsPiece Plain text (piece_of text).1 (piece_of text).0
piece_at_front [] lt = absurd (omega arith)
piece_at_front (b ∷ bs) lt = piece_found b bs
