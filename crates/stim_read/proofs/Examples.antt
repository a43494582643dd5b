-- Worked examples of what texts say.
use Rattle.std.specs.Prelude.{◌≡◌, [], ◌∷◌, ◌++◌, false, Some, None, codes, refl, pos, negsuc}
use Rattle.sg_logic.specs.declared.values.Value.TheVariants.{Zero, One}
use Rattle.stim_read.specs.Lines.{lines, words, statements}
use Rattle.stim_read.specs.Sets.{set_in}
use Rattle.stim_read.specs.Forms.{faulty_end, form_in, unit_in}
use Rattle.stim_read.specs.Seen.{decimals}
use Rattle.stim_read.specs.Times.{is_whole, ticks}
use Rattle.stim_read.specs.Inputs.{last_of_each, position_at, index_value}

-- a CR before a LF is dropped, and none at the end of the file; a comment is passed over
two_statements : statements (35 ∷ 10 ∷ (codes " at 1" ++ (13 ∷ 10 ∷ (codes "end" ++ (9 ∷ codes "2"))))) ≡ record { byte = 3; words = codes "at" ∷ codes "1" ∷ [] } ∷ record { byte = 9; words = codes "end" ∷ codes "2" ∷ [] } ∷ []
unfolding lines words
two_statements = refl

plain_set : set_in (codes "v[-1]=0x") ≡ Some (record { target = record { name = codes "v"; index = Some (codes "-1") }; digits = codes "0x" })
unfolding set_in
plain_set = refl

escaped_set : set_in (92 ∷ codes "a=b=1") ≡ Some (record { target = record { name = codes "a=b"; index = None }; digits = codes "1" })
unfolding set_in
escaped_set = refl

no_value : set_in (codes "a=") ≡ None
unfolding set_in
no_value = refl

leading_zero : set_in (codes "v[01]=1") ≡ Some (record { target = record { name = codes "v"; index = Some (codes "01") }; digits = codes "1" })
unfolding set_in
leading_zero = refl

nineteen_digits : set_in (codes "v[0000000000000000001]=1") ≡ None
unfolding set_in
nineteen_digits = refl

an_end_without_a_time : form_in decimals (codes "end" ∷ []) ≡ faulty_end
an_end_without_a_time = refl

ten_picoseconds : unit_in (codes "10ps") ≡ Some (negsuc 10)
ten_picoseconds = refl

no_unit : unit_in (codes "1000ps") ≡ None
no_unit = refl

-- 1.05 ns in ps
ticks_of_a_time : ticks (record { unit = negsuc 8; tick = negsuc 11 }) (record { negative = false; digits = 105; exponent = negsuc 1 }) ≡ 1050
ticks_of_a_time = refl

-- 0.0005 ns is half a ps
half_a_tick : is_whole (record { unit = negsuc 8; tick = negsuc 11 }) (record { negative = false; digits = 5; exponent = negsuc 3 }) ≡ false
half_a_tick = refl

last_holds : last_of_each ((0, Zero) ∷ (1, One) ∷ (0, One) ∷ []) ≡ (1, One) ∷ (0, One) ∷ []
last_holds = refl

left_first : position_at (Some (record { left = pos 3; right = pos 0 })) (index_value (codes "3")) ≡ Some 0
left_first = refl

out_of_range : position_at (Some (record { left = pos 3; right = pos 0 })) (index_value (codes "4")) ≡ None
out_of_range = refl
