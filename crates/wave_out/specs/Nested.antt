-- A worked example: two scopes, a vector and a reg, and the text of a dump of some calls.
use Rattle.std.specs.Prelude.{ℕ, pos, negsuc, List, [], ◌∷◌, ◌++◌, true, false, Some, None, codes}
use Rattle.sg_logic.specs.declared.values.Value.TheVariants.{Zero, One, X, Z}
use Rattle.sg_circuit.specs.Circuit.{Circuit}
use Rattle.sg_circuit.specs.declared.nets.Driver.TheVariants.{Nobody}
use Rattle.sg_circuit.specs.declared.scopes.Port.TheVariants.{Inner, Input}
use Rattle.sg_circuit.specs.declared.checks.CheckKind.TheVariants.{Hold, Width}
use Rattle.sim_times.specs.Watching.{Call}
use Rattle.wave_out.specs.Texts.{line}

-- the top t has the wire a, the vector q of three bits and the reg module; its instance u.v has the reg n and the port p,
-- which is q[1]. One tick is 10 ps
abbrev pub nested : Circuit
nested = record {
  tick = negsuc 10;
  nets = record { scope = 0; name = codes "a"; bit = None; driver = Nobody }
      ∷ record { scope = 0; name = codes "q"; bit = Some (pos 2); driver = Nobody }
      ∷ record { scope = 0; name = codes "q"; bit = Some (pos 1); driver = Nobody }
      ∷ record { scope = 0; name = codes "q"; bit = Some (pos 0); driver = Nobody }
      ∷ record { scope = 1; name = codes "n"; bit = None; driver = Nobody } ∷ [];
  elements = [];
  checks = record { scope = 1; kind = Hold; refer = record { name = codes "C"; bit = None }; datum = Some (record { name = codes "D"; bit = Some (pos 3) }); notifier = None; place = record { file = 0; byte = 0 } }
      ∷ record { scope = 0; kind = Width; refer = record { name = codes "C"; bit = None }; datum = None; notifier = None; place = record { file = 0; byte = 0 } } ∷ [];
  check_timings = [];
  check_conditions = [];
  scopes = record {
    parent = None;
    name = codes "t";
    module_name = codes "t";
    unit = negsuc 8;
    precision = negsuc 10;
    is_leaf = false;
    variables = record { name = codes "a"; range = None; is_reg = false; port = Input; bits = 0 ∷ [] }
        ∷ record { name = codes "q"; range = Some (record { left = pos 2; right = pos 0 }); is_reg = false; port = Inner; bits = 1 ∷ 2 ∷ 3 ∷ [] }
        ∷ record { name = codes "module"; range = None; is_reg = true; port = Inner; bits = 0 ∷ [] } ∷ [];
  } ∷ record {
    parent = Some 0;
    name = codes "u.v";
    module_name = codes "m";
    unit = negsuc 8;
    precision = negsuc 10;
    is_leaf = true;
    variables = record { name = codes "n"; range = None; is_reg = true; port = Inner; bits = 4 ∷ [] }
        ∷ record { name = codes "p"; range = None; is_reg = false; port = Input; bits = 2 ∷ [] } ∷ [];
  } ∷ [];
  zeroed = [];
  udps = [];
}

abbrev pub nested_header : List ℕ
nested_header =
    line (codes "$version signoff 1 $end") ++ line (codes "$timescale 10 ps $end")
    ++ line (codes "$scope module t $end") ++ line (codes "$var wire 1 ! a $end") ++ line (codes "$var wire 3 \" q [2:0] $end") ++ line (codes "$var reg 1 # \\module $end")
    ++ line (codes "$scope module \\u.v $end") ++ line (codes "$var reg 1 $ n $end") ++ line (codes "$var wire 1 % p $end") ++ line (codes "$upscope $end")
    ++ line (codes "$upscope $end") ++ line (codes "$enddefinitions $end")

-- at 0 a is 0, q is 1xz and n is x; at 30 q[1] becomes 0; at 40 a becomes 1 and n becomes 0; the end is at 50
abbrev pub nested_calls : List Call
nested_calls =
    record { time = 0; changed = []; values = Zero ∷ One ∷ X ∷ Z ∷ X ∷ [] }
    ∷ record { time = 30; changed = record { net = 2; before = X; after = Zero } ∷ []; values = Zero ∷ One ∷ Zero ∷ Z ∷ X ∷ [] }
    ∷ record { time = 40; changed = record { net = 4; before = X; after = Zero } ∷ record { net = 0; before = Zero; after = One } ∷ []; values = One ∷ One ∷ Zero ∷ Z ∷ Zero ∷ [] }
    ∷ record { time = 50; changed = []; values = One ∷ One ∷ Zero ∷ Z ∷ Zero ∷ [] } ∷ []

abbrev pub nested_dump : List ℕ
nested_dump =
    nested_header ++ line (codes "#0") ++ line (codes "$dumpvars") ++ line (codes "0!") ++ line (codes "b1xz \"") ++ line (codes "0#") ++ line (codes "x$") ++ line (codes "x%") ++ line (codes "$end")
    ++ line (codes "#30") ++ line (codes "b10z \"") ++ line (codes "0%")
    ++ line (codes "#40") ++ line (codes "1!") ++ line (codes "1#") ++ line (codes "0$")
    ++ line (codes "#50")
