-- What the tests of an input settle, and what a readable input holds.
use Rattle.std.specs.Prelude.{◌≡◌, ◌&&◌, ◌+◌, ◌≤◌, ◌<◌}
use Rattle.fips197.proofs.Kit.{sym, ap, ◌∙◌, Bool, false, List, ℕ, leb, length, le-leb, lt-leb}
use Rattle.incidence.proofs.Booleans.{and_false_l, and_false_r}
use Rattle.reporting.specs.Printed.{first_size, readable}

module _ (input : List ℕ) where
  abbrev long : Bool
  long = leb 51 (length input)

  abbrev short : Bool
  short = leb (length input) 65536

  abbrev whole : Bool
  whole = leb (51 + first_size input) (length input)

  pub not-long : length input < 51 → false ≡ readable input
  unfolding readable
  not-long h = sym (and_false_l long (short && whole) (lt-leb 51 (length input) h))

  pub not_short : 65536 < length input → false ≡ readable input
  unfolding readable
  not_short h = sym (and_false_r long (short && whole) (and_false_l short whole (lt-leb (length input) 65536 h)))

  pub if_whole : 51 ≤ length input → length input ≤ 65536 → whole ≡ readable input
  unfolding readable
  if_whole h l =
      sym (ap (λ (t : Bool). t && (short && whole)) (le-leb 51 (length input) h) ∙ ap (λ (t : Bool). t && whole) (le-leb (length input) 65536 l))
