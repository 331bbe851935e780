-- A buffer of a few bytes has room for what stands before the cards or the tags, whichever version its bytes say.
use Rattle.std.specs.Prelude.{◌≤◌}
use Rattle.fips197.proofs.Kit.{List, ℕ, arith, length}
use Rattle.stamp.specs.Front.{front_size, version_of}
use Rattle.stamp.proofs.Fronts.{front-most}
use Rattle.files.specs.Message.{items_at}
use Rattle.files.specs.TagFile.{tags_at}

module _ (s : List ℕ) where
  pub stamp_in_lem : 9 ≤ length s → front_size (version_of s) ≤ length s
  stamp_in_lem h = omega (arith, front-most (version_of s))

  pub count_in : 11 ≤ length s → items_at (version_of s) ≤ length s
  unfolding items_at
  count_in h = omega (arith, front-most (version_of s))

  pub head_in : 12 ≤ length s → tags_at (version_of s) ≤ length s
  unfolding tags_at
  head_in h = omega (arith, front-most (version_of s))
