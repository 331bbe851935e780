-- Document 01, Planes, and document 02, 2.7: the size codes. The one place that names them; everything above speaks of `known`, `family_of`
-- and, where request 2.2 tells planes apart, `plane_code` alone. Assumes nothing.
use Rattle.std.specs.Prelude.{Bool, ◌||◌, ℕ, ◌/◌, ◌%◌, if◌then◌else◌}
use Rattle.incidence.specs.Count.{inside}
use Rattle.incidence.specs.Family.{Family}
use Rattle.plane.specs.Plane.{plane}
use Rattle.affine.specs.Affine.{sized, affine_family}

-- whether c is the code of a plane: 1 to 4
unfoldable pub plane_code : ℕ → Bool
plane_code c = inside 4 c

-- whether c is the code of an affine size: "the size code is 16s+l"
unfoldable pub affine_code : ℕ → Bool
affine_code c = sized (c / 16) (c % 16)

-- whether c is a size code: that of a plane, or of an affine size
unfoldable pub known : ℕ → Bool
known c = plane_code c || affine_code c

-- the family of a size code: the affine one whose s and l it gives, or the plane whose s it is. A code that is none has no items, no rows
-- and no tags.
unfoldable pub family_of : ℕ → Family
family_of c = if affine_code c then affine_family (c / 16) (c % 16) else plane c
