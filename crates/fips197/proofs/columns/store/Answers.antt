-- Four words, each of its four bytes.
use Rattle.std.specs.Prelude.{◌∷◌}
use Rattle.fips197.proofs.Kit.{[], get_or}
use Rattle.fips197.specs.Words.{bytes_of, state_of}
use Rattle.fips197.proofs.columns.store.Goals as goal

pub returns : goal.returns
unfolding state_of bytes_of
returns c =
    let e1 = c.to_bytes-a.ensures in
    let e2 = c.to_bytes-b.ensures in
    let e3 = c.to_bytes-c.ensures in
    let e4 = c.to_bytes-d.ensures in
    λ i. get_or (e1 i) 0 0 ∷ get_or (e1 i) 1 0 ∷ get_or (e1 i) 2 0 ∷ get_or (e1 i) 3 0 ∷
    get_or (e2 i) 0 0 ∷ get_or (e2 i) 1 0 ∷ get_or (e2 i) 2 0 ∷ get_or (e2 i) 3 0 ∷
    get_or (e3 i) 0 0 ∷ get_or (e3 i) 1 0 ∷ get_or (e3 i) 2 0 ∷ get_or (e3 i) 3 0 ∷
    get_or (e4 i) 0 0 ∷ get_or (e4 i) 1 0 ∷ get_or (e4 i) 2 0 ∷ get_or (e4 i) 3 0 ∷ []
