-- A word at a time; the constant is a word of one byte (WordLaws).
use Rattle.std.specs.Prelude.{◌<◌}
use Rattle.fips197.proofs.Kit.{ap, ◌∙◌, List, ℕ, rules}
use Rattle.fips197.specs.Block.{◌⊕◌}
use Rattle.fips197.specs.Aes.{rcon}
use Rattle.fips197.specs.Words.{bytes_of}
use Rattle.fips197.proofs.WordLaws.{bytes-xor, bytes_small}
use Rattle.fips197.proofs.schedule.next_key.Goals as goal

pub returns : goal.returns
unfolding rcon
returns c =
    let f = c in
    let k = f.args.k in
    let x = f.args.x in
    let e = f.rcon.ensures in
    let h : f.rcon.result < 256 = search rules in
    record { first = bytes-xor k.a _ ∙ ap (λ (l : List ℕ). bytes_of k.a ⊕ l) (bytes-xor x _ ∙ ap (λ (l : List ℕ). bytes_of x ⊕ l) (bytes_small _ _ h e)); others = (bytes-xor k.b _, bytes-xor k.c _, bytes-xor k.d _) }
