-- The rule of a table of rounds, proved at all of its 512 words by one computed test; one law serves both tables.
use Rattle.std.specs.Prelude.{◌≡◌, ◌+◌, ◌-◌, ◌*◌, ◌/◌, ◌%◌, ◌<◌}
use Rattle.fips197.proofs.Kit.{ap, ap₂, ◌∙◌, Bool, List, ℕ, arith, T, eqb, eqb→eq, length, get_or}
use Rattle.fips197.specs.Block.{Bytes, Tabulates}
use Rattle.fips197.specs.Words.{bytes_of}
use Rattle.fips197.proofs.Table.{at, every}
use Rattle.fips197.proofs.Xor.{byte_at}
use Rattle.fips197.proofs.Mixing.{product_lt}
use Rattle.fips197.proofs.WordLaws.{packed, bytes_packed}
use Rattle.tables.specs.RoundTables.{RoundTables, spread, inv_spread, down}

-- the word of a column
abbrev word_of : List ℕ → ℕ
word_of l = packed (get_or l 0 0) (get_or l 1 0) (get_or l 2 0) (get_or l 3 0)

-- word k of the tables is what g makes of the box's byte at k % 256, turned down by k / 256 rows
unfoldable pub is_entry : (ℕ → List ℕ) → List ℕ → ℕ → ℕ → Bool
is_entry g box k w = eqb w (word_of (down (k / 256) (g (get_or box (k % 256) 0))))

bytes_down : (r : ℕ) (l : List ℕ) → Bytes l → bytes_of (word_of (down r l)) ≡ down r l
unfolding down
bytes_down r l h =
    bytes_packed (get_or l ((0 + 4 - r) % 4) 0) (get_or l ((1 + 4 - r) % 4) 0) (get_or l ((2 + 4 - r) % 4) 0) (get_or l ((3 + 4 - r) % 4) 0)
    (byte_at l h ((0 + 4 - r) % 4)) (byte_at l h ((1 + 4 - r) % 4)) (byte_at l h ((2 + 4 - r) % 4)) (byte_at l h ((3 + 4 - r) % 4))

module _ (g : ℕ → List ℕ) (f : ℕ → ℕ) (box t : List ℕ) where
  pub tables_rule : ((b : ℕ) → b < 256 → Bytes (g b)) → ((x : ℕ) → x < 256 → f x < 256) → Tabulates box f
      → length t ≡ 512 → T (every (is_entry g box) 0 t) → RoundTables t (λ x. g (f x))
  unfolding is_entry
  tables_rule bytes small table long test = record { entry = word }
    where
      word : (r x : ℕ) → r < 2 → x < 256 → bytes_of (get_or t (256 * r + x) 0) ≡ down r (g (f x))
      word r x hr hx =
          let k = 256 * r + x in
          let q : k / 256 ≡ r = omega arith in
          let m : k % 256 ≡ x = omega arith in
          let e = eqb→eq (get_or t k 0) (word_of (down (k / 256) (g (get_or box (k % 256) 0)))) (at (is_entry g box) t test k (omega arith)) in
          ap bytes_of (e ∙ ap₂ (λ (i j : ℕ). word_of (down i (g (get_or box j 0)))) q m ∙ ap (λ (b : ℕ). word_of (down r (g b))) (table x hx))
          ∙ bytes_down r (g (f x)) (bytes (f x) (small x hx))

pub spread-bytes : (b : ℕ) → b < 256 → Bytes (spread b)
unfolding spread
spread-bytes b h = (product_lt 2 b h, (product_lt 1 b h, (product_lt 1 b h, (product_lt 3 b h, tt))))

pub inv_spread-bytes : (b : ℕ) → b < 256 → Bytes (inv_spread b)
unfolding inv_spread
inv_spread-bytes b h = (product_lt 14 b h, (product_lt 9 b h, (product_lt 13 b h, (product_lt 11 b h, tt))))
