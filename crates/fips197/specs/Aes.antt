-- FIPS 197, section 5: AES-128, both ways. Document 01: the cipher. The names are the standard's. Assumes nothing.
use Rattle.std.specs.Prelude.{List, [], ◌∷◌, ◌++◌, map, ℕ, zero, suc, ◌+◌, ◌-◌, ◌*◌, ◌/◌, ◌%◌, ◌^◌, eqb, get_or, take, drop, if◌then◌else◌}
use Rattle.std.specs.Int.Bits.{bit_xor}
use Rattle.fips197.specs.Block.{◌⊕◌, tabulate}
use Rattle.fips197.specs.Field.{◌•◌, power, inverse}

-- 3.4: the byte of a state in row r and column c; a state is its 16 bytes, column by column
abbrev pub cell : List ℕ → ℕ → ℕ → ℕ
cell s r c = get_or s (r + 4 * c) 0

-- the state with f r c in row r and column c
abbrev pub state : (ℕ → ℕ → ℕ) → List ℕ
state f = tabulate 16 (λ i. f (i % 4) (i / 4))

-- ---- 5.1.1 SubBytes

-- bit i of a byte, counted round the byte
unfoldable pub bit : ℕ → ℕ → ℕ
bit b i = b / 2 ^ (i % 8) % 2

-- the byte with these bits
unfoldable pub byte_of : (ℕ → ℕ) → ℕ
byte_of f = f 0 + 2 * f 1 + 4 * f 2 + 8 * f 3 + 16 * f 4 + 32 * f 5 + 64 * f 6 + 128 * f 7

-- 5.1.1: each bit of b with four others, and then 63 hexadecimal
unfoldable pub affine : ℕ → ℕ
affine b = bit_xor (byte_of (λ i. (bit b i + bit b (i + 4) + bit b (i + 5) + bit b (i + 6) + bit b (i + 7)) % 2)) 0x63

-- 5.1.1: the inverse in the field, then the affine map
unfoldable pub sbox : ℕ → ℕ
sbox b = affine (inverse b)

unfoldable pub sub_bytes : List ℕ → List ℕ
sub_bytes s = map sbox s

-- ---- 5.1.2 ShiftRows: row r turns left by r columns
abbrev pub shift_rows : List ℕ → List ℕ
shift_rows s = state (λ r c. cell s r ((c + r) % 4))

-- ---- 5.1.3 MixColumns

-- each byte of a state from the byte in its place and those below it, going round the column
unfoldable pub columnwise : (ℕ → ℕ → ℕ → ℕ → ℕ) → List ℕ → List ℕ
columnwise f s = state (λ r c. f (cell s r c) (cell s ((r + 1) % 4) c) (cell s ((r + 2) % 4) c) (cell s ((r + 3) % 4) c))

-- a byte of a mixed column
unfoldable pub mixed : ℕ → ℕ → ℕ → ℕ → ℕ
mixed a b c d = bit_xor (bit_xor (0x02 • a) (0x03 • b)) (bit_xor c d)

unfoldable pub mix_columns : List ℕ → List ℕ
mix_columns s = columnwise mixed s

-- ---- 5.1.4 AddRoundKey: s ⊕ round_key w n, where round key n is the words 4n to 4n + 3 of the schedule
unfoldable pub round_key : List ℕ → ℕ → List ℕ
round_key w n = take 16 (drop (16 * n) w)

-- ---- 5.2 KeyExpansion

-- word i of a schedule
unfoldable pub word : List ℕ → ℕ → List ℕ
word w i = take 4 (drop (4 * i) w)

-- a word turned by a byte
unfoldable pub rot_word : List ℕ → List ℕ
rot_word a = get_or a 1 0 ∷ get_or a 2 0 ∷ get_or a 3 0 ∷ get_or a 0 0 ∷ []

-- the S-box on each byte of a word
unfoldable pub sub_word : List ℕ → List ℕ
sub_word a = map sbox a

-- the round constants, table 5: powers of x
unfoldable pub rcon : ℕ → List ℕ
rcon j = power 0x02 (j - 1) ∷ 0 ∷ 0 ∷ 0 ∷ []

-- algorithm 2: temp, what goes into word i besides word i − 4
unfoldable pub temp : ℕ → List ℕ → List ℕ
temp i w = if eqb (i % 4) 0 then sub_word (rot_word (word w (i - 1))) ⊕ rcon (i / 4) else word w (i - 1)

-- algorithm 2: the key, and n words more
unfoldable pub expanded : List ℕ → ℕ → List ℕ
expanded key zero = key
expanded key (suc n) = let w = expanded key n in w ++ (word w n ⊕ temp (n + 4) w)

-- the key schedule: 44 words
unfoldable pub key_expansion : List ℕ → List ℕ
key_expansion key = expanded key 40

-- ---- 5.1 Cipher

-- algorithm 1: the state after n of the rounds that mix columns
unfoldable pub rounds : List ℕ → ℕ → List ℕ → List ℕ
rounds w zero s = s
rounds w (suc n) s = mix_columns (shift_rows (sub_bytes (rounds w n s))) ⊕ round_key w (suc n)

-- algorithm 1, with the schedule w
unfoldable pub cipher : List ℕ → List ℕ → List ℕ
cipher w input = shift_rows (sub_bytes (rounds w 9 (input ⊕ round_key w 0))) ⊕ round_key w 10

-- AES-128 of a block under a key
unfoldable pub encipher : List ℕ → List ℕ → List ℕ
encipher key block = cipher (key_expansion key) block

-- ---- 5.3 InvCipher

-- 5.3.1 InvShiftRows: row r turns right by r columns
abbrev pub inv_shift_rows : List ℕ → List ℕ
inv_shift_rows s = state (λ r c. cell s r ((c + 4 - r) % 4))

-- the number below n that f sends to y
unfoldable pub preimage : (ℕ → ℕ) → ℕ → ℕ → ℕ
preimage f y zero = 0
preimage f y (suc n) = if eqb (f n) y then n else preimage f y n

-- 5.3.2 InvSubBytes: the S-box with its input and output changed round
unfoldable pub inv_sbox : ℕ → ℕ
inv_sbox b = preimage sbox b 256

unfoldable pub inv_sub_bytes : List ℕ → List ℕ
inv_sub_bytes s = map inv_sbox s

-- 5.3.3 InvMixColumns
unfoldable pub inv_mixed : ℕ → ℕ → ℕ → ℕ → ℕ
inv_mixed a b c d = bit_xor (bit_xor (0x0e • a) (0x0b • b)) (bit_xor (0x0d • c) (0x09 • d))

unfoldable pub inv_mix_columns : List ℕ → List ℕ
inv_mix_columns s = columnwise inv_mixed s

-- algorithm 3: from the state before the inverse of round n's steps to the end
unfoldable pub inv_rounds : List ℕ → ℕ → List ℕ → List ℕ
inv_rounds w zero s = inv_sub_bytes (inv_shift_rows s) ⊕ round_key w 0
inv_rounds w (suc n) s = inv_rounds w n (inv_mix_columns (inv_sub_bytes (inv_shift_rows s) ⊕ round_key w (suc n)))

-- algorithm 3, with the schedule w
unfoldable pub inv_cipher : List ℕ → List ℕ → List ℕ
inv_cipher w input = inv_rounds w 9 (input ⊕ round_key w 10)

-- the inverse of AES-128 under a key
unfoldable pub decipher : List ℕ → List ℕ → List ℕ
decipher key block = inv_cipher (key_expansion key) block
