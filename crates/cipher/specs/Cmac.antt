-- SP 800-38B, section 6: CMAC with AES-128 (also RFC 4493). Document 01: card codes and seals. Assumes nothing.
use Rattle.std.specs.Prelude.{List, ◌∷◌, ◌++◌, ℕ, ◌+◌, ◌-◌, ◌*◌, ◌/◌, max, eqb, length, take, drop, if◌then◌else◌}
use Rattle.blocks.specs.Block.{◌⊕◌, zeros}
use Rattle.blocks.specs.Double.{double}
use Rattle.blocks.specs.Chain.{chain}
use Rattle.cipher.specs.Aes.{key_expansion, cipher, encipher}
use Rattle.cipher.specs.declared.cmac.MacKey.{MacKey}

-- 6.1: the two subkeys of the block cipher ciph
unfoldable pub subkey1 : (List ℕ → List ℕ) → List ℕ
subkey1 ciph = double (ciph (zeros 16))

unfoldable pub subkey2 : (List ℕ → List ℕ) → List ℕ
subkey2 ciph = double (subkey1 ciph)

-- 6.2, step 2: the number of blocks, one for the empty message
unfoldable pub block_count : List ℕ → ℕ
block_count m = max 1 ((length m + 15) / 16)

-- 6.2, step 4: fewer than 16 bytes, then a one bit and zeros
unfoldable pub padded : List ℕ → List ℕ
padded l = l ++ (0x80 ∷ zeros (15 - length l))

-- 6.2, step 4: the last block, whole and masked by the first subkey, or padded and masked by the second
unfoldable pub last_block : List ℕ → List ℕ → List ℕ → List ℕ
last_block k1 k2 l = if eqb (length l) 16 then l ⊕ k1 else padded l ⊕ k2

-- 6.2, steps 3 and 4: all blocks as they are but the last
unfoldable pub laid_out : List ℕ → List ℕ → List ℕ → List ℕ
laid_out k1 k2 m =
    let n = block_count m - 1 in
    take (n * 16) m ++ last_block k1 k2 (drop (n * 16) m)

-- 6.2, with the cipher and its subkeys at hand: steps 5 and 6 over all blocks but the last, and then with the last. It is the chain over the
-- message laid out (proofs/Chain.antt: mac_laid_out).
unfoldable pub mac_by : (List ℕ → List ℕ) → List ℕ → List ℕ → List ℕ → List ℕ
mac_by ciph k1 k2 m =
    let n = block_count m - 1 in
    ciph (chain ciph (zeros 16) m n ⊕ last_block k1 k2 (drop (n * 16) m))

-- 6.2: the MAC of m under key, all 16 bytes of it
unfoldable pub cmac : List ℕ → List ℕ → List ℕ
cmac key m = mac_by (encipher key) (subkey1 (encipher key)) (subkey2 (encipher key)) m

-- a key made ready: its schedule and its subkeys
unfoldable pub ready : List ℕ → MacKey
ready key = record { schedule = key_expansion key; k1 = subkey1 (encipher key); k2 = subkey2 (encipher key) }

-- the MAC of m by what is handed over as such
unfoldable pub mac_with : MacKey → List ℕ → List ℕ
mac_with k m = mac_by (cipher k.schedule) k.k1 k.k2 m
