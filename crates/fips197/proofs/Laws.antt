-- What a crate above may use of the ciphers: sizes and byte ranges, and that deciphering undoes enciphering and the reverse.
-- It needs nothing of what AES is, nor which engine computes it.
use Rattle.std.specs.Prelude.{◌≡◌, ◌<◌}
use Rattle.fips197.proofs.Kit.{ap, ◌∙◌, List, ℕ, arith, length, get_or, w8, Fits}
use Rattle.fips197.specs.Block.{Block}
use Rattle.fips197.specs.Aes.{key_expansion, encipher, decipher, cipher, inv_cipher}
use Rattle.fips197.proofs.Xor.{bytes_from}
use Rattle.fips197.proofs.Schedules.{key_expansion-length, round_key-length, round_key-block}
use Rattle.fips197.proofs.RoundTrip.{cipher-length, inv_cipher-length, cipher-block, inv_cipher-block, inv_cipher-cipher, cipher-inv_cipher}

module _ (key : List ℕ) (hk : Block key) where
  pub encipher-block : (b : List ℕ) → Block b → Block (encipher key b)
  unfolding encipher
  encipher-block b h = cipher-block (key_expansion key) (round_key-block key hk) b h

  pub decipher-block : (b : List ℕ) → Block b → Block (decipher key b)
  unfolding decipher
  decipher-block b h = inv_cipher-block (key_expansion key) (round_key-block key hk) b h

  -- deciphering undoes enciphering
  pub decipher-encipher : (b : List ℕ) → Block b → decipher key (encipher key b) ≡ b
  unfolding decipher encipher
  decipher-encipher b h = inv_cipher-cipher (key_expansion key) (round_key-block key hk) b h

  -- and the reverse
  pub encipher-decipher : (b : List ℕ) → Block b → encipher key (decipher key b) ≡ b
  unfolding decipher encipher
  encipher-decipher b h = cipher-inv_cipher (key_expansion key) (round_key-block key hk) b h

-- 16 bytes, whatever the block
module _ (key : List ℕ) (hk : length key ≡ 16) where
  pub encipher-length : (b : List ℕ) → length (encipher key b) ≡ 16
  unfolding encipher
  encipher-length b = cipher-length (key_expansion key) b (round_key-length (key_expansion key) 10 (key_expansion-length key hk) (omega arith))

  pub decipher-length : (b : List ℕ) → length (decipher key b) ≡ 16
  unfolding decipher
  decipher-length b = inv_cipher-length (key_expansion key) b (round_key-length (key_expansion key) 0 (key_expansion-length key hk) (omega arith))

-- the cipher with a schedule is the cipher with the key that it was made of
pub encipher_is : (key w b : List ℕ) → w ≡ key_expansion key → cipher w b ≡ encipher key b
unfolding encipher
encipher_is key w b e = ap (λ (w : List ℕ). cipher w b) e

pub decipher_is : (key w b : List ℕ) → w ≡ key_expansion key → inv_cipher w b ≡ decipher key b
unfolding decipher
decipher_is key w b e = ap (λ (w : List ℕ). inv_cipher w b) e

-- ---- a call with a key, by a call with its schedule

-- an array of 16 bytes is a block
pub block_of : (s : List ℕ) → length s ≡ 16 → ((i : ℕ) → i < 16 → Fits w8 (get_or s i 0)) → Block s
block_of s h f = record { long = h; bytes = bytes_from s (λ i l. (f i (omega arith)).fits) }

module _ (key : List ℕ) (hk : Block key) (w b r : List ℕ) (e : w ≡ key_expansion key) where
  pub enciphered : r ≡ cipher w b → (r ≡ encipher key b) × ((b' : List ℕ) → Block b' → b ≡ decipher key b' → r ≡ b')
  enciphered p = let q = p ∙ encipher_is key w b e in (q, λ b' h d. q ∙ ap (encipher key) d ∙ encipher-decipher key hk b' h)

  pub deciphered : r ≡ inv_cipher w b → (r ≡ decipher key b) × ((b' : List ℕ) → Block b' → b ≡ encipher key b' → r ≡ b')
  deciphered p = let q = p ∙ decipher_is key w b e in (q, λ b' h d. q ∙ ap (decipher key) d ∙ decipher-encipher key hk b' h)
