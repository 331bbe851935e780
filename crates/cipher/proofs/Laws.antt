-- What a crate above may use of the ciphers and of CMAC: sizes and byte ranges, and that deciphering undoes enciphering and the
-- reverse. It needs nothing of what AES is. The laws of XOR and of numbers that it shares are in Xor, Numbers and Doubling.
use Rattle.std.specs.Prelude.{◌≡◌}
use Rattle.fips197.proofs.Kit.{ap, List, ℕ, arith, length}
use Rattle.blocks.specs.Block.{Bytes, Block}
use Rattle.cipher.specs.Aes.{encipher, cipher, inv_cipher}
use Rattle.cipher.specs.Cmac.{subkey1, subkey2, mac_by, cmac, ready, mac_with}
use Rattle.cipher.specs.declared.cmac.MacKey.{MacKey}
use Rattle.cipher.proofs.Chain.{subkey1-block, subkey2-block, mac_by-block}
use Rattle.fips197.proofs.Schedules.{round_key-length}
use Rattle.fips197.proofs.RoundTrip.{cipher-length, inv_cipher-length}
pub use Rattle.fips197.proofs.Laws.{encipher-block, decipher-block, encipher-length, decipher-length, decipher-encipher, encipher-decipher, encipher_is, decipher_is}

module _ (key : List ℕ) (hk : Block key) where
  pub cmac-block : (m : List ℕ) → Bytes m → Block (cmac key m)
  unfolding cmac
  cmac-block m h =
      mac_by-block (encipher key) (encipher-block key hk) m h (subkey1 (encipher key)) (subkey2 (encipher key))
      (subkey1-block (encipher key) (encipher-block key hk)) (subkey2-block (encipher key) (encipher-block key hk))

-- 16 bytes, whatever the message
module _ (key : List ℕ) (hk : length key ≡ 16) where
  pub cmac-length : (m : List ℕ) → length (cmac key m) ≡ 16
  unfolding cmac mac_by
  cmac-length m = encipher-length key hk _

-- 16 bytes, whatever the schedule and the block
module _ (w : List ℕ) (hw : length w ≡ 176) where
  pub with_length : (b : List ℕ) → length (cipher w b) ≡ 16
  with_length b = cipher-length w b (round_key-length w 10 hw (omega arith))

  pub inv_with_length : (b : List ℕ) → length (inv_cipher w b) ≡ 16
  inv_with_length b = inv_cipher-length w b (round_key-length w 0 hw (omega arith))

-- CMAC with a key made ready is CMAC with the key
pub mac_ready : (key : List ℕ) (k : MacKey) (m : List ℕ) → k ≡ ready key → mac_with k m ≡ cmac key m
unfolding mac_with ready cmac encipher
mac_ready key k m e = ap (λ (x : MacKey). mac_with x m) e
