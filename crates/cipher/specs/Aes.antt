-- FIPS 197, section 5: AES-128, both ways. Document 01: the cipher. What the contracts of this crate and of those above cite of fips197's
-- Aes, passed on as it is. Assumes nothing.
unfoldable pub use Rattle.fips197.specs.Aes.{sbox, key_expansion, cipher, encipher, inv_cipher, decipher}
