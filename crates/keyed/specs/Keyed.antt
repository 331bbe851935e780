-- The keyed functions of the scheme (000, section 4.3: F and G; document 01, 'Keys and codes'), under a key. Those whose names end in By are
-- over what a caller with many blocks hands over instead: the MAC `mac` of a key made ready, or the block cipher `ciph` under an expanded
-- key, with `deciph` its inverse. Assumes nothing.
use Rattle.std.specs.Prelude.{Bool, ◌&&◌, List, ◌++◌, ℕ, zero, suc, eqb, leb, length, if◌then◌else◌}
use Rattle.blocks.specs.Block.{◌⊕◌, zeros, slot, list_of}
use Rattle.blocks.specs.Number.{big_endian}
use Rattle.blocks.specs.Double.{double}
use Rattle.cipher.specs.Aes.{encipher, decipher}
use Rattle.cipher.specs.Cmac.{cmac}
use Rattle.stamp.specs.declared.Stamp.{Stamp}

-- whether an item is a vacant place in version v of a tag file (document 02, 2.5): it has no bytes, and the version is 3 or above. Before
-- it, "Length 0 is a card like any other."
unfoldable pub vacant : ℕ → List ℕ → Bool
vacant v item = leb 3 v && eqb (length item) 0

-- 000: F_K^j(M[j]); document 01: code of card j; document 02, 2.3: "A card's code now starts with the shelf number and the card number, 4
-- bytes each", followed by the card. For number 0 that is version 1's code (proofs/KeyedLaws.antt: first-version). Document 02, 2.5: a
-- vacant place adds "16 zero bytes to its rows in place of a code".
unfoldable pub item_hash_by : (List ℕ → List ℕ) → Stamp → ℕ → List ℕ → List ℕ
item_hash_by mac st j item =
    if vacant st.version item then zeros 16 else mac ((big_endian 4 st.number ++ big_endian 4 j) ++ item)

unfoldable pub item_hash : List ℕ → Stamp → ℕ → List ℕ → List ℕ
item_hash key st j item = item_hash_by (cmac key) st j item

-- a block doubled i times
unfoldable pub doubled : List ℕ → ℕ → List ℕ
doubled b zero = b
doubled b (suc i) = double (doubled b i)

-- document 01, mask i: "the enciphered zero block under the tag key, doubled i times"
unfoldable pub mask_by : (List ℕ → List ℕ) → ℕ → List ℕ
mask_by ciph i = doubled (ciph (zeros 16)) i

-- 000: G_K'^i(S[i]); document 01, tag i: "mask XOR encipher(mask XOR sum) under the tag key"
unfoldable pub tag_by : (List ℕ → List ℕ) → ℕ → List ℕ → List ℕ
tag_by ciph i sum = mask_by ciph i ⊕ ciph (mask_by ciph i ⊕ sum)

unfoldable pub tag_of : List ℕ → ℕ → List ℕ → List ℕ
tag_of key i sum = tag_by (encipher key) i sum

-- "The sum is had back from a tag by the deciphering."
unfoldable pub sum_by : (List ℕ → List ℕ) → (List ℕ → List ℕ) → ℕ → List ℕ → List ℕ
sum_by ciph deciph i tag = mask_by ciph i ⊕ deciph (mask_by ciph i ⊕ tag)

unfoldable pub sum_of_tag : List ℕ → ℕ → List ℕ → List ℕ
sum_of_tag key i tag = sum_by (encipher key) (decipher key) i tag

-- the tags 1 to n of the sums that stand one after another in s
unfoldable pub tags_by : (List ℕ → List ℕ) → List ℕ → ℕ → List ℕ
tags_by ciph s n = list_of (λ k. tag_by ciph (suc k) (slot s k)) n

-- the sums 1 to n of the tags that stand one after another in s
unfoldable pub sums_by : (List ℕ → List ℕ) → (List ℕ → List ℕ) → List ℕ → ℕ → List ℕ
sums_by ciph deciph s n = list_of (λ k. sum_by ciph deciph (suc k) (slot s k)) n
