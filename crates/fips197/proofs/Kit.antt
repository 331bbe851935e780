-- What the proofs of all crates cite of the logic's libraries, under one name.
pub use Prim.Native.Nat.{◌%◌, ◌*◌, ◌+◌, ◌-◌, ◌/◌, ◌<◌, ◌^◌, ◌≤◌, suc, zero, zero-le, ℕ}
pub use Prim.Native.String.{String}
pub use borrow.Author.Rules.{rules}
pub use borrow.Author.Tests.{eq-eqb, eqb-false, eqb-true, le-leb, le-ltb, leb-false, leb-true, lt-leb, lt-ltb, ltb-false, ltb-true, ne_eqb, not-false, not-true}
pub use borrow.Rule.Slice.PartMut.{put_mid}
pub use denote.Ref.{Bor, MutBor}
pub use lib.Arith.{bin_ind, digits_mod, lt_of_le-ne}
pub use lib.Bits.{and_high, and_le_r, and_mask, and_mod, and_shr, bit_and, bit_or, bit_xor, differ, or_shifted, xor_block, xor_comm, xor_lt, xor_mod, xor_self, xor_shr, xor_step, xor_zero_r}
pub use lib.Dec.{T, eqb, eqb→eq, leb, lit<, ltb, ltb→lt}
pub use lib.IntN.{nat_abs, negsuc, pos, ℤ}
pub use lib.ListN.{get_or-append as List·getD-append, get_or-eq_default as List·getD-eq-default, drop, drop_of_length-le, get_or, get_or-replicate, length, length-append, length-drop, length-map, length-replicate, length-set, length-take, replicate, set, take, take-append-drop}
pub use lib.Pow.{pow_pos}
pub use lib.Seq.{append_snoc, drop-append-add, drop-append-le, drop_at, drop-cons, drop-drop, drop-length, drop-nil, drop-set-lt, ext_get_or, get_or-append-add, get_or-append_seam, get_or_at, get_or-drop, get_or-set_other, get_or-set_same, get_or-take, length-take-le, set_at, set_split, sets-eq, split_at, take-add, take_all, take-append-le, take_at, take-length, take-nil, take-suc, take-take}
pub use lib.Signed.{lt_z, non_neg}
pub use mathlib.Core.Bool.{Bool, beq as Bool·beq, ◌&&◌, ◌||◌, and_comm, and-false, and-true, false, not, true, true≢false, xor}
pub use mathlib.Core.List.{List, [], ◌++◌, ◌∷◌, append_assoc, append-nil, map}
pub use mathlib.Core.Logic.{◌↔◌, ◌⊎◌, inl, inr, ⊎_elim}
pub use mathlib.Core.Path.{◌∙◌, ◌≡◌, ap, ap₂, refl, subst, sym}
pub use mir.Facts.{Fits-nat_abs, Fits-of_z, sfits_to_z}
pub use mir.Syntax.{w32, w64, w8}
pub use mir.Val.{Fits, SFits, of_z, to_z}
pub use native.Mathlib.Nat.{add-mod_right, add-mul, add-mul-mod_self_right, add-suc, add-zero, div-add-mod', div-div-eq-div-mul, div-lt_iff_lt-mul, eq-or-lt_of_le, le_of_suc-le-suc, mod-add-div', mod-add-mod, mod-eq_of_lt, mod-lt, mod_self, mul_assoc, mul_comm, mul-zero, not-suc-le-zero, one-mul, pow-suc, pow-succ', suc-add, zero-add, zero-lt-suc, zero-mod, zero-mul}
pub use native.Mathlib.Numerals.{add-one}
pub use native.Mathlib.Omega.{arith}
