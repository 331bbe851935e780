-- How long the lines and the name are at most: a number below 2^64 has at most 20 digits.
use Rattle.std.specs.Prelude.{◌≡◌, ◌+◌, ◌^◌, ◌≤◌, ◌<◌, if◌then◌else◌}
use Rattle.fips197.proofs.Kit.{refl, ap, Bool, true, false, List, ℕ, arith, eqb, length, length-append, eq-eqb, ne_eqb}
use Rattle.sizes.specs.Sizes.{family_of}
use Rattle.sizes.proofs.Laws.{items_few, tags_few, limit_few}
use Rattle.stamp.proofs.Fronts.{front-most}
use Rattle.files.specs.declared.tagfile.Head.{Head}
use Rattle.files.specs.TagFile.{tags_at, file_size}
use Rattle.printing.specs.Text.{ascii, labelled}
use Rattle.printing.proofs.Lengths.{decimal-64}
use Rattle.command.specs.Said.{count_line, message_line, item_end, item_line, family_part, new_size, size_line, temporary_name}

pub count-short : (n : ℕ) → n < 2 ^ 64 → length (count_line n) ≤ 27
unfolding count_line labelled ascii
count-short n h = simp length-append (omega (arith, decimal-64 n h))

pub message-short : (n number : ℕ) → n < 2 ^ 64 → number < 2 ^ 32 → length (message_line n number) ≤ 55
unfolding message_line labelled ascii
message-short n number h k =
    let l : number < 2 ^ 64 = omega arith in
    simp length-append (omega (arith, decimal-64 n h, decimal-64 number l))

-- the two ends of a card's line
pub end_vacant : (long : ℕ) → long ≡ 0 → ascii " vacant\n" ≡ item_end long
unfolding item_end
end_vacant long h = rw (eq-eqb long 0 h) refl

pub end_filled : (long : ℕ) → (long ≡ 0 → ⊥) → ascii "\n" ≡ item_end long
unfolding item_end
end_filled long h = rw (ne_eqb long 0 h) refl

end_short : (long : ℕ) → length (item_end long) ≤ 8
unfolding item_end ascii
end_short long = go (eqb long 0)
  where
    go : (t : Bool) → length (if t then ascii " vacant\n" else ascii "\n") ≤ 8
    go true = omega arith
    go false = omega arith

pub item-short : (j long : ℕ) → j < 2 ^ 64 → long < 2 ^ 64 → length (item_line j long) ≤ 60
unfolding item_line labelled ascii
item-short j long h k = simp length-append (omega (arith, decimal-64 j h, decimal-64 long k, end_short long))

-- the numbers of a size
family_short : (c : ℕ) → length (family_part c) ≤ 80
unfolding family_part labelled ascii
family_short c =
    let i : (family_of c).items < 2 ^ 64 = omega (arith, items_few c) in
    let t : (family_of c).tags < 2 ^ 64 = omega (arith, tags_few c) in
    let d : (family_of c).limit < 2 ^ 64 = omega (arith, limit_few c) in
    simp length-append (omega (arith, decimal-64 _ i, decimal-64 _ t, decimal-64 _ d))

file_few : (h : Head) → file_size h < 2 ^ 64
unfolding file_size tags_at
file_few h = omega (arith, tags_few h.code, front-most h.stamp.version)

new_few : (c : ℕ) → new_size c < 2 ^ 64
unfolding new_size
new_few c = file_few _

pub size-short : (c : ℕ) → c < 2 ^ 64 → length (size_line c) ≤ 133
unfolding size_line labelled ascii
size-short c h = simp length-append (omega (arith, decimal-64 c h, decimal-64 _ (new_few c), family_short c))

pub temporary_short : (name : List ℕ) (process : ℕ) → process < 2 ^ 64 → length (temporary_name name process) ≤ length name + 25
unfolding temporary_name labelled ascii
temporary_short name process h = simp length-append (omega (arith, decimal-64 process h))

-- a file that is not whole yet does not have its own name
pub temporary_differs : (name : List ℕ) (process : ℕ) → temporary_name name process ≡ name → ⊥
unfolding temporary_name labelled ascii
temporary_differs name process e = omega (arith, simp length-append at (ap length e))
