-- Header, tags and MAC, one behind the other (Writing).
use Rattle.std.specs.Prelude.{◌≡◌, ◌++◌, ◌+◌, ◌-◌, ◌*◌, ◌≤◌}
use Rattle.fips197.proofs.Kit.{List, ℕ, arith, length, take, drop, length-take, length-drop, put_mid, rules}
use Rattle.cipher.specs.Aes.{encipher}
use Rattle.blocks.proofs.Loop.{part_back}
use Rattle.sizes.proofs.Laws.{code_byte_lem, items_few, tags_few}
use Rattle.keyed.specs.Keyed.{tags_by}
use Rattle.keyed.proofs.KeyedLaws.{tags-expanded}
use Rattle.tagging.proofs.Writing.{file-size, tags-length, headed_length, back_length, file_written}
use Rattle.tagging.proofs.write_file.Goals as goal

pub put_header-requires : goal.put_header-requires
put_header-requires c =
    let place : ℕ = c.tags_at-at.result in
    let room : place + 16 * c.tags-n.result + 16 ≤ length c.args.out.now =
    omega (arith, file-size c.args.head place _ c.tags_at-at.ensures.0 c.tags-n.ensures, c.requires.code_in_bounds.1) in
    (omega (arith, code_byte_lem c.args.head.code c.requires.code_value), omega (arith, items_few c.args.head.code, c.requires.count_bound), omega (arith, room, c.tags_at-at.ensures.0))

pub seal-requires : goal.seal-requires
seal-requires c =
    let place : ℕ = c.tags_at-at.result in
    let room : place + 16 * c.tags-n.result + 16 ≤ length c.args.out.now =
    omega (arith, file-size c.args.head place _ c.tags_at-at.ensures.0 c.tags-n.ensures, c.requires.code_in_bounds.1) in
    let headed : length c.put_header.new.out ≡ length c.args.out.now =
    headed_length c.args.head c.args.out.now _ (omega (arith, room, c.tags_at-at.ensures.0)) c.put_header.ensures in
    let behind : place + 16 * c.tags-n.result + 16 ≤ length c.put_header.new.out = omega (arith, room, headed) in
    let tags : List ℕ = tags_by (encipher c.args.keys.tag) c.args.sums.now c.tags-n.result in
    let key-long : length c.args.keys.tag ≡ 16 = search rules in
    let written : put_mid place (length c.put_header.new.out - place) c.put_header.new.out c.write_tags.new.out ≡ take place c.put_header.new.out ++ (tags ++ drop (place + 16 * c.tags-n.result) c.put_header.new.out) =
    part_back c.put_header.new.out _ tags place (16 * c.tags-n.result) (omega (arith, behind))
    (tags-expanded c.args.keys.tag _ _ _ _ _ c.expand.ensures c.write_tags.ensures) in
    let r : place + 16 * c.tags-n.result ≤ length c.put_header.new.out = omega (arith, behind) in
    let l = back_length c.put_header.new.out _ tags place _ r (tags-length _ _ _ key-long) written in
    record { n_in_bounds = omega (arith, l, behind) }

pub returns : goal.returns
returns c =
    let place : ℕ = c.tags_at-at.result in
    let room : place + 16 * c.tags-n.result + 16 ≤ length c.args.out.now =
    omega (arith, file-size c.args.head place _ c.tags_at-at.ensures.0 c.tags-n.ensures, c.requires.code_in_bounds.1) in
    let headed : length c.put_header.new.out ≡ length c.args.out.now =
    headed_length c.args.head c.args.out.now _ (omega (arith, room, c.tags_at-at.ensures.0)) c.put_header.ensures in
    let behind : place + 16 * c.tags-n.result + 16 ≤ length c.put_header.new.out = omega (arith, room, headed) in
    let tags : List ℕ = tags_by (encipher c.args.keys.tag) c.args.sums.now c.tags-n.result in
    let key-long : length c.args.keys.tag ≡ 16 = search rules in
    let written : put_mid place (length c.put_header.new.out - place) c.put_header.new.out c.write_tags.new.out ≡ take place c.put_header.new.out ++ (tags ++ drop (place + 16 * c.tags-n.result) c.put_header.new.out) =
    part_back c.put_header.new.out _ tags place (16 * c.tags-n.result) (omega (arith, behind))
    (tags-expanded c.args.keys.tag _ _ _ _ _ c.expand.ensures c.write_tags.ensures) in
    file_written c.args.keys c.args.head place c.tags-n.result c.args.sums.now c.args.out.now c.put_header.new.out _ _ key-long c.tags_at-at.ensures.0 c.tags-n.ensures
    c.put_header.ensures written c.seal.ensures

pub slice_bounds-write_tags-count : goal.slice_bounds-write_tags-count
slice_bounds-write_tags-count c =
    let place : ℕ = c.tags_at-at.result in
    let room : place + 16 * c.tags-n.result + 16 ≤ length c.args.out.now =
    omega (arith, file-size c.args.head place _ c.tags_at-at.ensures.0 c.tags-n.ensures, c.requires.code_in_bounds.1) in
    let headed : length c.put_header.new.out ≡ length c.args.out.now =
    headed_length c.args.head c.args.out.now _ (omega (arith, room, c.tags_at-at.ensures.0)) c.put_header.ensures in
    let behind : place + 16 * c.tags-n.result + 16 ≤ length c.put_header.new.out = omega (arith, room, headed) in
    omega (arith, behind)

pub slice_bounds-write_tags-start : goal.slice_bounds-write_tags-start
slice_bounds-write_tags-start c =
    let place : ℕ = c.tags_at-at.result in
    let room : place + 16 * c.tags-n.result + 16 ≤ length c.args.out.now =
    omega (arith, file-size c.args.head place _ c.tags_at-at.ensures.0 c.tags-n.ensures, c.requires.code_in_bounds.1) in
    let headed : length c.put_header.new.out ≡ length c.args.out.now =
    headed_length c.args.head c.args.out.now _ (omega (arith, room, c.tags_at-at.ensures.0)) c.put_header.ensures in
    let behind : place + 16 * c.tags-n.result + 16 ≤ length c.put_header.new.out = omega (arith, room, headed) in
    omega (arith, behind)

pub write_tags-requires : goal.write_tags-requires
write_tags-requires c =
    let place : ℕ = c.tags_at-at.result in
    let room : place + 16 * c.tags-n.result + 16 ≤ length c.args.out.now =
    omega (arith, file-size c.args.head place _ c.tags_at-at.ensures.0 c.tags-n.ensures, c.requires.code_in_bounds.1) in
    let headed : length c.put_header.new.out ≡ length c.args.out.now =
    headed_length c.args.head c.args.out.now _ (omega (arith, room, c.tags_at-at.ensures.0)) c.put_header.ensures in
    let behind : place + 16 * c.tags-n.result + 16 ≤ length c.put_header.new.out = omega (arith, room, headed) in
    (search rules, simp (length-take, length-drop) (omega (arith, behind)))

pub overflow_mul-n : goal.overflow_mul-n
overflow_mul-n c =
    let place : ℕ = c.tags_at-at.result in
    let few : (c.tags-n.result ≤ 82) × (place ≤ 12) =
    (omega (arith, c.tags-n.ensures, tags_few c.args.head.code), c.tags_at-at.ensures.1) in
    omega (arith, few)

pub overflow_add-at : goal.overflow_add-at
overflow_add-at c =
    let place : ℕ = c.tags_at-at.result in
    let few : (c.tags-n.result ≤ 82) × (place ≤ 12) =
    (omega (arith, c.tags-n.ensures, tags_few c.args.head.code), c.tags_at-at.ensures.1) in
    omega (arith, few)
