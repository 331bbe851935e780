-- Three puts, one after another (Writing).
use Rattle.std.specs.Prelude.{◌≡◌, ◌+◌}
use Rattle.fips197.proofs.Kit.{ap, ◌∙◌, ℕ, arith, take}
use Rattle.blocks.specs.Number.{big_endian}
use Rattle.stamp.specs.Front.{front_size, version_of}
use Rattle.packing.proofs.Writing.{count_read, count_at, version-at, place_read, place-high, item_put}
use Rattle.packing.proofs.put_item.Goals as goal

pub item_count-requires : goal.item_count-requires
item_count-requires c =
    count_at c.args.file.now c.args.n c.args.item.now c.requires.0 c.requires.1

pub overflow_cast-item_count : goal.overflow_cast-item_count
overflow_cast-item_count c =
    omega (arith, count_read c.args.file.now c.args.n c.args.item.now c.requires.0 c.requires.1)

pub version_of-requires : goal.version_of-requires
version_of-requires c =
    version-at c.args.file.now c.args.n c.args.item.now c.requires.0 c.requires.1

pub put_bytes-requires : goal.put_bytes-requires
put_bytes-requires c =
    let place : c.front_size.result ≡ front_size (version_of (take c.args.n c.args.file.now)) =
    place_read c.args.file.now c.args.n c.args.item.now c.requires.0 c.requires.1 _ _ c.version_of.ensures c.front_size.ensures.0 in
    omega (arith, place-high c.args.file.now c.args.n c.args.item.now c.requires.0 c.requires.1 _ place)

pub returns : goal.returns
returns c =
    let place : c.front_size.result ≡ front_size (version_of (take c.args.n c.args.file.now)) =
    place_read c.args.file.now c.args.n c.args.item.now c.requires.0 c.requires.1 _ _ c.version_of.ensures c.front_size.ensures.0 in
    let f = c.args.file.now in
    let n = c.args.n in
    let item = c.args.item.now in
    item_put f n item c.requires.0 c.requires.1 c.put_bytes.new.out c.put_bytes-2.new.out c.put_bytes-3.new.out c.to_be16-count.result c.to_be16-long.result
    c.front_size.result
    (c.to_be16-count.ensures ∙ ap (λ (k : ℕ). big_endian 2 (k + 1)) (c.item_count.ensures.0 ∙ count_read f n item c.requires.0 c.requires.1))
    c.to_be16-long.ensures place
    c.put_bytes.ensures c.put_bytes-2.ensures c.put_bytes-3.ensures
