-- As Tag makes its file (scheme's write_tag_file); no version has a longer one.
use Rattle.std.specs.Prelude.{◌≡◌, ◌*◌, ◌≤◌}
use Rattle.fips197.proofs.Kit.{ap, List, ℕ, arith, length}
use Rattle.sizes.specs.Sizes.{family_of}
use Rattle.sizes.proofs.Laws.{tags_few}
use Rattle.stamp.specs.declared.Stamp.{Stamp}
use Rattle.stamp.specs.Front.{number_size, front_size}
use Rattle.stamp.proofs.Fronts.{size-most}
use Rattle.files.specs.declared.tagfile.Head.{Head}
use Rattle.files.specs.Message.{item_count}
use Rattle.files.specs.TagFile.{newest_tag_file, stamp_for, head_for, tags_at, file_size}
use Rattle.tagging.specs.Tagging.{tag_head}
use Rattle.trial.proofs.sheets.in_version.Goals as goal

few : (code : ℕ) → 16 * (family_of code).tags ≤ 1312
few code = omega (arith, tags_few code)

fits-too : (st : Stamp) (code n : ℕ) (s : List ℕ) (room : ℕ) → file_size (tag_head code s) ≤ room → file_size (head_for st code n) ≤ room
unfolding file_size tags_at front_size number_size tag_head stamp_for newest_tag_file
fits-too st code n s room h = omega (arith, h, size-most st.version)

pub add_items-requires-clause-code_in_bounds : goal.add_items-requires-clause-code_in_bounds
add_items-requires-clause-code_in_bounds c = few c.args.size

pub write_file-requires-clause-count_bound : goal.write_file-requires-clause-count_bound
unfolding tag_head
write_file-requires-clause-count_bound c =
    let n : c.head_for-newest.result.count ≡ item_count c.args.shelf.now = ap (λ (x : Head). x.count) c.head_for-newest.ensures in
    omega (arith, n, c.requires.high)

pub write_file-requires-clause-code_in_bounds : goal.write_file-requires-clause-code_in_bounds
write_file-requires-clause-code_in_bounds c =
    (omega (arith, few c.args.size, c.add_items.ensures.size), fits-too _ c.args.size _ c.args.shelf.now (length c.args.room) c.requires.fits)
