-- The letters, and the version behind them.
use Rattle.std.specs.Prelude.{◌≡◌, ◌++◌}
use Rattle.fips197.proofs.Kit.{refl, ap, ℕ, List, length, drop, drop-drop, rules}
use Rattle.blocks.specs.Number.{big_endian}
use Rattle.blocks.proofs.Loop.{put_behind}
use Rattle.stamp.proofs.put_version.Goals as goal

pub returns : goal.returns
returns c =
    let o = c.args.out.now in
    let h : length c.args.letters ≡ 3 = search rules in
    put_behind c.args.letters (big_endian 2 c.args.version) o (c.copy_from_slice.new.self ++ drop 3 o) _ 3 2 h
    (ap (λ (t : List ℕ). t ++ drop 3 o) c.copy_from_slice.ensures.after)
    (rw (c.copy_from_slice-2.ensures.after, c.to_be16.ensures, drop-drop) refl)
