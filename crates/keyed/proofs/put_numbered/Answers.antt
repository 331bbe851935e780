-- The numbers at the front, and the item behind them (blocks' Loop).
use Rattle.std.specs.Prelude.{◌≡◌, ◌++◌, ◌+◌}
use Rattle.fips197.proofs.Kit.{ap, ◌∙◌, List, ℕ, arith, length, drop, rules}
use Rattle.blocks.proofs.Loop.{put_behind}
use Rattle.blocks.proofs.Numbers.{big_endian_pair}
use Rattle.keyed.proofs.put_numbered.Goals as goal

pub returns : goal.returns
returns c =
    let numbers-long : length c.to_be64-numbers.result ≡ 8 = search rules in
    let front : c.put_bytes.new.out ≡ c.to_be64-numbers.result ++ drop 8 c.args.out.now =
    let e : 0 + length c.to_be64-numbers.result ≡ 8 = omega (arith, numbers-long) in
    c.put_bytes.ensures ∙ ap (λ (k : ℕ). c.to_be64-numbers.result ++ drop k c.args.out.now) e in
    let a = c.args in
    put_behind c.to_be64-numbers.result a.item.now a.out.now _ _ 8 (length a.item.now) numbers-long front c.put_bytes-2.ensures
    ∙ ap (λ (l : List ℕ). (l ++ a.item.now) ++ drop (8 + length a.item.now) a.out.now) (c.to_be64-numbers.ensures ∙ big_endian_pair a.number a.j)
