-- Zeros for a vacant place; any other item is laid out behind its numbers.
use Rattle.std.specs.Prelude.{◌++◌, ◌+◌}
use Rattle.fips197.proofs.Kit.{refl, sym, ap, ◌∙◌, length, take, take_at, rules}
use Rattle.blocks.specs.Number.{big_endian}
use Rattle.cipher.specs.Cmac.{mac_with}
use Rattle.keyed.proofs.KeyedLaws.{hash_vacant, hash_filled, numbered_length}
use Rattle.keyed.proofs.item_hash.Goals as goal

pub returns-then-vacant : goal.returns-then-vacant
returns-then-vacant c =
    let d = c.args in
    record {
      hash = sym (hash_vacant (mac_with d.k) d.stamp d.j d.item.now (sym c.vacant.ensures ∙ c.if-vacant.true));
      room = refl;
    }

pub returns : goal.returns
returns c =
    let a = c.args in
    let n = (big_endian 4 a.stamp.number ++ big_endian 4 a.j) ++ a.item.now in
    record {
      hash = c.mac_in_place.ensures.mac
          ∙ ap (mac_with a.k)
          (ap (take (8 + length a.item.now)) c.put_numbered.ensures ∙ take_at n _ (8 + length a.item.now) (numbered_length a.stamp.number a.j a.item.now))
          ∙ sym (hash_filled (mac_with a.k) a.stamp a.j a.item.now (sym c.vacant.ensures ∙ c.if-vacant.false));
      room = search rules;
    }
