-- The list handed on is the plane's, and what is written is its pattern (Members).
use Rattle.fips197.proofs.Kit.{rules}
use Rattle.derivation.proofs.Members.{list_few, lent_list, derived_some, derived-count, derived_written}
use Rattle.derivation.proofs.derive.Goals as goal

pub slice_bounds-pattern-end : goal.slice_bounds-pattern-end
slice_bounds-pattern-end c = let few = list_few _ _ c.copy_differences-n.ensures.count in search (rules, few)

pub unwrap-requires : goal.unwrap-requires
unwrap-requires c =
    let list = lent_list c.args.s c.copy_differences-n.result _ _ c.copy_differences-n.ensures.written c.copy_differences-n.ensures.count in
    rw (derived_some c.args.s _ _ _ c.requires.0 c.requires.1 c.items.ensures list c.requires.2 _ c.pattern.ensures.answer) (search rules)

pub returns-clause-written : goal.returns-clause-written
returns-clause-written c =
    let list = lent_list c.args.s c.copy_differences-n.result _ _ c.copy_differences-n.ensures.written c.copy_differences-n.ensures.count in
    derived_written c.args.s _ _ _ _ c.requires.0 c.requires.1 c.items.ensures list c.requires.2 c.pattern.ensures.written

pub returns-clause-count : goal.returns-clause-count
returns-clause-count c =
    let list = lent_list c.args.s c.copy_differences-n.result _ _ c.copy_differences-n.ensures.written c.copy_differences-n.ensures.count in
    derived-count c.args.s _ _ _ c.requires.0 c.requires.1 c.items.ensures list c.requires.2 _ _ c.unwrap.ensures c.pattern.ensures.answer
