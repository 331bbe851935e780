-- The file with the item where nothing refuses, else all as it was (Refusing).
use Rattle.fips197.proofs.Kit.{refl, ◌∙◌, rules}
use Rattle.files.proofs.Passing.{given_told, kept_told}
use Rattle.packing.specs.Packing.{append_writes}
use Rattle.packing.proofs.Refusing.{appendable}
use Rattle.packing.proofs.append.Goals as goal

pub returns-in_err-append_refusal : goal.returns-in_err-append_refusal
unfolding append_writes
returns-in_err-append_refusal c = record { refused = search rules; written = kept_told _ _ _ _ c.in_err-append_refusal.ensures }

pub put_item-requires : goal.put_item-requires
put_item-requires c =
    let p = appendable _ _ _ _ c.in_ok-append_refusal.ensures refl in
    (p.low, p.room, p.short, p.more)

pub returns : goal.returns
unfolding append_writes
returns c = record { refused = c.in_ok-append_refusal.ensures; written = c.put_item.ensures ∙ given_told _ _ _ c.in_ok-append_refusal.ensures }
