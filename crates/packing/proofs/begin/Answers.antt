-- The file without items where neither stamp nor room is refused, else all as it was (Refusing).
use Rattle.fips197.proofs.Kit.{refl, ◌∙◌, rules}
use Rattle.files.proofs.Passing.{given_told, kept_told}
use Rattle.packing.specs.Packing.{begin_file_writes}
use Rattle.packing.proofs.Refusing.{begins_tell}
use Rattle.packing.proofs.begin.Goals as goal

pub returns-in_err-begin_refusal : goal.returns-in_err-begin_refusal
unfolding begin_file_writes
returns-in_err-begin_refusal c = record { refused = search rules; written = kept_told _ _ _ _ c.in_err-begin_refusal.ensures }

pub put_empty-requires : goal.put_empty-requires
put_empty-requires c = (begins_tell _ _ _ c.in_ok-begin_refusal.ensures refl).1

pub returns : goal.returns
unfolding begin_file_writes
returns c = record { refused = c.in_ok-begin_refusal.ensures; written = c.put_empty.ensures ∙ given_told _ _ _ c.in_ok-begin_refusal.ensures }
