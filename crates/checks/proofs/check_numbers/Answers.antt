-- Both numbers stand in files that are not refused.
use Rattle.fips197.proofs.Kit.{ap₂, ◌∙◌, arith, eqb}
use Rattle.stamp.specs.declared.Stamp.{Stamp}
use Rattle.files.specs.Message.{items_at}
use Rattle.files.specs.TagFile.{tags_at}
use Rattle.files.specs.Refusals.{unless}
use Rattle.files.proofs.Messages.{headed}
use Rattle.files.proofs.Accepted.{formed}
use Rattle.checks.specs.Refused.{refuse25}
use Rattle.checks.proofs.check_numbers.Goals as goal

pub returns : goal.returns
unfolding refuse25
returns c =
    c.unless.ensures
    ∙ ap₂ (λ (a b : Stamp). unless (eqb a.number b.number) 25 0) c.stamp_of-own.ensures c.stamp_of-other.ensures

pub stamp_of-own-requires : goal.stamp_of-own-requires
unfolding items_at tags_at
stamp_of-own-requires c = omega (arith, headed _ c.args.message.now.headed)

pub stamp_of-other-requires : goal.stamp_of-other-requires
unfolding items_at tags_at
stamp_of-other-requires c = omega (arith, formed _ c.args.file.now.formed)
