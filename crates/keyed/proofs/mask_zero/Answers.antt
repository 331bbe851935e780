-- The enciphered zero block, not doubled yet.
use Rattle.keyed.specs.Keyed.{mask_by, doubled}
use Rattle.keyed.proofs.mask_zero.Goals as goal

pub returns : goal.returns
unfolding mask_by doubled
returns c = c.encipher_with.ensures
