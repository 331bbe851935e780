-- The starred cases about planes, by computation.
use Rattle.fips197.proofs.Kit.{refl}
use mathlib.Core.Bool.{xor}
use Rattle.incidence.specs.Family.{rows_of, items_of, parity}
use Rattle.incidence.specs.Report.{cleared, named, number_named, disagreeing, some_unexplained, answer_by, answer}
use Rattle.plane.specs.Table.{item_counts, plane_items, tag_counts, plane_tags, limits, plane_limit, difference_lists, differences, pattern_lists, plane_pattern}
use Rattle.plane.specs.Plane.{on, made, plane}
use Rattle.affine.specs.Affine.{sized}
use Rattle.sizes.specs.Sizes.{affine_code, family_of}
use Rattle.sizes.specs.Cases.{PlaneCases, agrees_with, disagree, suspects}

pub planes : PlaneCases
unfolding family_of affine_code sized plane on made items_of rows_of parity xor plane_items item_counts plane_tags tag_counts plane_limit limits differences difference_lists plane_pattern pattern_lists agrees_with disagree suspects cleared named number_named disagreeing some_unexplained answer_by answer
planes = record {
  row-1 = refl;
  row-4 = refl;
  card-1 = refl;
  size-2-row-1 = refl;
  row-5-made = refl;
  row-5 = refl;
  changed-2-rows = refl;
  changed-2-named = refl;
  changed-2-says = refl;
  changed-1-2-rows = refl;
  changed-1-2-named = refl;
  changed-1-2-says = refl;
  changed-1-2-3-rows = refl;
  changed-1-2-3-named = refl;
  changed-1-2-3-says = refl;
}
