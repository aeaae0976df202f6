use Rattle.city_decimals.specs.Attributes.{attributes}
use Rattle.city_decimals.proofs.Edits.{found_read, object_alone, set_kept, unset_kept, none_read, expect_kept}
use Rattle.city_decimals.proofs.Edits.{place_kept}
use Rattle.city_decimals.proofs.laws.what_is_edited.Goals as goal

pub returns-clause-finds : goal.returns-clause-finds
returns-clause-finds c ms ds h read = (found_read attributes ms ds read, object_alone)

pub returns-clause-sets : goal.returns-clause-sets
returns-clause-sets c = set_kept

pub returns-clause-unsets : goal.returns-clause-unsets
returns-clause-unsets c a d names h read =
    let left = unset_kept a d names h read in (left, none_read _ _ left.0)

pub returns-clause-expects : goal.returns-clause-expects
returns-clause-expects c = expect_kept

pub returns-clause-places : goal.returns-clause-places
returns-clause-places c = place_kept
