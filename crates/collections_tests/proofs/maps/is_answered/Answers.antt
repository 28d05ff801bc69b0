use Rattle.txn_alloc.proofs.Maps.InJobs.{may_look, there_still}
use Rattle.collections_tests.proofs.maps.is_answered.Goals as goal

pub get-requires-clause-order : goal.get-requires-clause-order
get-requires-clause-order g c = may_look c.requires.order

pub returns-in_ok-get-in-Get-clause-order : goal.returns-in_ok-get-in-Get-clause-order
returns-in_ok-get-in-Get-clause-order g c =
    let got = c.in_ok-get-in-Get.ensures in
    there_still got.goes_on got.found c.requires.order
