-- An amendment, as the code borrows it.
use Rattle.city_model.specs.Amendments as amendments
use Rattle.city_model.specs.declared.plan.amending.Amendment.{Amendment}

abbrev pub amendment_view : Amendment → amendments.Amendment
amendment_view (Amendment.NewBody body) = amendments.NewBody body.now
amendment_view (Amendment.Setting given) = amendments.Setting given.now
amendment_view (Amendment.Unsetting taken) = amendments.Unsetting taken.now
amendment_view (Amendment.Reshaping geometry) = amendments.Reshaping geometry.now
