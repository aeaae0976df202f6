use Rattle.city_desk.specs.RunFaults.{IsSerialFault}
use Rattle.city_desk.proofs.TextFaults.{document_fault, of_error, scripts_fault}
use Rattle.city_desk.proofs.texts.read_texts_by.Goals as goal

pub returns-in_err-city-clause-fault : goal.returns-in_err-city-clause-fault
returns-in_err-city-clause-fault g c =
    of_error _ (IsSerialFault c.args.document.now c.args.scripts.now) _ c.from_residual.ensures.1
    (document_fault c.args.document.now c.args.scripts.now c.in_err-city.field-0.0 c.in_err-city.ensures.fault)

pub returns-in_err-scripts-clause-fault : goal.returns-in_err-scripts-clause-fault
returns-in_err-scripts-clause-fault g c =
    of_error _ (IsSerialFault c.args.document.now c.args.scripts.now) _ c.from_residual-in_err-scripts.ensures.1
    (scripts_fault c.args.document.now c.args.scripts.now c.in_ok-city.city c.in_err-scripts.field-0.0
    c.in_ok-city.ensures.admitted c.in_err-scripts.ensures.fault)
