use Rattle.city_scripts.proofs.Prelude.{IfOk-weaker}
use Rattle.city_scripts.proofs.FirstOfAll.{accepted_of_none, none_of_accepted, first_of_list, answered_first}
use Rattle.city_scripts.proofs.all_faults.script_faults_of.Goals as goal

pub returns : goal.returns
returns c =
    let text = c.args.bytes.now in
    record {
      faults = c.all_faults.ensures;
      accepted = IfOk-weaker c.all_faults.result _ _ (λ faults h. accepted_of_none text _ h) c.all_faults.ensures;
      none = λ accepted. IfOk-weaker c.all_faults.result _ _ (λ faults h. none_of_accepted text _ h accepted)
          c.all_faults.ensures;
      answered = IfOk-weaker c.all_faults.result _ _ (λ faults h. answered_first text _ h) c.all_faults.ensures;
      first = IfOk-weaker c.all_faults.result _ _ (λ faults h. first_of_list text _ h) c.all_faults.ensures;
    }
