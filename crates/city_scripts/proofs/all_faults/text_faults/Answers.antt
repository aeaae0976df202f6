use Rattle.city_scripts.proofs.Prelude.{IfOk-weaker}
use Rattle.city_scripts.proofs.AllFaults.{too_long_alone, no_json_alone, not_whole_alone}
use Rattle.city_scripts.proofs.all_faults.text_faults.Goals as goal

pub returns-in-TooLong : goal.returns-in-TooLong
returns-in-TooLong c =
    IfOk-weaker c.alone.result _ _
    (λ faults is text h. rw is (too_long_alone text (rw c.in-TooLong.is at h))) c.alone.ensures

pub returns-in-NotJson : goal.returns-in-NotJson
returns-in-NotJson c =
    IfOk-weaker c.alone-in-NotJson.result _ _
    (λ faults is text h. rw is (no_json_alone text (rw c.in-NotJson.is at h))) c.alone-in-NotJson.ensures

pub returns-in-NotWhole : goal.returns-in-NotWhole
returns-in-NotWhole c =
    IfOk-weaker c.alone-in-NotWhole.result _ _
    (λ faults is text h. rw is (not_whole_alone text (rw c.in-NotWhole.is at h))) c.alone-in-NotWhole.ensures
