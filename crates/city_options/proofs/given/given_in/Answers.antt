use Rattle.std.proofs.Common.{Bool, List, Option, Some, codes, false, true, ℕ, ◌≡◌}
use Rattle.clap.specs.Words.{first_value, found_of, one_text}
use Rattle.clap.specs.declared.parser.matches.Found.{Found}
use Rattle.city_options.specs.CommandLines.{Atomic, Check, Decimals, Explain, Flag, Output, ReportOnly, Valued, Wait}
use Rattle.city_options.specs.CommandLines.{Watch, Workers, flag_name, value_name}
use Rattle.city_options.specs.declared.given.Given.{Given}
use Rattle.city_options.specs.internal.GivenLine.{IsFound, flag_given, flag_text, text_of, value_given}
use Rattle.city_options.proofs.given.given_in.Goals as goal

-- the flag is on if clap has its text, and off if clap has that of one that is off
abbrev Tells : Found → List ℕ → Bool → Type 0
Tells found name flag =
    (one_text found name ≡ Some (codes "true") → flag ≡ true)
    × (one_text found name ≡ Some (codes "false") → flag ≡ false)

told : (found : Found) (name : List ℕ) (flag is : Bool) → Tells found name flag
    → one_text found name ≡ Some (flag_text is) → flag ≡ is
told found name flag true tells text = tells.0 text
told found name flag false tells text = tells.1 text

abbrev Has : Found → List ℕ → Option (List ℕ) → Type 0
Has found name value = value ≡ first_value found name

module _ (found : Found) (given : Given) (workers : Has found (codes "workers") (text_of given.workers))
    (watch : Has found (codes "watch") (text_of given.watch)) (output : Has found (codes "output") (text_of given.output))
    (wait : Has found (codes "wait") (text_of given.wait)) (decimals : Tells found (codes "decimals") given.decimals)
    (atomic : Tells found (codes "atomic") given.atomic)
    (report_only : Tells found (codes "report-only") given.report_only)
    (check : Tells found (codes "check") given.check) (explain : Tells found (codes "explain") given.explain) where
  values : (o : Valued) → value_given given o ≡ first_value found (value_name o)
  values Workers = workers
  values Watch = watch
  values Output = output
  values Wait = wait

  flags : (f : Flag) → Tells found (flag_name f) (flag_given given f)
  flags Decimals = decimals
  flags Atomic = atomic
  flags ReportOnly = report_only
  flags Check = check
  flags Explain = explain

  all_found : Has found (codes "MODEL") (text_of given.model) → Has found (codes "SCRIPTS") (text_of given.scripts)
      → IsFound found given
  all_found model scripts = record {
    values = values;
    flags = λ f is. told found (flag_name f) (flag_given given f) is (flags f);
    model = model;
    scripts = scripts;
  }

pub returns : goal.returns
returns c = all_found (found_of c.args.matches.now) _ c.get_str.ensures c.get_str-2.ensures c.get_str-3.ensures
    c.get_str-4.ensures (c.get_flag.ensures.value, c.get_flag.ensures.other)
    (c.get_flag-2.ensures.value, c.get_flag-2.ensures.other) (c.get_flag-3.ensures.value, c.get_flag-3.ensures.other)
    (c.get_flag-4.ensures.value, c.get_flag-4.ensures.other) (c.get_flag-5.ensures.value, c.get_flag-5.ensures.other)
    c.get_str-5.ensures c.get_str-6.ensures
