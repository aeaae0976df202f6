-- What a command line gives, as the code reads it.
use Rattle.std.specs.Prelude.{◌≡◌, ℕ, Bool, true, false, List, [], ◌∷◌, codes, Option, Some, None, option_map}
use Rattle.std.specs.Borrow.{Bor}
use Rattle.clap.specs.Words.{first_value, one_text}
use Rattle.clap.specs.declared.parser.matches.Found.{Found}
use Rattle.city_options.specs.CommandLines.{Atomic, Check, Decimals, Explain, Flag, Line, Output, ReportOnly, Valued}
use Rattle.city_options.specs.CommandLines.{Wait, Watch, Workers, flag_name, value_name}
use Rattle.city_options.specs.declared.given.Given.{Given}

abbrev pub text_of : Option (Bor (List ℕ)) → Option (List ℕ)
text_of = option_map (λ s. s.now)

abbrev pub value_given : Given → Valued → Option (List ℕ)
value_given given Workers = text_of given.workers
value_given given Watch = text_of given.watch
value_given given Output = text_of given.output
value_given given Wait = text_of given.wait

abbrev pub flag_given : Given → Flag → Bool
flag_given given Decimals = given.decimals
flag_given given Atomic = given.atomic
flag_given given ReportOnly = given.report_only
flag_given given Check = given.check
flag_given given Explain = given.explain

-- a name for SCRIPTS alone counts for nothing
abbrev pub names_of : Option (List ℕ) → Option (List ℕ) → List (List ℕ)
names_of None scripts = []
names_of (Some model) None = model ∷ []
names_of (Some model) (Some scripts) = model ∷ scripts ∷ []

-- the options and names, as a line
abbrev pub line_of : Given → Line
line_of given = record {
  value = value_given given;
  has = flag_given given;
  names = names_of (text_of given.model) (text_of given.scripts);
}

abbrev pub flag_text : Bool → List ℕ
flag_text true = codes "true"
flag_text false = codes "false"

-- these are clap's values for the options and the names
pub record IsFound (found : Found) (given : Given) : Type 0 where
  pub values : (o : Valued) → value_given given o ≡ first_value found (value_name o)
  pub flags : (f : Flag) (is : Bool) → one_text found (flag_name f) ≡ Some (flag_text is) → flag_given given f ≡ is
  pub model : text_of given.model ≡ first_value found (codes "MODEL")
  pub scripts : text_of given.scripts ≡ first_value found (codes "SCRIPTS")
