-- The result of a finished desk, and its output as a run.
use Rattle.city_crew.proofs.Prelude.{arith, ◌≡◌, ℕ, List, [], ◌∷◌, ◌++◌, length, Option, End, CityValue, object_at}
use Rattle.city_crew.proofs.Prelude.{Change, city_text, report_text, IsReadFrom}
use Rattle.city_model.specs.Runs.{Scripted, model_after}
use Rattle.city_scheduler.specs.DeskState.{DeskState}
use Rattle.city_scheduler.specs.Serial.{IsSerial}
use Rattle.city_scheduler.proofs.Throughout.{lawful_throughout}
use Rattle.city_desk.specs.TextRuns.{IsRun}
use Rattle.city_crew.specs.internal.CrewResults.{IsResult}

pub is_result : (d : DeskState) (changes : List Change) (base : Option CityValue) (left : CityValue) (ends : List End)
    → IsSerial d changes base → length ends ≡ length d.scripts → left.0 ≡ d.start.0
    → object_at left.1 ≡ model_after d.scripts (object_at d.start.1) d.ends → ends ≡ d.ends
    → IsResult d.start d.scripts left ends
is_result d changes base left ends serial once frame model same =
    rw same (record {
      ran = record { each_once = grind arith; fits = serial.fits; lawful = lawful_throughout d changes base serial };
      frame = frame;
      model = model;
    })

pub is_run : (document scripts : List ℕ) (city : CityValue) (list : List Scripted) (left : CityValue) (ends : List End)
    (bytes : List ℕ) → IsReadFrom document scripts city list → IsResult city list left ends
    → bytes ≡ report_text ends ++ city_text left ++ 10 ∷ [] → IsRun document scripts ends bytes
is_run document scripts city list left ends bytes read result text = record {
  city = city;
  list = list;
  read = read;
  ran = result.ran;
  output = record { model = left.1; left = result.model; text = rw (← result.frame) text };
}
