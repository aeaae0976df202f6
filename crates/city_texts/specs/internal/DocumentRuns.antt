-- The model of `Runs`.
use Rattle.std.specs.Prelude.{ℕ, List}
use Rattle.city_texts.specs.declared.runs.Runs.TheInside.{Inside}
use Rattle.city_texts.specs.internal.Parts.{IsNextObject, IsNextVertex}
use Rattle.city_texts.specs.internal.Runs.{IsRun}

abbrev pub text_of : Inside → List ℕ
text_of a = a.text.now

abbrev pub AreRuns : Inside → Type 0
AreRuns a = IsRun IsNextObject a.text.now a.objects × IsRun IsNextVertex a.text.now a.vertices
