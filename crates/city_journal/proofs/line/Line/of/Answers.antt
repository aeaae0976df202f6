use Rattle.std.proofs.Common.{◌++◌, codes}
use Rattle.city_journal.specs.LineTexts.{version_end}
use Rattle.city_journal.proofs.SaidRead.{commit_said, key_said, none_said}
use Rattle.city_journal.proofs.line.Line.of.Goals as goal

pub returns-in-Some : goal.returns-in-Some
returns-in-Some c = record {
  written = commit_said c.args.line.now c.in_ok-commit.field-0 c.in-Some.commit c.in_ok-commit.ensures.written
      c.in-Some.is (rw c.in-Some.is at c.in_ok-commit.ensures.begins);
}

pub returns-in-Some-key_of : goal.returns-in-Some-key_of
returns-in-Some-key_of c =
    let k = c.in-Some-key_of.key in
    record {
      written = key_said c.args.line.now c.in_ok-commit.field-0 k
          (k.key.now ++ (codes ",\"name\":" ++ (k.name.now ++ version_end k.version))) c.in_ok-commit.ensures.written
          c.in_default.is c.in-Some-key_of.ensures.found c.in-Some-key_of.ensures.written;
    }

pub returns-in-None : goal.returns-in-None
returns-in-None c = record {
  written = none_said c.args.line.now c.in_ok-commit.field-0 c.in_ok-commit.ensures.written c.in_default.is
      c.in_default-key_of.ensures.written c.in_default-saved_of.ensures.written;
}
