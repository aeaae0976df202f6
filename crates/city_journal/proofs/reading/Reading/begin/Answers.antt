use Rattle.std.proofs.Common.{◌∙◌, ◌++◌, ◌∷◌, [], ap}
use Rattle.city_journal.proofs.JournalRead.{base_place, begun_is}
use Rattle.city_journal.proofs.reading.Reading.begin.Goals as goal

pub returns : goal.returns
returns c = record {
  written = λ sum d v is lt e.
      let said = c.in-Some.ensures.written sum d v is lt e in (
        said.1,
        begun_is c.new.result.items c.push.new.self.items c.in-Some.base.sum c.in-Some.base.version sum v
            c.new.ensures.items
            (c.in_ok-push.ensures.items
            ∙ ap (λ ps. ps ++ base_place c.in-Some.base.sum ∷ []) c.new-places.ensures.items) said.0 said.2,
      );
}
