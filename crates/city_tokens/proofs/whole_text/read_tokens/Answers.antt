use Rattle.city_tokens.proofs.Prelude.{◌≡◌, [], rules}
use Rattle.city_tokens.proofs.whole_text.read_tokens.Goals as goal

pub returns : goal.returns
returns g c = let none : c.from_tokens.new.reader ≡ [] = search rules in rw none at c.in_ok-read.ensures
