use Rattle.city_board.proofs.Prelude.{rules, object_at}
use Rattle.city_board.proofs.Applied.{is_after}
use Rattle.city_board.proofs.apply.apply.Goals as goal

pub returns : goal.returns
returns c = is_after c.args.city.now c.write_all.new.city c.args.change (object_at c.make_places.new.city.1)
    (search rules) (search rules) c.write_all.ensures.objects
