use Rattle.city_lines.proofs.Prelude.{◌≡◌, ◌++◌, drop, option_to_list, requests}
use Rattle.city_lines.proofs.members.Members.request.Given as goal

abbrev pub invariant-loop-member : goal.invariant-loop-member
invariant-loop-member l =
    requests l.self.list.items
    ≡ option_to_list l.found ++ requests (drop l.member-index l.self.list.items)
