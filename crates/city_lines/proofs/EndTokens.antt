-- The tokens of an end.
use Rattle.city_lines.proofs.Prelude.{◌≡◌, ◌++◌, ◌∷◌, List, Option, Some, None, ap, sym, refl, append-nil, codes, key}
use Rattle.city_lines.proofs.Prelude.{Data, Members, member, no_members, closing_members, tokens_of_members, tokens_of}
use Rattle.city_model.specs.declared.command.Cause.TheVariants.{NoMark}
use Rattle.city_model.specs.declared.command.Reply.{Reply}
use Rattle.city_model.specs.declared.end.Outcome.{Outcome}
use Rattle.city_writer.specs.report.Ends.{put_ending}
use Rattle.city_writer.specs.report.Replies.{reply_data}
use Rattle.city_writer.specs.tree.Lists.{list_data}
use Rattle.city_lines.specs.Told.{with_replies}

pub replies_first : (r : Option (List Reply)) (ms : Members)
    → closing_members (with_replies r ms) ≡ tokens_of_members (with_replies r no_members) ++ closing_members ms
replies_first None ms = refl
replies_first (Some rs) ms =
    ap (λ ts. key (codes "replies") ∷ (ts ++ closing_members ms))
    (sym (append-nil (tokens_of (list_data reply_data rs))))

-- the members of an outcome come before all others
pub ending_first : (o : Outcome) (name : Data) (ms : Members)
    → closing_members (put_ending o (member (codes "name") name ms))
    ≡ tokens_of_members (put_ending o no_members) ++ closing_members (member (codes "name") name ms)
ending_first (Outcome.Refused i (NoMark mark)) name ms = refl
ending_first _ name ms = refl
