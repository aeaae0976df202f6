-- The commands to end a script: their trees are words to end one.
use Rattle.city_tokens.proofs.Prelude.{◌≡◌, List, [], ◌∷◌, Some, refl, arith, Data, Point, Command, ends_once}
use Rattle.city_tokens.proofs.Prelude.{command_of, all_read}
use Rattle.city_tokens.specs.script.CommandForms.{CommandForm}
use Rattle.city_tokens.specs.script.Scripts.{is_end_word, is_last, word_ends}
use Rattle.city_model.specs.Scripts.{is_end, is_empty_list}
use Rattle.city_tokens.specs.script.Commands.{command_of_form}
use Rattle.city_tokens.proofs.script.OwnForms.{is_end_form, form_ends}
use Rattle.city_tokens.proofs.tree.AllRead.{all_read-cons, all_read-nil}

command_end : (points : List Point) (f : CommandForm) (c : Command) → command_of_form points f ≡ Some c
    → is_end c ≡ is_end_form f
command_end points f c h = grind arith

-- a command ends its script just if its tree is a word to end one
pub command_of-end : (points : List Point) (d : Data) (c : Command) → command_of points d ≡ Some c
    → is_end c ≡ is_end_word d
command_of-end points d c h = grind (arith, command_end, form_ends)

is_empty-read : (points : List Point) (ds : List Data) (cs : List Command) → all_read (command_of points) ds ≡ Some cs
    → is_empty_list cs ≡ is_last ds
is_empty-read points ds cs h = grind arith

pub ends_once-read : (points : List Point) (ds : List Data) (cs : List Command)
    → all_read (command_of points) ds ≡ Some cs → ends_once cs ≡ word_ends ds
ends_once-read points [] cs h = rw (all_read-nil (command_of points) cs h)
ends_once-read points (d ∷ ds) cs h =
    let r = all_read-cons (command_of points) d ds cs h in
    rw (r.4, command_of-end points d r.0 r.2, is_empty-read points ds r.1 r.3, ends_once-read points ds r.1 r.3) refl
