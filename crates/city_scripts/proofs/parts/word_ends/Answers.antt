use Rattle.city_scripts.proofs.Prelude.{◌∙◌, sym, view}
use Rattle.city_scripts.proofs.CommandLists.{word_ends-drop}
use Rattle.city_scripts.proofs.parts.word_ends.Goals as goal

pub returns-then-is_end_word : goal.returns-then-is_end_word
returns-then-is_end_word c =
    sym (c.loop-i.invariant ∙ word_ends-drop view _ _ _ c.loop-i-test.true c.index-trees-i.is
    (sym c.is_end_word.ensures ∙ c.if-is_end_word.true))
