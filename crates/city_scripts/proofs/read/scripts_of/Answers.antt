use Rattle.city_scripts.proofs.Prelude.{◌∙◌, view}
use Rattle.city_tokens.proofs.Laws.{built_many, built_few}
use Rattle.city_scripts.proofs.read.scripts_of.Goals as goal

pub returns-then-len-gt-MAX_SCRIPTS : goal.returns-then-len-gt-MAX_SCRIPTS
returns-then-len-gt-MAX_SCRIPTS c =
    built_many view _ _ _ c.in-Some.ensures.list (c.len.ensures ∙ c.in-Some.items.ok.0) c.if-len-gt-MAX_SCRIPTS.true

pub returns : goal.returns
returns c = rw (built_few view (view c.args.tree) _ _ c.in-Some.ensures.list (c.len.ensures ∙ c.in-Some.items.ok.0)
    c.if-len-gt-MAX_SCRIPTS.false) c.scripts_of_items.ensures
