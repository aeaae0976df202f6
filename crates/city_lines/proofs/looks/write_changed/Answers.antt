use Rattle.city_lines.proofs.Prelude.{◌∙◌, ◌∷◌, ◌++◌, ap, sym, append-nil, codes, key, tokens_of}
use Rattle.city_lines.specs.Told.{changed_data}
use Rattle.city_lines.proofs.Parts.{of_eight}
use Rattle.city_lines.proofs.looks.write_changed.Goals as goal

pub returns-clause-tokens : goal.returns-clause-tokens
returns-clause-tokens c =
    let old = c.args.out.now.tokens in
    rw (
      c.in_ok-end_object.ensures.ok,
      c.in_ok-write_number.ensures.tokens,
      c.in_ok-write_writes.ensures.tokens,
      c.in_ok-key-2.ensures.ok,
      c.in_ok-write_text-2.ensures.tokens,
      c.as_str-2.ensures,
    )
    (rw (
      c.in_ok-write_text.ensures.tokens,
      c.as_str.ensures,
      c.deref.ensures,
      c.in_ok-begin_object.ensures.ok,
      c.in_ok-key.ensures.ok,
    )
    (of_eight old _ _ _ _ _ _ _ _
    ∙ ap (λ ts. old ++ key (codes "changed") ∷ ts) (sym (append-nil (tokens_of (changed_data c.args.changed.now))))))
