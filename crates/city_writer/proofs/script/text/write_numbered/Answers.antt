use Rattle.city_writer.proofs.Prelude.{[], ◌++◌, ap, subst, ◌∙◌, tokens_of, ReadsBack}
use Rattle.city_writer.specs.script.Canonical.{numbered_script, script_points}
use Rattle.city_writer.proofs.document.PutMembers.{all_pooled, on_ok}
use Rattle.city_writer.proofs.script.Parts.{script_written, script_read}
use Rattle.city_writer.proofs.script.text.write_numbered.Goals as goal

pub returns-clause-tokens : goal.returns-clause-tokens
returns-clause-tokens c =
    let s = c.args.script.now in
    let pool = c.write_commands.new.pool in
    let old = c.args.out.now.tokens in
    let added = rw c.commands.ensures.commands at c.in_ok-write_commands.ensures.pool in
    let pooled = all_pooled _ _ (script_points s) c.requires added in
    let commands = rw c.commands.ensures.commands at c.in_ok-write_commands.ensures.tokens [] in
    on_ok c.end_object.result c.end_object.ensures.ok (λ e.
    rw (e, c.in_ok-write_own_vertices.ensures.tokens, c.as_slice.ensures, c.in_ok-string.ensures.ok, c.as_str.ensures)
    (rw (c.name.ensures, c.in_ok-key-2.ensures.ok, commands, c.in_ok-key.ensures.ok, c.in_ok-begin_object.ensures.ok)
    (script_written pool s old ∙ ap (λ ps. old ++ tokens_of (numbered_script ps s)) pooled)))

pub returns-clause-writable : goal.returns-clause-writable
returns-clause-writable c =
    let s = c.args.script.now in
    let pool = c.write_commands.new.pool in
    let added = rw c.commands.ensures.commands at c.in_ok-write_commands.ensures.pool in
    let pooled = all_pooled _ _ (script_points s) c.requires added in
    let reads = rw c.commands.ensures.commands at c.in_ok-write_commands.ensures.reads in
    let kept = rw c.commands.ensures.commands at c.in_ok-write_commands.ensures.kept in
    let vertices = rw c.as_slice.ensures at c.in_ok-write_own_vertices.ensures.reads in
    let points = rw (c.as_slice.ensures, pooled) at c.in_ok-write_own_vertices.ensures.in_range in
    let small = rw c.as_slice.ensures at c.in_ok-write_own_vertices.ensures.fewer in
    on_ok c.end_object.result c.end_object.ensures.ok (λ e. record {
      reads = subst (λ ps. ReadsBack (numbered_script ps s)) pooled (script_read pool s (reads pool small) vertices);
      ends = c.commands.ensures.ends;
      kept = kept;
      points = points;
      fewer = rw pooled at small;
    })
