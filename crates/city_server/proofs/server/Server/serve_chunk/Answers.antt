use Rattle.city_server.proofs.Breaking.{at_err, breaks_line, bytes_begin, bytes_kept, bytes_more}
use Rattle.city_server.proofs.server.Server.serve_chunk.Goals as goal

pub loop-line-init : goal.loop-line-init
loop-line-init g c = λ start begun is.
    bytes_begin start c.args.bytes.now c.args.begun.now.skip c.args.begun.now.kept.items c.args.self.now.hands
    c.args.self.now.told (g.W.Write.contents c.args.output.now.0) begun is

pub returns-in_err-serve_line-clause-err : goal.returns-in_err-serve_line-clause-err
returns-in_err-serve_line-clause-err g c =
    at_err c.from_residual.result
    (λ start begun is. breaks_line c.in-Some.line.now c.in-Some.more.now (c.loop-line.invariant start begun is)
    c.in-Some.ensures.1 c.in-Some.ensures.0 c.in_err-serve_line.ensures.err)

pub loop-line-preserved : goal.loop-line-preserved
loop-line-preserved g c = λ start begun is.
    bytes_more c.in-Some.line.now c.in-Some.more.now (c.loop-line.invariant start begun is)
    c.in-Some.ensures.1 c.in-Some.ensures.0 c.in_ok-serve_line.ensures.ok c.in_ok-serve_line.ensures.next

pub returns-clause-ok : goal.returns-clause-ok
returns-clause-ok g c = λ start begun is.
    bytes_kept (c.loop-line.invariant start begun is) c.in_default.ensures c.keep.ensures
