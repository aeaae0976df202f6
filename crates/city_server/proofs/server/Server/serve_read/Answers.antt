use Rattle.std.proofs.lemmas.Result.{on_err_weaker, on_ok_weaker}
use Rattle.city_server.proofs.Breaking.{breaks_out, breaks_same, bytes_same, bytes_written}
use Rattle.city_server.proofs.server.Server.serve_read.Goals as goal

pub returns-clause-ok : goal.returns-clause-ok
returns-clause-ok g c =
    on_ok_weaker c.write_out.result
    (λ o start begun is. bytes_same c.set_time.ensures.hands c.write_out.ensures.hands c.set_time.ensures.told
    (bytes_written (c.in_ok-serve_chunk.ensures.ok start begun is) o))
    c.write_out.ensures.ok

pub returns-clause-err : goal.returns-clause-err
returns-clause-err g c =
    on_err_weaker c.write_out.result
    (λ some start begun is. breaks_same c.set_time.ensures.hands c.set_time.ensures.told
    (breaks_out (c.in_ok-serve_chunk.ensures.ok start begun is) some))
    c.write_out.ensures.err
