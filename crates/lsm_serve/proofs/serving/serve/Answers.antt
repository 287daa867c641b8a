use Rattle.std.proofs.lemmas.Result.{err_from_is_err_and}
use Rattle.lsm_serve.proofs.Syncs.{replied_to_none}
use Rattle.lsm_serve.proofs.serving.serve.Goals as goal

pub returns-in_err-chunk-clause-replies : goal.returns-in_err-chunk-clause-replies
returns-in_err-chunk-clause-replies g c requests ahead =
    let p = err_from_is_err_and c.from_residual.result c.from_residual.ensures.1 in
    rw (p.1, p.2) (replied_to_none c.args.store.now requests (g.W.Sink.contents c.args.writer.now), tt)
