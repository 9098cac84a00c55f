use Rattle.satl_base.specs.Limits.{input_limit}
use Rattle.satl_serve.specs.Moments.{sink_state}
use Rattle.satl_top.specs.Load.{load_of}
use Rattle.satl_top.proofs.LoadLemmas.{refusal_ends, stop_causes, stop_ends}
use Rattle.satl_top.proofs.loading.load.Goals as goal

pub returns-in-Ok-write_summary : goal.returns-in-Ok-write_summary
returns-in-Ok-write_summary g c = λ source. record {
  ends = (c.in-Ok.summary, c.in-Ok.ensures.loaded source _ _, c.in-Ok-write_summary.ensures.all);
  causes = tt;
  refused = λ fault is. absurd (c.in-Ok.ensures.refused fault is);
}

pub returns-in-Err-write_summary : goal.returns-in-Err-write_summary
returns-in-Err-write_summary g c = λ source. record {
  ends = (c.in-Ok.summary, c.in-Ok.ensures.loaded source _ _, c.in-Err-write_summary.ensures.part);
  causes = c.in-Err-write_summary.ensures.cause.failed;
  refused = λ fault is. absurd (c.in-Ok.ensures.refused fault is);
}

pub returns-in-Err : goal.returns-in-Err
returns-in-Err g c = λ source.
    let stopped = c.in-Err.ensures.stopped source (sink_state (g.K.Sink.written c.args.sink.now) (g.K.Sink.faults c.args.sink.now)) in
    record {
      ends = stop_ends input_limit (load_of c.args.seed c.args.requests) _ _ c.in-Err.fault c.from.result c.from.ensures stopped;
      causes = stop_causes _ _ c.in-Err.fault c.from.result c.from.ensures stopped;
      refused = λ fault is. refusal_ends fault c.in-Err.fault c.from.result c.from.ensures (c.in-Err.ensures.refused fault is);
    }
