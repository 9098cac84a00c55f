use Rattle.std.proofs.Common.{◌≡◌, ◌≤◌, ◌∙◌, ap, arith, length, Err}
use Rattle.satl_frame.specs.declared.pulling.PullError.{PullError}
use Rattle.satl_frame.specs.declared.pulling.PullError.TheVariants.{Failed}
use Rattle.std.proofs.lemmas.List.{length-take-le}
use Rattle.satl_frame.proofs.Requested.{request_taken, request_bad, request_lengths, at_most_34}
use Rattle.satl_frame.proofs.Stopping.{fewer_after}
use Rattle.satl_frame.proofs.reader.pull_request.Goals as goal

pub returns-in-Ok-clause-request : goal.returns-in-Ok-clause-request
returns-in-Ok-clause-request g c =
    let small : c.head_size-size.result ≤ 34 = omega (arith, c.head_size-size.ensures, at_most_34 c.args.version) in
    let counted : length c.pull.new.buf ≡ c.head_size-size.result = c.pull.auto.buf ∙ length-take-le _ _ small in
    request_taken c.requires c.head_size-size.ensures c.in_ok-pull.ensures.bytes counted c.in-Some.ensures.found c.in-Ok.ensures.filled

pub returns-in-Ok-skip-clause-none : goal.returns-in-Ok-skip-clause-none
returns-in-Ok-skip-clause-none g c =
    let small : c.head_size-size.result ≤ 34 = omega (arith, c.head_size-size.ensures, at_most_34 c.args.version) in
    let counted : length c.pull.new.buf ≡ c.head_size-size.result = c.pull.auto.buf ∙ length-take-le _ _ small in
    request_bad c.requires c.head_size-size.ensures c.in_ok-pull.ensures.bytes counted c.in-None.ensures.none c.in-Ok-skip.ensures.bytes

pub returns-in-Err-clause-stopped : goal.returns-in-Err-clause-stopped
returns-in-Err-clause-stopped g c = λ e.
    let small : c.head_size-size.result ≤ 34 = omega (arith, c.head_size-size.ensures, at_most_34 c.args.version) in
    let counted : length c.pull.new.buf ≡ c.head_size-size.result = c.pull.auto.buf ∙ length-take-le _ _ small in
    let sizes = request_lengths c.args.version c.args.len c.requires in
    let same : c.in-Err.error ≡ Failed = cc in
    fewer_after (λ _. c.args.len) c.in_ok-pull.ensures.bytes (λ rest. omega (arith, counted, c.head_size-size.ensures, sizes.0)) (c.in-Err.ensures.stopped (ap (λ (x : PullError). Err x) same))

pub returns-in-Err-skip-clause-stopped : goal.returns-in-Err-skip-clause-stopped
returns-in-Err-skip-clause-stopped g c = λ e.
    let small : c.head_size-size.result ≤ 34 = omega (arith, c.head_size-size.ensures, at_most_34 c.args.version) in
    let counted : length c.pull.new.buf ≡ c.head_size-size.result = c.pull.auto.buf ∙ length-take-le _ _ small in
    let sizes = request_lengths c.args.version c.args.len c.requires in
    let same : c.in-Err-skip.error ≡ Failed = cc in
    fewer_after (λ _. c.args.len) c.in_ok-pull.ensures.bytes (λ rest. omega (arith, counted, c.head_size-size.ensures, sizes.0)) (c.in-Err-skip.ensures.stopped (ap (λ (x : PullError). Err x) same))
