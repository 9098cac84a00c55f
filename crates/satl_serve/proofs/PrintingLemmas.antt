-- What a printer tells, and what a counter counts.
use Rattle.std.proofs.Common.{◌≡◌, append_assoc, refl, sym, ap, arith, ◌∙◌, ℕ, List, [], ◌∷◌, ◌++◌}
use Rattle.std.proofs.lemmas.List.{append-nil}
use Rattle.std.specs.Prelude.{sum_by}
use Rattle.std.proofs.lemmas.List.Sums.{sum_by_push}
use Rattle.satl_base.specs.declared.reply.Scsi.TheVariants.{Good, CheckCondition, TaskSetFull}
use Rattle.satl_frame.specs.Output.{Answer}
use Rattle.satl_frame.specs.Output.Answer.{replied, managed, closed}
use Rattle.satl_io.specs.Causes.{total}
use Rattle.satl_text.specs.Totals.{data_count, data_sum, one_with, summary_of}
use Rattle.satl_text.specs.declared.summary.Summary.{Summary}
use Rattle.satl_text.proofs.TotalsLemmas.{totals_grow}
use Rattle.satl_direct.specs.Run.{joined}
use Rattle.satl_step.specs.Telling.{all_behind}
use Rattle.satl_serve.specs.Forms.{told}
use Rattle.satl_serve.specs.Growing.{counter_behind, totals_behind}
use Rattle.satl_serve.specs.Headline.{IsServedWhole}
use Rattle.satl_serve.specs.Moments.{Moment}
use Rattle.satl_serve.specs.Tellers.{IsServedBy, TellsIn}
use Rattle.satl_serve.specs.declared.printer.Counter.{Counter}
use Rattle.satl_serve.specs.declared.telling.Form.{Form}

-- ---- totals

none_more : (f : Answer → ℕ) (answers : List Answer) (answer : Answer) → f answer ≡ 0 → total (sum_by f (answers ++ answer ∷ [])) ≡ total (sum_by f answers)
none_more f answers answer uncounted = omega (arith, sum_by_push f answers answer, uncounted)

nothing_more : (n : ℕ) (answers : List Answer) (answer : Answer) → one_with Good answer ≡ 0 → one_with CheckCondition answer ≡ 0 → one_with TaskSetFull answer ≡ 0 → data_count answer ≡ 0 → data_sum answer ≡ 0 → summary_of n (answers ++ answer ∷ []) ≡ summary_of n answers
nothing_more n answers answer p q r s t =
    let good = none_more (one_with Good) answers answer p in
    let check = none_more (one_with CheckCondition) answers answer q in
    let full = none_more (one_with TaskSetFull) answers answer r in
    let bytes = none_more data_count answers answer s in
    let sum = none_more data_sum answers answer t in
    cc

-- the totals of answers and one more
totals_more : (n : ℕ) (answers : List Answer) (answer : Answer) → summary_of n (answers ++ answer ∷ []) ≡ totals_behind (summary_of n answers) answer
totals_more n answers (replied r) = totals_grow n answers (replied r)
totals_more n answers (managed nexus function response tag) = nothing_more n answers (managed nexus function response tag) refl refl refl refl refl
totals_more n answers closed = nothing_more n answers closed refl refl refl refl refl

-- ---- who prints, and who counts too

pub printer_tells : (form : Form) (p : Form) → p ≡ form → TellsIn (λ printer answer. told printer answer) (λ printer answer. printer) form p
printer_tells form p is earlier answer = ap (λ (x : Form). told x answer) (stays p earlier) ∙ ap (λ (f : Form). told f answer) is
  where
    stays : (p : Form) (answers : List Answer) → all_behind (λ printer answer. printer) p answers ≡ p
    stays p [] = refl
    stays p (x ∷ answers) = stays p answers

-- a counter that has told these answers
abbrev pub counter_of : Form → List Answer → Counter
counter_of form answers = record { printer = form; totals = summary_of 0 answers }

-- a counter has counted the answers that it has told
pub all_counted : (form : Form) (before answers : List Answer) → all_behind (λ counter answer. counter_behind counter answer) (counter_of form before) answers ≡ counter_of form (before ++ answers)
all_counted form before [] = ap (λ l. counter_of form l) (sym (append-nil before))
all_counted form before (x ∷ answers) =
    ap (λ (u : Summary). all_behind (λ counter answer. counter_behind counter answer) (record { printer = form; totals = u }) answers) (sym (totals_more 0 before x))
    ∙ (all_counted form (before ++ x ∷ []) answers ∙ ap (λ l. counter_of form l) (append_assoc before (x ∷ []) answers))

pub counter_tells : (form : Form) (c : Counter) → c ≡ counter_of form [] → TellsIn (λ counter answer. told counter.printer answer) (λ counter answer. counter_behind counter answer) form c
counter_tells form c is earlier answer =
    ap (λ (x : Counter). told x.printer answer) (ap (λ (x : Counter). all_behind (λ counter answer. counter_behind counter answer) x earlier) is ∙ all_counted form [] earlier)

-- what was served and told by a counter was counted
pub served_counted : (form : Form) (limit : ℕ) (c c' : Counter) (requests : ℕ) (before after : Moment) (summary : Summary) → c ≡ counter_of form [] → summary ≡ record c'.totals { requests = requests } → IsServedBy (λ counter answer. counter_behind counter answer) form limit c c' requests before after
    → IsServedWhole form limit summary before after
served_counted form limit c c' requests before after summary is totals_are served =
    let answers = joined served.to_end.run.groups in
    let last = served.told_so.teller ∙ (ap (λ (x : Counter). all_behind (λ counter answer. counter_behind counter answer) x answers) is ∙ all_counted form [] answers) in
    record {
      to_end = served.to_end;
      totals = totals_are ∙ (ap (λ (x : Counter). record x.totals { requests = requests }) last ∙ ap (λ (n : ℕ). record (summary_of 0 answers) { requests = n }) served.told_so.requests_are);
    }
