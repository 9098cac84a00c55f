-- The laws of order, carried back to runs in which tags are used again.
use Rattle.std.proofs.Common.{◌≡◌, inl, refl, sym, ap, ◌∙◌, subst, ℕ, ◌+◌, Bool, true, List, [], ◌∷◌, ◌++◌, arith, map, length}
use Rattle.std.specs.Prelude.{slice_get}
use Rattle.std.specs.List.{AllByRecursion, range_with_len}
use Rattle.std.proofs.Math.Path.{fun_ext}
use Rattle.std.proofs.lemmas.List.{append-nil}
use Rattle.satl_base.specs.declared.block.Block.{Block}
use Rattle.satl_base.specs.declared.request.Request.{Request}
use Rattle.satl_base.specs.Lists.{IsIn}
use Rattle.satl_base.proofs.ListsLemmas.{in_right}
use Rattle.satl_frame.specs.declared.frames.Frame.{Frame}
use Rattle.satl_frame.specs.declared.frames.Frame.TheVariants as frames
use Rattle.satl_frame.specs.Output.{Answer}
use Rattle.satl_direct.specs.Device.{Device}
use Rattle.satl_direct.specs.Run.{Run, RunDeep, joined}
use Rattle.satl_laws.specs.ArrivalOrder.{AskOnce, IsInOrder, content, is_plain, read_at, was_done}
use Rattle.satl_laws.specs.OrderUnderErrors.{HasOutcomes, is_mild}
use Rattle.satl_laws.proofs.InOrderRuns.{arrival_order, order_under_errors}
use Rattle.satl_renaming.specs.UsedAgain.{ArrivalOrderUsedAgain, IsInOrderByPlace, OrderUnderErrorsUsedAgain, answers_for, was_done_at}
use Rattle.satl_renaming.proofs.AnswersBack.{answers_back, answers_of, done_back, good_back, retagged}
use Rattle.satl_renaming.proofs.Names.{at_first, names_at_first, own_tag}
use Rattle.satl_renaming.proofs.RenamedInputs.{ActAlike, all_renamed, asked_once, content_alike, frames_by, frames_by-append, mild_alike, plain_alike, renamed_at, request_at}
use Rattle.satl_renaming.proofs.RenamedRuns.{RenamedRun, groups_by, renamed_run}

-- ---- an input with its end

-- what stands before the last frame
pub record BeforeLast (all before : List Frame) (r : Request) : Type 0 where
  pub after : List Frame
  pub split : all ≡ before ++ frames.Request r ∷ after

-- a request does not stand last
before_end : (all before after : List Frame) (r : Request) → all ++ frames.End ∷ [] ≡ before ++ frames.Request r ∷ after → BeforeLast all before r
before_end [] [] after r h = absurd cc
before_end [] (b ∷ []) after r h = absurd cc
before_end [] (b ∷ c ∷ before) after r h = absurd cc
before_end (f ∷ all) [] after r h = record { after = all; split = ap (λ e. e ∷ all) cc }
before_end (f ∷ all) (b ∷ before) after r h =
    let same : f ≡ b = cc in
    let rest : all ++ frames.End ∷ [] ≡ before ++ frames.Request r ∷ after = cc in
    let k = before_end all before after r rest in
    record { after = k.after; split = ap (λ e. e ∷ all) same ∙ ap (λ l. b ∷ l) k.split }

-- END changes no block
content_end : (acted : Request → Bool) (trim : Bool) (x : ℕ) (all : List Frame) (was : Block) → content acted trim x (all ++ frames.End ∷ []) was ≡ content acted trim x all was
content_end acted trim x [] was = refl
content_end acted trim x (f ∷ all) was = content_end acted trim x all _

order_to_end : (acted : ℕ → Request → Bool) (first last : Device) (all : List Frame) (answers : List Answer) → IsInOrder acted first all answers last → IsInOrder acted first (all ++ frames.End ∷ []) answers last
order_to_end acted first last all answers o = record {
  reads = λ before after r reply lba count place. o.reads before (before_end all before after r place).after r reply lba count (before_end all before after r place).split;
  writes = λ x c there. o.writes x c there ∙ sym (content_end (acted x) first.identity.trim x all (read_at first.cells x));
}

-- ---- an input with a tag for each request

module _ (all : List Frame) (groups : List (List Answer)) where
  abbrev inputs : List Frame
  inputs = frames_by 0 at_first all

  abbrev pub answers : List Answer
  answers = joined (groups_by 0 at_first all groups)

  -- the answers to its tag are those to a request
  pub back_at : (before after : List Frame) (r : Request) → all ≡ before ++ frames.Request r ∷ after
      → answers_of r.nexus (own_tag (length before)) answers ≡ map (retagged (own_tag (length before))) (answers_of r.nexus (r.tag).0 (answers_for all groups (length before) r))
  back_at before after r h =
      subst (λ l. answers_of r.nexus (own_tag (length before)) (joined (groups_by 0 at_first l groups)) ≡ map (retagged (own_tag (length before))) (answers_of r.nexus (r.tag).0 (answers_for l groups (length before) r))) (sym h)
      (answers_back 0 at_first names_at_first before after r groups (own_tag (length before)) (ap own_tag (zero_more (length before))))
    where
      zero_more : (n : ℕ) → n ≡ 0 + n
      zero_more n = omega arith

  -- what is done by its place is done by its tag
  done_alike : ActAlike all (was_done_at all groups) (was_done answers)
  done_alike before after r h = done_back r (own_tag (length before)) answers (answers_for all groups (length before) r) (back_at before after r h)

  -- the order is the same
  order_back : (acted : ℕ → ℕ → Request → Bool) (renamed : ℕ → Request → Bool) → ((x : ℕ) → ActAlike all (acted x) (renamed x)) → (first last end : Device) → end.cells ≡ last.cells
      → IsInOrder renamed first inputs answers end → IsInOrderByPlace acted first all groups last
  order_back acted renamed alike first last end cells o = record {
    reads = λ before after r reply lba count place reads good.
        let k = renamed_at all before after r place in
        o.reads (frames_by 0 at_first before) k.later (request_at (length before) r) (record reply { tag = record { 0 = own_tag (length before) } }) lba count k.split reads
        (good_back r (own_tag (length before)) answers (answers_for all groups (length before) r) (back_at before after r place) reply good)
        ∙ ap (λ f. map f (range_with_len lba count)) (fun_ext (λ x. sym (content_alike all (acted x) (renamed x) (alike x) first.identity.trim x before (frames.Request r ∷ after) (read_at first.cells x) place)));
    writes = λ x c there.
        o.writes x c (ap (λ l. slice_get l x) cells ∙ there)
        ∙ sym (content_alike all (acted x) (renamed x) (alike x) first.identity.trim x all [] (read_at first.cells x) (sym (append-nil all)));
  }

-- ---- the laws

pub arrival_order_used_again : ArrivalOrderUsedAgain
arrival_order_used_again first last all groups deep run valid fresh plain free =
    let r : RenamedRun first last (all ++ frames.End ∷ []) groups 0 deep run = renamed_run run fresh.no_tasks free in
    let inputs_are : r.inputs ≡ frames_by 0 at_first all ++ frames.End ∷ [] = r.inputs_are ∙ frames_by-append 0 at_first all (frames.End ∷ []) in
    let renamed : Run first (frames_by 0 at_first all ++ frames.End ∷ []) 0 (joined r.answers) r.end =
    record { groups = r.answers; deep = r.depth; answer = refl; run = subst (λ l. RunDeep first l r.answers 0 r.end r.depth) inputs_are (subst (λ n. RunDeep first r.inputs r.answers n r.end r.depth) r.lost_is r.renamed) } in
    let law = arrival_order first r.end (frames_by 0 at_first all) (joined r.answers) renamed valid fresh
    (all_renamed (λ f. is_plain first.identity.trim f ≡ true) (λ names f h. plain_alike first.identity.trim names f h) 0 at_first all plain) (asked_once all) in
    let to_end : IsInOrder (λ x. was_done (joined r.answers)) first (frames_by 0 at_first (all ++ frames.End ∷ [])) (joined r.answers) r.end =
    subst (λ l. IsInOrder (λ x. was_done (joined r.answers)) first l (joined r.answers) r.end) (sym (frames_by-append 0 at_first all (frames.End ∷ []))) (order_to_end (λ x. was_done (joined r.answers)) first r.end (frames_by 0 at_first all) (joined r.answers) law) in
    order_back (all ++ frames.End ∷ []) groups (λ x. was_done_at (all ++ frames.End ∷ []) groups) (λ x. was_done (answers (all ++ frames.End ∷ []) groups)) (λ x. done_alike (all ++ frames.End ∷ []) groups) first last r.end (ap (λ d. d.cells) r.end_is)
    (subst (λ l. IsInOrder (λ x. was_done (joined l)) first (frames_by 0 at_first (all ++ frames.End ∷ [])) (joined l) r.end) r.answers_are to_end)

pub order_under_errors_used_again : OrderUnderErrorsUsedAgain
order_under_errors_used_again first last all groups losses deep run valid empty mild free =
    let r : RenamedRun first last all groups losses deep run = renamed_run run empty free in
    let renamed : Run first r.inputs r.lost (joined r.answers) r.end = record { groups = r.answers; deep = r.depth; answer = refl; run = r.renamed } in
    let law : HasOutcomes first r.inputs r.lost (joined r.answers) r.end renamed = order_under_errors first r.end r.inputs r.lost (joined r.answers) renamed valid empty
    (subst (AllByRecursion (λ f. is_mild first.identity.trim f ≡ true)) (sym r.inputs_are) (all_renamed (λ f. is_mild first.identity.trim f ≡ true) (λ names f h. mild_alike first.identity.trim names f h) 0 at_first all mild))
    (subst AskOnce (sym r.inputs_are) (asked_once all)) in
    let among : (before after : List Frame) (q : Request) → all ≡ before ++ frames.Request q ∷ after → IsIn (frames.Request (request_at (length before) q)) r.inputs =
    λ before after q place. subst (IsIn (frames.Request (request_at (length before) q))) (sym (r.inputs_are ∙ (renamed_at all before after q place).split)) (in_right _ (frames_by 0 at_first before) (frames.Request (request_at (length before) q) ∷ (renamed_at all before after q place).later) (inl refl)) in
    let done : (before after : List Frame) (q : Request) → all ≡ before ++ frames.Request q ∷ after → was_done (joined r.answers) (request_at (length before) q) ≡ was_done_at all groups (length before) q =
    λ before after q place. ap (λ l. was_done (joined l) (request_at (length before) q)) r.answers_are ∙ sym (done_alike all groups before after q place) in
    record {
      acted = λ x place q. law.acted x (request_at place q);
      done = λ x before after q place good. law.done x (request_at (length before) q) (among before after q place) (done before after q place ∙ good);
      refused = λ x before after q place idle bad. law.refused x (request_at (length before) q) (among before after q place) (r.waited q.nexus (length before) idle) (done before after q place ∙ bad);
      in_order = order_back all groups (λ x place q. law.acted x (request_at place q)) law.acted (λ x before after q place. refl) first last r.end (ap (λ d. d.cells) r.end_is)
          (subst (λ l. IsInOrder law.acted first (frames_by 0 at_first all) (joined l) r.end) r.answers_are (subst (λ l. IsInOrder law.acted first l (joined r.answers) r.end) r.inputs_are law.in_order));
    }
